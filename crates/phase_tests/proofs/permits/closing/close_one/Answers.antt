use Rattle.std.proofs.Common.{rules, ◌≡◌, ◌∷◌, []}
use Rattle.phase_tests.proofs.permits.KeyLemmas.{one_spent}
use Rattle.phase_tests.proofs.permits.closing.close_one.Goals as goal

pub close-requires : goal.close-requires
close-requires g c =
    let only : c.push_reserved.new.self.items ≡ c.args.key ∷ [] = search rules in
    one_spent c.args.boxes g.N.PhaseName.workers c.push_reserved.new.self.items c.args.key only c.requires.key
