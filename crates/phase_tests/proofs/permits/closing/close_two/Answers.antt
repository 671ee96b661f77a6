use Rattle.phase_tests.proofs.permits.KeyLemmas.{two_spent}
use Rattle.phase_tests.proofs.permits.closing.close_two.Goals as goal

pub close-requires : goal.close-requires
close-requires g c =
    let r = c.requires in
    two_spent c.args.boxes g.N.PhaseName.workers c.in_ok-keys.keys.items c.args.first c.args.second c.in_ok-keys.ensures.items r.two r.of r.workers r.idle
