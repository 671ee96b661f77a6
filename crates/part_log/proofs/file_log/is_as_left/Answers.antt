use Rattle.std.proofs.{Common.{◌≡◌, true, length}, lemmas.Result.{IfOk-weaker}}
use Rattle.std.specs.Prelude.{IfSome}
use Rattle.part_log.proofs.KeptLemmas.{of_length}
use Rattle.part_log.proofs.file_log.is_as_left.Goals as goal

pub returns-clause-just : goal.returns-clause-just
returns-clause-just g c =
    let held = g.F.AppendFile.held c.args.file.now in
    IfOk-weaker c.holds_just.result _ (λ same. same ≡ true → IfSome held (λ bytes. length bytes ≡ c.args.count)) (λ same is. of_length held c.args.count same is) c.holds_just.ensures.just
