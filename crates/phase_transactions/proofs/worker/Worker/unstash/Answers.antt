use Rattle.std.proofs.Common.{◌+◌, ap, ◌∙◌}
use Rattle.phase_transactions.specs.{WorkerFields.{state_in}, Workers.{with_first_unstashed}}
use Rattle.phase_transactions.proofs.worker.Worker.unstash.Goals as goal

pub returns-clause-called : goal.returns-clause-called
returns-clause-called g c =
    let inside = c.self.inside in
    (λ i. record (state_in inside) { stash = c.forget_first.ensures i; left = inside.left + 1 })
    ∙ ap with_first_unstashed c.self.view_is
