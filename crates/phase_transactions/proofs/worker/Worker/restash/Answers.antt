use Rattle.std.proofs.Common.{◌≡◌, ◌<◌, ◌+◌, ◌-◌, sym, subst, ◌∙◌, arith}
use Rattle.phase_transactions.specs.{WorkerFields.{state_in}, Workers.{WorkerState}}
use Rattle.phase_transactions.proofs.worker.Worker.restash.Goals as goal

pub returns-clause-before : goal.returns-clause-before
returns-clause-before g c =
    let inside = c.self.inside in
    let some : 0 < inside.left = subst (λ (w : WorkerState). 0 < w.left) (sym c.self.view_is) c.requires.left in
    let back : inside.left ≡ inside.left - 1 + 1 = omega (arith, some) in
    sym c.self.view_is ∙ (λ i. record (state_in inside) { stash = c.recall.ensures.first i; left = back i })
