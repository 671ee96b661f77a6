use Rattle.std.{proofs.Common.{ap, subst}, specs.Prelude.{IfOk}}
use Rattle.phase_permits.specs.Dealing.{HasDealtWith}
use Rattle.phase_transactions.specs.Workers.{WorkerState, with_try}
use Rattle.phase_tests.proofs.permits.split.perform.Goals as goal

pub returns : goal.returns
returns g c =
    let new = c.perform.new.self in record {
      stashed = λ is. ap (λ (w : WorkerState). w.key)
          (subst (λ answer. IfOk answer (HasDealtWith g.N.PhaseName.initial (with_try c.args.permit.now) new c.args.request.now c.args.index)) is c.perform.ensures.dealt).worker;
    }
