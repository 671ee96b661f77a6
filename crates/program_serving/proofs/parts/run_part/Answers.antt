use Rattle.std.proofs.Common.{subst, sym}
use Rattle.program_opening.specs.declared.faults.Fault.{Fault}
use Rattle.program_serving.proofs.StoppedRuns.{run_answers, run_fits, run_leaves, run_refused}
use Rattle.program_serving.specs.ServeFaults.{AreNotRunOn}
use Rattle.program_serving.proofs.parts.run_part.Goals as goal

pub returns-in-Ok-clause-runs : goal.returns-in-Ok-clause-runs
returns-in-Ok-clause-runs g c = λ book begins. record {
  answers = run_answers c.args.options.now c.args.auction c.policy.result c.args.scripts.items c.policy.ensures book begins c.in-Ok.outcome c.in-Ok.ensures.outcome;
  start = record {
    fits = run_fits c.args.options.now c.args.auction c.policy.result c.args.scripts.items c.policy.ensures book begins c.in-Ok.outcome c.in-Ok.ensures.limit c.in-Ok.ensures.outcome;
    of = run_leaves c.args.options.now c.args.auction c.policy.result c.args.scripts.items c.policy.ensures book begins c.in-Ok.outcome c.in-Ok.ensures.left;
  };
}

pub returns-in-Ok-clause-has : goal.returns-in-Ok-clause-has
returns-in-Ok-clause-has g c = λ had. record { book = _; is_of = c.in-Ok.ensures.left had.book had.is_of }

pub returns-in-Err-clause-refused : goal.returns-in-Err-clause-refused
returns-in-Err-clause-refused g c = λ book begins.
    subst (λ (f : Fault). AreNotRunOn c.args.options.now f book c.args.scripts.items) (sym c.fault_of.ensures)
    (run_refused c.args.options.now c.args.auction c.policy.result c.args.scripts.items c.policy.ensures book begins c.in-Err.stopped c.in-Err.ensures.stopped)
