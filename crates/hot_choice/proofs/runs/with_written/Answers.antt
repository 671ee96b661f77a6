use Rattle.hot_choice.proofs.RunLemmas.{run_begins, run_ends, run_goes_on, run_waits}
use Rattle.hot_choice.proofs.runs.with_written.Goals as goal

pub returns-in_default : goal.returns-in_default
returns-in_default c = run_waits c.args.runs.now.items c.args.run c.args.written c.in_default.is

pub returns-in_default-run : goal.returns-in_default-run
returns-in_default-run c = run_begins c.args.runs.now.items c.args.run c.args.written c.in-Some.object c.in_default-run.is c.in-Some.is

pub returns-in-Some-with : goal.returns-in-Some-with
returns-in-Some-with c =
    run_goes_on c.args.runs.now.items c.args.run c.args.written c.in-Some-run.last c.in-Some-with.grown c.in-Some.object c.in-Some-run.is c.in-Some.is c.in-Some-with.ensures

pub returns : goal.returns
returns c =
    run_ends c.args.runs.now.items c.push.new.self.items c.args.run c.args.written c.in-Some-run.last c.in-Some.object c.in-Some-run.is c.in-Some.is c.in_ok-push.ensures.items
