use Rattle.hot_choice.proofs.RunLemmas.{none_put, run_put}
use Rattle.hot_choice.proofs.runs.end_run.Goals as goal

pub returns-in_ok-push : goal.returns-in_ok-push
returns-in_ok-push c = run_put c.args.runs.now.items c.push.new.self.items c.args.run c.in-Some.last c.in-Some.is c.in_ok-push.ensures.items

pub returns-in_default : goal.returns-in_default
returns-in_default c = none_put c.args.runs.now.items c.args.run c.in_default.is
