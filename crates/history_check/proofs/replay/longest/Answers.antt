use Rattle.history_check.proofs.ScriptLemmas.{all_here}
use Rattle.history_check.proofs.replay.longest.Goals as goal

pub returns : goal.returns
returns c = all_here c.args.scripts.now c.loop-script.most c.loop-script.script-index c.loop-script-test.false c.loop-script.invariant
