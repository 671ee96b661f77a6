use Rattle.std.proofs.Common.{take_all, ◌∙◌}
use Rattle.request_scripts.proofs.ScriptLemmas.{front_more}
use Rattle.request_scripts.proofs.script.Script.of.Goals as goal

pub loop-request-preserved : goal.loop-request-preserved
loop-request-preserved c =
    front_more c.args.requests.now c.loop-request.request-index c.request-item.result c.loop-request.script c.push.new.self
    c.loop-request-test.true c.request-item.is c.in_ok-push.ensures.pushed c.loop-request.invariant

pub returns : goal.returns
returns c = c.loop-request.invariant ∙ take_all c.loop-request.request-index c.args.requests.now c.loop-request-test.false
