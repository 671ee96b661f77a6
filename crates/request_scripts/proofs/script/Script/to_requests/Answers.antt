use Rattle.std.proofs.Common.{◌<◌, ◌≤◌, take_all, sym, subst, ◌∙◌}
use Rattle.std.proofs.lemmas.Option.{get_or_from_slice_get}
use Rattle.request_scripts.proofs.ScriptLemmas.{front_more}
use Rattle.request_scripts.proofs.script.Script.to_requests.Goals as goal

pub loop-place-preserved : goal.loop-place-preserved
loop-place-preserved c =
    front_more c.args.self.now c.loop-place.place c.request.result c.loop-place.requests.items c.push.new.self.items
    (subst (λ n. c.loop-place.place < n) c.len-place-end.ensures c.loop-place-test.true) (sym (get_or_from_slice_get c.args.self.now c.loop-place.place c.request.result c.request.result c.request.ensures))
    c.in_ok-push.ensures.items c.loop-place.invariant

pub returns : goal.returns
returns c = c.loop-place.invariant ∙ take_all c.loop-place.place c.args.self.now (subst (λ n. n ≤ c.loop-place.place) c.len-place-end.ensures c.loop-place-test.false)
