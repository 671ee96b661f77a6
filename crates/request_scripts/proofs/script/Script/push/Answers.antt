use Rattle.std.proofs.Common.{◌++◌, ◌∷◌, [], ap, ◌∙◌}
use Rattle.request_scripts.{proofs.ScriptLemmas.{pushed_requests}, specs.ShortRequests.{facts_in}}
use Rattle.request_scripts.proofs.script.Script.push.Goals as goal

pub returns-clause-pushed : goal.returns-clause-pushed
returns-clause-pushed c =
    let s = c.self.inside in let kept = c.keep_request-short in
    pushed_requests s.facts.items (facts_in c.args.request.now) kept.new.all.items s.requests.items c.push_reserved.new.self.items kept.result c.args.request.now c.self.invariant
    (kept.ensures.kept ∙ ap (λ facts. facts ++ facts_in c.args.request.now) c.reserve.ensures.items)
    (c.push_reserved.ensures.items ∙ ap (λ shorts. shorts ++ kept.result ∷ []) c.make_room.ensures.same) kept.ensures.says
    ∙ ap (λ requests. requests ++ c.args.request.now ∷ []) c.self.view_is
