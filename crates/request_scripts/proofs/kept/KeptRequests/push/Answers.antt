use Rattle.std.proofs.Common.{◌<◌, ◌++◌, ◌∷◌, ◌∙◌, [], ap, arith, length, length-append, min, subst, sym}
use Rattle.std.proofs.lemmas.List.{length-map}
use Rattle.request_scripts.proofs.RequestLemmas.{one_fact_at_most}
use Rattle.request_scripts.proofs.ScriptLemmas.{pushed_have, pushed_requests}
use Rattle.request_scripts.specs.{KeptLists.{KeptList}, ShortRequests.{facts_in, request_from}}
use Rattle.request_scripts.proofs.kept.KeptRequests.push.Goals as goal

pub keep_request-short-requires : goal.keep_request-short-requires
keep_request-short-requires c =
    let k = c.self.inside in
    let room = subst (λ (l : KeptList). length l.requests < l.room) (sym c.self.view_is) c.requires in
    omega (arith, room, c.self.invariant.1, k.requests.ok.0, length-map k.requests.items (request_from k.facts.items), one_fact_at_most c.args.request.now)

pub push_reserved-requires : goal.push_reserved-requires
push_reserved-requires c =
    let k = c.self.inside in
    let room = subst (λ (l : KeptList). length l.requests < l.room) (sym c.self.view_is) c.requires in
    omega (arith, room, k.requests.ok.0, length-map k.requests.items (request_from k.facts.items))

pub invariant_of-self : goal.invariant_of-self
invariant_of-self c =
    let k = c.self.inside in
    let kept = c.keep_request-short in (
      pushed_have k.facts.items (facts_in c.args.request.now) kept.new.all.items k.requests.items c.push_reserved.new.self.items kept.result c.args.request.now c.self.invariant.0
          kept.ensures.kept c.push_reserved.ensures.items kept.ensures.says,
      omega (arith, c.self.invariant.1, kept.new.all.ok.0, ap length kept.ensures.kept, length-append k.facts.items (facts_in c.args.request.now), k.facts.ok.0, c.push_reserved.ensures.len, one_fact_at_most c.args.request.now),
    )

pub returns : goal.returns
returns c =
    let k = c.self.inside in let kept = c.keep_request-short in
    let requests =
    pushed_requests k.facts.items (facts_in c.args.request.now) kept.new.all.items k.requests.items c.push_reserved.new.self.items kept.result c.args.request.now c.self.invariant.0
    kept.ensures.kept c.push_reserved.ensures.items kept.ensures.says in
    let all = requests ∙ ap (λ (l : KeptList). l.requests ++ c.args.request.now ∷ []) c.self.view_is in
    let room = (λ i. min (c.push_reserved.ensures.capacity i) (kept.ensures.capacity i)) ∙ ap (λ (l : KeptList). l.room) c.self.view_is in
    λ i. record { requests = all i; room = room i }
