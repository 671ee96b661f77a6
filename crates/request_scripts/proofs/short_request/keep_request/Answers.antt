use Rattle.std.proofs.Common.{length, sym, ap, subst, ◌++◌, ◌∙◌, vec_len, vec_capacity}
use Rattle.request_scripts.proofs.RequestLemmas.{says_facts}
use Rattle.request_scripts.specs.ShortRequests.{facts_in, HasListRoom}
use Rattle.request_scripts.proofs.short_request.keep_request.Goals as goal

pub keep_one-requires : goal.keep_one-requires
keep_one-requires c =
    subst (λ request. HasListRoom (length (facts_in request)) (vec_len c.args.all.now) (vec_capacity c.args.all.now)) c.in-StoreItem.is c.requires

pub returns-in-StoreItem-clause-kept : goal.returns-in-StoreItem-clause-kept
returns-in-StoreItem-clause-kept c =
    c.keep_one.ensures.kept ∙ ap (λ more. c.args.all.now.items ++ more) (ap facts_in (sym c.in-StoreItem.is))

pub returns-in-StoreItem-clause-says : goal.returns-in-StoreItem-clause-says
returns-in-StoreItem-clause-says c =
    says_facts _ c.args.all.now.items c.in-StoreItem.facts _ _ _ c.keep_one.ensures.kept (c.keep_one.ensures.place ∙ c.args.all.now.ok.0)
    (sym c.in-StoreItem.is)
