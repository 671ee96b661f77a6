-- What a short request says, with facts at the end of the list and with more of them.
use Rattle.std.proofs.Common.{◌≡◌, ◌≤◌, ℕ, List, [], ◌∷◌, ◌++◌, length, ap, refl, sym, ◌∙◌, arith, length-append}
use Rattle.std.proofs.lemmas.List.{get_or_append_left, get_or_push}
use Rattle.auction_rows.specs.declared.requests.Request.TheVariants.{StoreItem}
use Rattle.auction_rows.specs.declared.requests.{Facts.Facts, Request.Request}
use Rattle.request_scripts.specs.ShortRequests.{facts_at, facts_in, request_from, HasRequest, SaysRequest}
use Rattle.request_scripts.specs.declared.short_request.ShortRequest.{ShortRequest}
use Rattle.request_scripts.specs.declared.short_request.ShortRequest.TheVariants as ask

-- the facts at the end of a list are said with their place
pub says_facts : (all old : List Facts) (facts : Facts) (place time : ℕ) (request : Request) → all ≡ old ++ facts ∷ [] → place ≡ length old →
    StoreItem facts time ≡ request → SaysRequest all (ask.StoreItem place time) request
says_facts all old facts place time request kept at is = record {
  within = omega (arith, at, ap length kept, length-append old (facts ∷ []));
  is = ap (λ f. StoreItem f time) (ap (λ fs. facts_at fs place) kept ∙ get_or_push old facts _ place (sym at)) ∙ is;
}

-- what is said stays where facts are added
pub request_stays : (all more : List Facts) (short : ShortRequest) → HasRequest all short → SaysRequest (all ++ more) short (request_from all short)
request_stays all more (ask.StoreItem facts time) h = record {
  within = omega (arith, length-append all more, h);
  is = ap (λ f. StoreItem f time) (get_or_append_left all more _ facts h);
}
request_stays all more short h = record { within = tt; is = refl }

-- a request stores no more facts than one
pub one_fact_at_most : (request : Request) → length (facts_in request) ≤ 1
one_fact_at_most (StoreItem facts time) = omega arith
one_fact_at_most request = omega arith
