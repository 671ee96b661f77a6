-- The requests of two scripts, one after the other.
use Rattle.std.proofs.Common.{◌≡◌, ◌<◌, ◌+◌, ◌-◌, ℕ, zero, suc, List, [], ◌∷◌, ◌++◌, map, length, take, get_or, refl, ap, ◌∙◌, arith, length-append, append_assoc}
use Rattle.std.proofs.lemmas.List.{get_or-append_right}
use Rattle.auction_rows.specs.declared.requests.{Facts.{Facts}, Request.TheVariants.{StoreItem}}
use Rattle.request_scripts.proofs.{RequestLemmas.{request_stays}, ScriptLemmas.{one_more}}
use Rattle.request_scripts.specs.ShortRequests.{HasRequest, HaveRequests, SaysRequest, request_from, requests_from}
use Rattle.request_scripts.specs.declared.short_request.ShortRequest.{ShortRequest}
use Rattle.request_scripts.specs.inner.Shifting.{shifted}
use Rattle.request_scripts.specs.declared.short_request.ShortRequest.TheVariants as ask

-- a short request that lies after others
facts_after : (front back : List Facts) (n : ℕ) (d : Facts) → get_or (front ++ back) (length front + n) d ≡ get_or back n d
facts_after front back n d =
    let less : length front + n - length front ≡ n = omega arith in
    get_or-append_right front back (length front) (length front + n) d refl (omega arith) ∙ ap (λ k. get_or back k d) less

says_shifted : (front back : List Facts) (short : ShortRequest) → HasRequest back short → SaysRequest (front ++ back) (shifted (length front) short) (request_from back short)
says_shifted front back (ask.StoreItem facts time) has = record {
  within = omega (arith, length-append front back, has);
  is = ap (λ f. StoreItem f time) (facts_after front back facts _);
}
says_shifted front back short has = record { within = tt; is = refl }

-- what the requests of two scripts say, of which the second's lie after the first's
both_say : (front back : List Facts) (shorts more : List ShortRequest) → HaveRequests front shorts → HaveRequests back more
    → HaveRequests (front ++ back) (shorts ++ map (shifted (length front)) more) × (requests_from (front ++ back) (shorts ++ map (shifted (length front)) more) ≡ requests_from front shorts ++ requests_from back more)
both_say front back [] [] first second = (tt, refl)
both_say front back [] (short ∷ more) first second =
    let here = says_shifted front back short second.0 in
    let rest = both_say front back [] more tt second.1 in
    ((here.within, rest.0), ap (λ r. r ∷ requests_from (front ++ back) (map (shifted (length front)) more)) here.is ∙ ap (λ rs. request_from back short ∷ rs) rest.1)
both_say front back (short ∷ shorts) more first second =
    let here = request_stays front back short first.0 in
    let rest = both_say front back shorts more first.1 second in
    ((here.within, rest.0), ap (λ r. r ∷ requests_from (front ++ back) (shorts ++ map (shifted (length front)) more)) here.is ∙ ap (λ rs. request_from front short ∷ rs) rest.1)

-- the next of short requests has its facts
pub has_next : (all : List Facts) (shorts : List ShortRequest) (i : ℕ) (short : ShortRequest) → HaveRequests all shorts → i < length shorts → HasRequest all (get_or shorts i short)
has_next all [] i short have less = absurd (omega (arith, less))
has_next all (s ∷ shorts) zero short have less = have.0
has_next all (s ∷ shorts) (suc i) short have less = has_next all shorts i short have.1 (omega (arith, less))

-- a script with another one's requests at its end
pub appended : (facts more now : List Facts) (shorts others new : List ShortRequest) (before : ℕ) → HaveRequests facts shorts → HaveRequests more others → now ≡ facts ++ more → before ≡ length facts
    → new ≡ shorts ++ map (shifted before) others → HaveRequests now new × (requests_from now new ≡ requests_from facts shorts ++ requests_from more others)
appended facts more now shorts others new before first second grown at pushed =
    rw (pushed, at, grown) (both_say facts more shorts others first second)

-- one short request more, at the end of others
pub shifted_more : (f : ShortRequest → ShortRequest) (shorts others old now : List ShortRequest) (i : ℕ) (short new : ShortRequest) → i < length others → short ≡ get_or others i short
    → now ≡ old ++ new ∷ [] → new ≡ f short → old ≡ shorts ++ map f (take i others) → now ≡ shorts ++ map f (take (i + 1) others)
shifted_more f shorts others old now i short new less is push value was =
    let front = map f (take i others) in
    push ∙ ap (λ (ss : List ShortRequest). ss ++ new ∷ []) was ∙ append_assoc shorts front (new ∷ [])
    ∙ ap (λ (ss : List ShortRequest). shorts ++ ss) (one_more f others i short front (front ++ new ∷ []) new less is refl value refl)
