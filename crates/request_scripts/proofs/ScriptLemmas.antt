-- The requests of a script, of which short ones are kept.
use Rattle.std.proofs.Common.{◌≡◌, ◌<◌, ◌+◌, ℕ, List, [], ◌∷◌, ◌++◌, map, length, take, get_or, refl, sym, ap, ◌∙◌, subst}
use Rattle.std.proofs.lemmas.List.{map-append, map_push, take_more}
use Rattle.auction_rows.specs.declared.requests.{Facts.Facts, Request.Request}
use Rattle.request_scripts.proofs.RequestLemmas.{request_stays}
use Rattle.request_scripts.specs.ShortRequests.{HasRequest, HaveRequests, SaysRequest, request_from, requests_from}
use Rattle.request_scripts.specs.declared.short_request.ShortRequest.{ShortRequest}

-- what short requests say stays where facts are added
requests_stay : (all more : List Facts) (shorts : List ShortRequest) → HaveRequests all shorts →
    HaveRequests (all ++ more) shorts × (requests_from (all ++ more) shorts ≡ requests_from all shorts)
requests_stay all more [] have = (tt, refl)
requests_stay all more (short ∷ shorts) have =
    let here = request_stays all more short have.0 in
    let rest = requests_stay all more shorts have.1 in
    ((here.within, rest.0), ap (λ r. r ∷ requests_from (all ++ more) shorts) here.is ∙ ap (λ rs. request_from all short ∷ rs) rest.1)

-- one short request more has its facts too
have_pushed : (all : List Facts) (shorts : List ShortRequest) (short : ShortRequest) → HaveRequests all shorts → HasRequest all short → HaveRequests all (shorts ++ short ∷ [])
have_pushed all [] short have has = (has, tt)
have_pushed all (first ∷ shorts) short have has = (have.0, have_pushed all shorts short have.1 has)

-- one request more, at the end
module _ (all more facts : List Facts) (shorts now : List ShortRequest) (short : ShortRequest) (request : Request) (have : HaveRequests all shorts)
    (grown : facts ≡ all ++ more) (pushed : now ≡ shorts ++ short ∷ []) (says : SaysRequest facts short request) where
  said : SaysRequest (all ++ more) short request
  said = subst (λ fs. SaysRequest fs short request) grown says

  pub pushed_requests : requests_from facts now ≡ requests_from all shorts ++ request ∷ []
  pushed_requests =
      ap (λ fs. requests_from fs now) grown ∙ ap (requests_from (all ++ more)) pushed
      ∙ map-append (request_from (all ++ more)) shorts (short ∷ [])
      ∙ ap (λ rs. rs ++ request_from (all ++ more) short ∷ []) (requests_stay all more shorts have).1
      ∙ ap (λ r. requests_from all shorts ++ r ∷ []) said.is

  pub pushed_have : HaveRequests facts now
  pushed_have =
      subst (λ fs. HaveRequests fs now) (sym grown)
      (subst (HaveRequests (all ++ more)) (sym pushed) (have_pushed (all ++ more) shorts short (requests_stay all more shorts have).0 said.within))

-- one value more, made of the next of a list
pub one_more : {X Y : Type 0} (f : X → Y) (xs : List X) (n : ℕ) (x : X) (old now : List Y) (y : Y) → n < length xs → x ≡ get_or xs n x →
    now ≡ old ++ y ∷ [] → y ≡ f x → old ≡ map f (take n xs) → now ≡ map f (take (n + 1) xs)
one_more f xs n x old now y less is push value was =
    push ∙ ap (λ ys. ys ++ y ∷ []) was ∙ ap (λ v. map f (take n xs) ++ v ∷ []) (value ∙ ap f is)
    ∙ sym (map_push f (take n xs) (get_or xs n x)) ∙ ap (map f) (sym (take_more xs n x less))

-- one value more of the front of a list
pub front_more : {X : Type 0} (xs : List X) (n : ℕ) (x : X) (old now : List X) → n < length xs → x ≡ get_or xs n x → now ≡ old ++ x ∷ [] →
    old ≡ take n xs → now ≡ take (n + 1) xs
front_more xs n x old now less is push was =
    push ∙ ap (λ ys. ys ++ x ∷ []) was ∙ ap (λ v. take n xs ++ v ∷ []) is ∙ sym (take_more xs n x less)
