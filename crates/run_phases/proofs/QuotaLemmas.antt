-- What each worker is given of its script.
use Rattle.std.proofs.Common.{◌≡◌, ℕ, zero, suc, ◌+◌, ◌<◌, ◌≤◌, List, [], ◌∷◌, ◌++◌, map, length, take, get_or, refl, sym, ap, ◌∙◌, arith}
use Rattle.std.{proofs.lemmas.List.{map-append}, specs.Prelude.{slice_index}}
use Rattle.auction_rows.specs.declared.requests.Request.{Request}
use Rattle.run_laws.specs.Serving.{script_of}

take_next : (scripts : List (List Request)) (n : ℕ) (script : List Request) → n < length scripts → script ≡ get_or scripts n script →
    take (n + 1) scripts ≡ take n scripts ++ script ∷ []
take_next [] n script less is = absurd (omega (arith, less))
take_next (x ∷ xs) zero script less is = ap (λ own. own ∷ []) (sym is)
take_next (x ∷ xs) (suc n) script less is =
    let e : suc n + 1 ≡ suc (n + 1) = omega arith in
    ap (λ m. take m (x ∷ xs)) e ∙ ap (λ ys. x ∷ ys) (take_next xs n script (omega (arith, less)) is)

-- one script more has its quota
pub quotas_more : (f : List Request → ℕ) (scripts : List (List Request)) (n : ℕ) (script : List Request) (old now : List ℕ) (quota : ℕ) →
    n < length scripts → script ≡ get_or scripts n script → now ≡ old ++ quota ∷ [] → quota ≡ f script →
    old ≡ map f (take n scripts) → now ≡ map f (take (n + 1) scripts)
quotas_more f scripts n script old now quota less is push value was =
    push ∙ ap (λ qs. qs ++ quota ∷ []) was ∙ ap (λ q. map f (take n scripts) ++ q ∷ []) value
    ∙ sym (map-append f (take n scripts) (script ∷ [])) ∙ ap (map f) (sym (take_next scripts n script less is))

pub quota_at : (f : List Request → ℕ) (scripts : List (List Request)) (n w : ℕ) → length scripts ≤ n → w < length scripts →
    slice_index (map f (take n scripts)) w ≡ f (script_of scripts w)
quota_at f [] n w all less = absurd (omega (arith, less))
quota_at f (s ∷ ss) zero w all less = absurd (omega (arith, all))
quota_at f (s ∷ ss) (suc n) zero all less = refl
quota_at f (s ∷ ss) (suc n) (suc w) all less = quota_at f ss n w (omega (arith, all)) (omega (arith, less))
