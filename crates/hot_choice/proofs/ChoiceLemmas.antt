-- Candidates as they are gathered, ranked, and taken from the front.
use Rattle.std.proofs.Common.{◌≡◌, ℕ, zero, suc, ◌+◌, ◌<◌, ◌≤◌, ◌||◌, min, false, cond, if◌then◌else◌, List, [], ◌∷◌, ◌++◌, map, filter, take, length, get_or, refl, sym, ap, ◌∙◌, arith, add-one}
use Rattle.std.proofs.{Math.Seq.{take-suc}, lemmas.Bool.{lt-leb}}
use Rattle.std.proofs.lemmas.List.{get_or-take, get_or-map, length-take, length-map, map-append, take-map, take_min}
use Rattle.std.specs.{List.{IsDistinct, list_any}, Prelude.{nat_le}}
use Rattle.auction_rows.proofs.RequestLemmas.{eq_is_same, same_either_way}
use Rattle.auction_rows.specs.{Requests.{same_object}, declared.requests.Object.{Object}}
use Rattle.auction_rows.specs.contracts.requests.ObjectPartialEq.TheImpl.{eq-value as object_eq}
use Rattle.hot_choice.specs.declared.choice.Candidate.{Candidate}
use Rattle.hot_choice.specs.inner.Ranking.{candidate, hot_ones}
use Rattle.phase_laws.proofs.ListLemmas.{all-get_or}

-- ---- gathering

module _ (threshold : ℕ) (items : List Candidate) (row : Object × ℕ) (rows left : List (Object × ℕ)) (is : left ≡ row ∷ rows) where
  pub row_skipped : row.1 < threshold → items ++ hot_ones threshold rows ≡ items ++ hot_ones threshold left
  row_skipped less =
      ap (λ b. items ++ map candidate (cond b (row ∷ filter (λ r. nat_le threshold r.1) rows) (filter (λ r. nat_le threshold r.1) rows))) (sym (lt-leb threshold row.1 less))
      ∙ ap (λ rs. items ++ hot_ones threshold rs) (sym is)

-- ---- taking the first

-- of distinct objects none stands among those before it
none_before : (objects : List Object) (i : ℕ) (d : Object) → IsDistinct same_object objects → i < length objects → list_any (same_object (get_or objects i d)) (take i objects) ≡ false
unfolding IsDistinct
none_before [] i d distinct less = absurd (omega arith)
none_before (x ∷ xs) zero d distinct less = refl
none_before (x ∷ xs) (suc i) d distinct less =
    ap (λ b. b || list_any (same_object (get_or xs i d)) (take i xs)) (same_either_way (get_or xs i d) x ∙ all-get_or (λ y. same_object x y ≡ false) xs i d (omega arith) distinct.0)
    ∙ none_before xs i d distinct.1 (omega arith)

any_is : (object : Object) (keys : List Object) → list_any (object_eq.it object) keys ≡ list_any (same_object object) keys
any_is object keys = λ i. list_any (λ other. eq_is_same object other i) keys

-- the set with one candidate more
pub one_more_kept : (cs : List Candidate) (n i : ℕ) (d : Candidate) (keys : List Object) → IsDistinct same_object (map (λ c. c.object) cs) → i < length (take n cs) → keys ≡ map (λ c. c.object) (take i cs) →
    (if list_any (object_eq.it (get_or (take n cs) i d).object) keys then keys else keys ++ (get_or (take n cs) i d).object ∷ []) ≡ map (λ c. c.object) (take (i + 1) cs)
one_more_kept cs n i d keys distinct less are =
    let len : length (take n cs) ≡ min n (length cs) = length-take n cs in
    let here : get_or (take n cs) i d ≡ get_or cs i d = get_or-take n cs i d (omega arith) in
    let object : (get_or (take n cs) i d).object ≡ get_or (map (λ c. c.object) cs) i d.object =
    ap (λ (c : Candidate). c.object) here ∙ sym (get_or-map (λ (c : Candidate). c.object) cs i d d.object (omega arith)) in
    let many : length (map (λ (c : Candidate). c.object) cs) ≡ length cs = length-map cs (λ (c : Candidate). c.object) in
    let absent : list_any (object_eq.it (get_or (take n cs) i d).object) keys ≡ false =
    any_is (get_or (take n cs) i d).object keys
    ∙ ap (λ (o : Object). list_any (same_object o) keys) object
    ∙ ap (list_any (same_object (get_or (map (λ c. c.object) cs) i d.object))) (are ∙ sym (take-map (λ (c : Candidate). c.object) i cs))
    ∙ none_before (map (λ c. c.object) cs) i d.object distinct (omega arith) in
    ap (λ b. if b then keys else keys ++ (get_or (take n cs) i d).object ∷ []) absent
    ∙ ap (λ ks. ks ++ (get_or (take n cs) i d).object ∷ []) are
    ∙ ap (λ (c : Candidate). map (λ c. c.object) (take i cs) ++ c.object ∷ []) here
    ∙ sym (map-append (λ c. c.object) (take i cs) (get_or cs i d ∷ []))
    ∙ ap (map (λ c. c.object)) (sym (take-suc cs i d (omega arith)))
    ∙ ap (λ m. map (λ c. c.object) (take m cs)) (sym (add-one i))

pub all_kept : (cs : List Candidate) (n i : ℕ) → i ≤ length (take (min (length cs) n) cs) → length (take (min (length cs) n) cs) ≤ i → map (λ c. c.object) (take i cs) ≡ map (λ c. c.object) (take n cs)
all_kept cs n i low high =
    let len : length (take (min (length cs) n) cs) ≡ min (min (length cs) n) (length cs) = length-take (min (length cs) n) cs in
    let is : i ≡ min (length cs) n = omega arith in
    let least : min (length cs) n ≡ min n (length cs) = omega arith in
    ap (λ m. map (λ c. c.object) (take m cs)) (is ∙ least) ∙ ap (map (λ c. c.object)) (take_min n cs)
