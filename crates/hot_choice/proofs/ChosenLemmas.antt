-- The ranked candidates are the objects to be chosen, in their order.
use Rattle.std.proofs.Common.{◌≡◌, ◌↔◌, ℕ, zero, suc, ◌+◌, ◌<◌, Bool, true, false, cond, List, [], ◌∷◌, map, filter, take, length, get_or, Some, None, IsSome, Contains, inl, inr, refl, sym, ap, subst, ◌∙◌, arith, Option}
use Rattle.std.proofs.lemmas.{Bool.{false≢true}, Cmp.{back_total}}
use Rattle.std.proofs.lemmas.List.{Elements.{Contains-get_or}, get_or-map, length-map, take-map}
use Rattle.std.proofs.lemmas.List.Sorted.{IsPermutation-map}
use Rattle.std.proofs.lemmas.Map.Entries.{lookup-filter-values, option_filter}
use Rattle.std.proofs.lemmas.Map.Keys.{IsDistinct-IsPermutation, apart_from_distinct, sorted_from_all_adjacent}
use Rattle.std.proofs.lemmas.Map.Made.{IsDistinct-keys_filter}
use Rattle.std.proofs.lemmas.Map.Views.{IsSome-lookup_from_Contains, Contains-keys_from_lookup, lookup-from_Contains}
use Rattle.std.specs.{Cmp.{IsEquivalence}, List.{IsDistinct, AllByRecursion}}
use Rattle.std.specs.{List.Sorted.{IsStrictlySortedBy}, Map.{keys_of, lookup}}
use Rattle.std.specs.Ordering.{nat_cmp, is_lt, ordering_then, ordering_reverse, flip_args}
use Rattle.std.specs.{Prelude.{nat_le, IsPermutation}, declared.cmp.Ordering.{Ordering}}
use Rattle.std.specs.declared.cmp.Ordering.TheVariants.{Less, Equal, Greater}
use Rattle.phase_laws.proofs.DescendingLemmas.{descending_same}
use Rattle.phase_laws.proofs.MemberLemmas.{Contains-first, Contains-later, Contains-cases, Contains-nothing, all-member, filter-member, permuted_members}
use Rattle.phase_laws.proofs.{OrderLemmas.{all-map}, TopLemmas.{top_first, top_same_members}}
use Rattle.phase_laws.specs.Ranking.{IsDescending}
use Rattle.auction_rows.proofs.OrderLemmas.{heat_total, heat_same}
use Rattle.auction_rows.proofs.RequestLemmas.{same_object-true, same_objects, same_either_way}
use Rattle.auction_rows.specs.Choosing.{objects_written, heat, heat_cmp, choose}
use Rattle.auction_rows.specs.{Orders.{object_cmp}, Requests.{same_object}}
use Rattle.auction_rows.specs.declared.requests.Object.TheVariants.{User}
use Rattle.auction_rows.specs.declared.{requests.Object.Object, rows.Entry.Entry}
use Rattle.run_laws.proofs.CountLemmas.{how_many, how_many-is}
use Rattle.hot_choice.specs.declared.choice.Candidate.{Candidate}
use Rattle.hot_choice.specs.inner.Ranking.{heat_shown, if_enough, HasHeats, candidate, candidate_cmp, hot_ones, IsRanking}
use Rattle.hot_choice.specs.inner.Runs.{AreWritten}

-- nothing is chosen where nothing may be
pub none_chosen : (es : List Entry) (threshold : ℕ) → choose es threshold 0 ≡ []
none_chosen es threshold = top_first (heat_total es) 0 (filter (λ o. nat_le threshold (heat es o)) (objects_written es))

pub same_laws : IsEquivalence same_object
same_laws = record {
  refl = λ x. (same_objects x x).1 refl;
  symm = same_either_way;
  congr = λ x y z e. ap (λ o. same_object o z) (same_object-true x y e);
}

-- ---- objects with heat are those that are written

unwritten : (object : Object) (xs : List Object) → Contains xs object → how_many (λ other. same_object other object) xs ≡ 0 → ⊥
unwritten object [] there none = Contains-nothing object there
unwritten object (x ∷ xs) there none = elim (Contains-cases x xs object there) [
  | inl is ↦ let one : same_object x object ≡ true = (same_objects x object).1 is in
      let e : cond true 1 0 + how_many (λ other. same_object other object) xs ≡ 0 = subst (λ b. cond b 1 0 + how_many (λ other. same_object other object) xs ≡ 0) one none in omega arith
  | inr later ↦ unwritten object xs later (omega (arith, none))
]

written : (object : Object) (xs : List Object) → 0 < how_many (λ other. same_object other object) xs → Contains xs object
written object [] some = absurd (omega arith)
written object (x ∷ xs) some = go (same_object x object) refl some (written object xs) where
  go : (b : Bool) → same_object x object ≡ b → 0 < cond b 1 0 + how_many (λ other. same_object other object) xs →
      (0 < how_many (λ other. same_object other object) xs → Contains xs object) → Contains (x ∷ xs) object
  go true is more again = subst (Contains (x ∷ xs)) (same_object-true x object is) (Contains-first x xs)
  go false is more again = Contains-later x xs object (again (omega arith))

-- what a table shows of an object that is hot enough
shown : (threshold n : ℕ) → IsSome (option_filter (nat_le threshold) (heat_shown n)) → (0 < n) × (nat_le threshold n ≡ true)
shown threshold zero some = absurd (false≢true some)
shown threshold (suc n) some = (omega arith, go (nat_le threshold (suc n)) some) where
  go : (b : Bool) → IsSome (cond b (Some (suc n)) None) → b ≡ true
  go true h = refl
  go false h = absurd (false≢true h)

is_shown : (threshold n : ℕ) → 0 < n → nat_le threshold n ≡ true → IsSome (option_filter (nat_le threshold) (heat_shown n))
is_shown threshold zero some le = absurd (omega arith)
is_shown threshold (suc n) some le = subst (λ b. IsSome (cond b (Some (suc n)) None)) (sym le) refl

shown_is : (threshold n m : ℕ) → if_enough threshold (heat_shown n) ≡ Some m → m ≡ n
shown_is threshold zero m is = absurd (cc)
shown_is threshold (suc n) m is = go (nat_le threshold (suc n)) is where
  go : (b : Bool) → cond b (Some (suc n)) None ≡ Some m → m ≡ suc n
  go true shown = cc
  go false none = absurd (cc)

filtered : (threshold : ℕ) (found : Option ℕ) → option_filter (nat_le threshold) found ≡ if_enough threshold found
filtered threshold None = refl
filtered threshold (Some n) = refl

-- ---- lists in order

pub from_members : {X : Type 0} (P : X → Type 0) (xs : List X) → ((x : X) → Contains xs x → P x) → AllByRecursion P xs
from_members P [] h = tt
from_members P (x ∷ xs) h = (h x (Contains-first x xs), from_members P xs (λ y there. h y (Contains-later x xs y there)))

descending_from_sorted : {E : Type 0} (order : E → E → Ordering) (xs : List E) → IsStrictlySortedBy (flip_args order) xs → IsDescending order xs
unfolding IsStrictlySortedBy
descending_from_sorted order [] sorted = tt
descending_from_sorted order (x ∷ xs) sorted = (sorted.0, descending_from_sorted order xs sorted.1)

names : (rows : List (Object × ℕ)) → map (λ c. c.object) (map candidate rows) ≡ keys_of rows
names [] = refl
names (row ∷ rows) = ap (λ os. row.0 ∷ os) (names rows)

module _ (table : List (Object × ℕ)) (threshold : ℕ) (cs : List Candidate) (once : IsDistinct same_object (keys_of table)) (rank : IsRanking table threshold cs) where
  named : IsPermutation (keys_of (filter (λ row. nat_le threshold row.1) table)) (map (λ c. c.object) cs)
  named = subst (λ os. IsPermutation os (map (λ c. c.object) cs)) (names (filter (λ row. nat_le threshold row.1) table))
      (IsPermutation-map (λ (c : Candidate). c.object) (hot_ones threshold table) cs rank.all)

  pub distinct : IsDistinct same_object (map (λ c. c.object) cs)
  distinct = IsDistinct-IsPermutation same_object same_either_way (keys_of (filter (λ row. nat_le threshold row.1) table)) (map (λ c. c.object) cs) named
      (IsDistinct-keys_filter same_object (λ row. nat_le threshold row.1) table once)

module _ (es : List Entry) (objects : List Object) (table : List (Object × ℕ)) (threshold : ℕ) (cs : List Candidate) (are : AreWritten es objects) (has : HasHeats objects threshold table) (rank : IsRanking table threshold cs) where
  heats : (object : Object) → if_enough threshold (lookup (same_object object) table) ≡ if_enough threshold (heat_shown (heat es object))
  heats object = has.heats object ∙ ap (λ n. if_enough threshold (heat_shown n)) (are object)

  -- each candidate has its heat
  row_right : (row : Object × ℕ) → Contains table row → nat_le threshold row.1 ≡ true → row.1 ≡ heat es row.0
  row_right row there enough =
      shown_is threshold (heat es row.0) row.1
      (sym (heats row.0) ∙ ap (if_enough threshold) (lookup-from_Contains same_laws row.0 row.1 table has.once there) ∙ ap (λ b. cond b (Some row.1) None) enough)

  right : (c : Candidate) → Contains cs c → c.heat.0 ≡ heat es c.object
  right c there = all-member (λ c. c.heat.0 ≡ heat es c.object) (hot_ones threshold table) c
      (all-map candidate (λ c. c.heat.0 ≡ heat es c.object) (filter (λ row. nat_le threshold row.1) table)
      (from_members (λ row. row.1 ≡ heat es row.0) (filter (λ row. nat_le threshold row.1) table)
      (λ row h. let both = (filter-member (λ row. nat_le threshold row.1) table row).0 h in row_right row both.0 both.1)))
      ((permuted_members (hot_ones threshold table) cs rank.all c).1 there)

  -- the objects are those that are written and hot enough
  members : (object : Object) → Contains (map (λ c. c.object) cs) object ↔ Contains (filter (λ o. nat_le threshold (heat es o)) (objects_written es)) object
  members object = (there, back) where
    seen : lookup (same_object object) (filter (λ row. nat_le threshold row.1) table) ≡ option_filter (nat_le threshold) (heat_shown (heat es object))
    seen =
        lookup-filter-values same_laws (nat_le threshold) object table has.once ∙ filtered threshold (lookup (same_object object) table)
        ∙ heats object ∙ sym (filtered threshold (heat_shown (heat es object)))

    heat_is : how_many (λ other. same_object other object) (objects_written es) ≡ heat es object
    heat_is = how_many-is (λ other. same_object other object) (objects_written es)

    there : Contains (map (λ c. c.object) cs) object → Contains (filter (λ o. nat_le threshold (heat es o)) (objects_written es)) object
    there h =
        let found = IsSome-lookup_from_Contains same_laws object (filter (λ row. nat_le threshold row.1) table) ((permuted_members (keys_of (filter (λ row. nat_le threshold row.1) table)) (map (λ c. c.object) cs) (named table threshold cs has.once rank) object).1 h) in
        let both = shown threshold (heat es object) (subst IsSome seen found) in
        (filter-member (λ o. nat_le threshold (heat es o)) (objects_written es) object).1
        (written object (objects_written es) (subst (λ n. 0 < n) (sym heat_is) both.0), both.1)

    positive : (n : ℕ) → (n ≡ 0 → ⊥) → 0 < n
    positive zero other = absurd (other refl)
    positive (suc n) other = omega arith

    back : Contains (filter (λ o. nat_le threshold (heat es o)) (objects_written es)) object → Contains (map (λ c. c.object) cs) object
    back h =
        let both = (filter-member (λ o. nat_le threshold (heat es o)) (objects_written es) object).0 h in
        let some : 0 < heat es object = positive (heat es object) (λ none. unwritten object (objects_written es) both.0 (heat_is ∙ none)) in
        (permuted_members (keys_of (filter (λ row. nat_le threshold row.1) table)) (map (λ c. c.object) cs) (named table threshold cs has.once rank) object).0
        (Contains-keys_from_lookup same_object-true object (filter (λ row. nat_le threshold row.1) table) (subst IsSome (sym seen) (is_shown threshold (heat es object) some both.1)))

  -- they stand in the order of the choice
  in_turn : (a b : Candidate) → a.heat.0 ≡ heat es a.object → b.heat.0 ≡ heat es b.object → is_lt (candidate_cmp b a) ≡ false → same_object a.object b.object ≡ false →
      heat_cmp es b.object a.object ≡ Less
  in_turn a b right_a right_b sorted apart = go (heat_cmp es b.object a.object) refl where
    same_cmp : candidate_cmp b a ≡ heat_cmp es a.object b.object
    same_cmp = λ i. ordering_then (nat_cmp (right_a i) (right_b i)) (object_cmp b.object a.object)

    go : (r : Ordering) → heat_cmp es b.object a.object ≡ r → r ≡ Less
    go Less is = refl
    go Equal is =
        let one : b.object ≡ a.object = heat_same es b.object a.object is in
        absurd (false≢true (sym apart ∙ (same_objects a.object b.object).1 (sym one)))
    go Greater is =
        let less : heat_cmp es a.object b.object ≡ Less = (heat_total es).antisymm a.object b.object ∙ ap ordering_reverse is in
        absurd (false≢true (sym sorted ∙ ap is_lt (same_cmp ∙ less)))

  nobody : Candidate
  nobody = record { heat = record { 0 = 0 }; object = User 0 }

  ordered : IsDescending (heat_cmp es) (map (λ c. c.object) cs)
  ordered = descending_from_sorted (heat_cmp es) (map (λ c. c.object) cs)
      (sorted_from_all_adjacent (back_total (heat_total es)) (map (λ c. c.object) cs) (User 0) adjacent) where
        adjacent : (k : ℕ) → k + 1 < length (map (λ (c : Candidate). c.object) cs) →
            heat_cmp es (get_or (map (λ (c : Candidate). c.object) cs) (k + 1) (User 0)) (get_or (map (λ (c : Candidate). c.object) cs) k (User 0)) ≡ Less
        adjacent k less =
            let len : length (map (λ (c : Candidate). c.object) cs) ≡ length cs = length-map cs (λ (c : Candidate). c.object) in
            let a : Candidate = get_or cs k nobody in let b : Candidate = get_or cs (k + 1) nobody in
            let at_a : get_or (map (λ (c : Candidate). c.object) cs) k (User 0) ≡ (get_or cs k nobody).object = get_or-map (λ (c : Candidate). c.object) cs k nobody (User 0) (omega arith) in
            let at_b : get_or (map (λ (c : Candidate). c.object) cs) (k + 1) (User 0) ≡ (get_or cs (k + 1) nobody).object = get_or-map (λ (c : Candidate). c.object) cs (k + 1) nobody (User 0) (omega arith) in
            let apart : same_object (get_or cs k nobody).object (get_or cs (k + 1) nobody).object ≡ false =
            (λ i. same_object (sym at_a i) (sym at_b i)) ∙ apart_from_distinct same_object (map (λ (c : Candidate). c.object) cs) k (k + 1) (User 0) (distinct table threshold cs has.once rank) (omega arith) less in
            (λ i. heat_cmp es (at_b i) (at_a i))
            ∙ in_turn a b (right a (Contains-get_or cs k nobody (omega arith))) (right b (Contains-get_or cs (k + 1) nobody (omega arith))) (rank.ranked k nobody (omega arith) (omega arith)) apart

  pub chosen : (most : ℕ) → map (λ c. c.object) (take most cs) ≡ choose es threshold most
  chosen most =
      sym (take-map (λ (c : Candidate). c.object) most cs)
      ∙ ap (take most) (sym (descending_same (heat_total es) (map (λ c. c.object) cs) ordered))
      ∙ sym (top_first (heat_total es) most (map (λ c. c.object) cs))
      ∙ top_same_members (heat_total es) (heat_same es) most (map (λ c. c.object) cs) (filter (λ o. nat_le threshold (heat es o)) (objects_written es)) members
