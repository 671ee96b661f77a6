-- Lists in order that are put together: from the elements in turn and the late ones, and from two lists of which one goes first.
use Rattle.std.proofs.Common.{◌≡◌, ◌<◌, ◌+◌, ◌∷◌, ℕ, drop, get_or, length, ◌++◌, ◌∙◌, Bool, true, false, cond, List, [], Option, Some, None, refl, sym, ap, inl, inr}
use Rattle.std.proofs.lemmas.{Bool.{cases_Bool, and_parts, not-true}, List.{at_drop_more}}
use Rattle.std.specs.{Cmp.{IsStrictWeakOrder}, List.{Sorted.{ties}, AllByRecursion, filter}}
use Rattle.auction_text.proofs.SortLemmas.{IsUp, NoneBefore, kept_either, none_put_in, none_weaker, one_in_order, put_in-first, ties-sorted, up-sorted}
use Rattle.auction_text.specs.Order.{put_in, sorted}
use Rattle.auction_text.specs.inner.Turns.{front, in_turn, is_late, late, rest}

-- a list from a place on, by the element there
pub drop_next : {X : Type 0} (xs : List X) (i : ℕ) (x : X) → i < length xs → x ≡ get_or xs i x → drop i xs ≡ x ∷ drop (i + 1) xs
drop_next {X} xs i x within is = at_drop_more (λ (l : List X). l) xs i x within ∙ ap (λ (y : X). y ∷ drop (i + 1) xs) (sym is)

module _ {X : Type 0} (lt : X → X → Bool) where
  -- the next of a list is late, or stands in turn
  pub late-late : (last : Option X) (x : X) (xs : List X) → is_late lt last x ≡ true → late lt last (x ∷ xs) ≡ x ∷ late lt last xs
  unfolding late
  late-late last x xs is = rw is refl

  pub late-in_turn : (last : Option X) (x : X) (xs : List X) → is_late lt last x ≡ false → late lt last (x ∷ xs) ≡ late lt (Some x) xs
  unfolding late
  late-in_turn last x xs is = rw is refl

  pub in_turn-late : (last : Option X) (x : X) (xs : List X) → is_late lt last x ≡ true → in_turn lt last (x ∷ xs) ≡ in_turn lt last xs
  unfolding in_turn
  in_turn-late last x xs is = rw is refl

  pub in_turn-in_turn : (last : Option X) (x : X) (xs : List X) → is_late lt last x ≡ false → in_turn lt last (x ∷ xs) ≡ x ∷ in_turn lt (Some x) xs
  unfolding in_turn
  in_turn-in_turn last x xs is = rw is refl

  pub front-more : (x y : X) (ys : List X) → lt y x ≡ true → front lt x (y ∷ ys) ≡ y ∷ front lt x ys
  unfolding front
  front-more x y ys less = rw less refl

  pub front-end : (x y : X) (ys : List X) → lt y x ≡ false → front lt x (y ∷ ys) ≡ []
  unfolding front
  front-end x y ys more = rw more refl

  pub rest-more : (x y : X) (ys : List X) → lt y x ≡ true → rest lt x (y ∷ ys) ≡ rest lt x ys
  unfolding rest
  rest-more x y ys less = rw less refl

  pub in_turn-none : (last : Option X) → in_turn lt last [] ≡ []
  unfolding in_turn
  in_turn-none last = refl

  pub front-none : (x : X) → front lt x [] ≡ []
  unfolding front
  front-none x = refl

  pub rest-none : (x : X) → rest lt x [] ≡ []
  unfolding rest
  rest-none x = refl

  pub rest-end : (x y : X) (ys : List X) → lt y x ≡ false → rest lt x (y ∷ ys) ≡ y ∷ ys
  unfolding rest
  rest-end x y ys more = rw more refl

module _ {X : Type 0} (lt : X → X → Bool) (order : IsStrictWeakOrder lt) where
  -- x comes before each of them
  abbrev pub IsBeforeAll : X → List X → Type 0
  IsBeforeAll x xs = AllByRecursion (λ y. lt x y ≡ true) xs

  less_less : (x y z : X) → lt x y ≡ true → lt y z ≡ true → lt x z ≡ true
  less_less x y z xy yz = elim (cases_Bool (lt x z)) [
    | inl less ↦ less
    | inr not_less ↦ absurd (cc (sym xy ∙ order.chain x z y not_less (order.one_way y z yz)))
  ]

  all_after : (x y : X) (zs : List X) → lt x y ≡ true → IsBeforeAll y zs → IsBeforeAll x zs
  all_after x y [] less all = tt
  all_after x y (z ∷ zs) less all = (less_less x y z less all.0, all_after x y zs less all.1)

  pub after_last : (last : X) (xs : List X) → IsBeforeAll last (in_turn lt (Some last) xs)
  unfolding in_turn
  after_last last [] = tt
  after_last last (x ∷ xs) = elim (cases_Bool (lt last x)) [
    | inl less ↦ rw less (less, all_after last x (in_turn lt (Some x) xs) less (after_last x xs))
    | inr more ↦ rw more (after_last last xs)
  ]

  none_before : (x : X) (ys : List X) → IsBeforeAll x ys → NoneBefore lt order x ys
  none_before x [] all = tt
  none_before x (y ∷ ys) all = (order.one_way x y all.0, none_before x ys all.1)

  none_of_both : (x : X) (ys zs : List X) → NoneBefore lt order x ys → NoneBefore lt order x zs → NoneBefore lt order x (ys ++ zs)
  none_of_both x [] zs first second = second
  none_of_both x (y ∷ ys) zs first second = (first.0, none_of_both x ys zs first.1 second)

  none_sorted : (x : X) (ys : List X) → NoneBefore lt order x ys → NoneBefore lt order x (sorted lt ys)
  unfolding sorted
  none_sorted x [] none = tt
  none_sorted x (y ∷ ys) none = none_put_in lt order y x (sorted lt ys) none.0 (none_sorted x ys none.1)

  -- an element may go to the front of those that don't tie with what it ties with
  to_front : (t x : X) (ys zs : List X) → AllByRecursion (λ y. ties lt t y ≡ true → ties lt t x ≡ true → false ≡ true) ys
      → filter (ties lt t) (ys ++ x ∷ zs) ≡ filter (ties lt t) (x ∷ (ys ++ zs))
  to_front t x [] zs never = refl
  to_front t x (y ∷ ys) zs never =
      ap (λ (l : List X). cond (ties lt t y) (y ∷ l) l) (to_front t x ys zs never.1)
      ∙ kept_either (ties lt t y) (ties lt t x) x y (filter (ties lt t) (ys ++ zs)) never.0

  -- what ties with one does not tie with another that comes before it
  not_both : (t x y : X) → lt x y ≡ true → ties lt t y ≡ true → ties lt t x ≡ true → false ≡ true
  not_both t x y less tie_y tie_x =
      let x_t : lt x t ≡ false = not-true (lt x t) (and_parts _ _ tie_x).1 in
      let t_y : lt t y ≡ false = not-true (lt t y) (and_parts _ _ tie_y).0 in
      sym (order.chain x t y x_t t_y) ∙ less

  none_tie : (t x : X) (ys : List X) → IsBeforeAll x ys → AllByRecursion (λ y. ties lt t y ≡ true → ties lt t x ≡ true → false ≡ true) ys
  none_tie t x [] all = tt
  none_tie t x (y ∷ ys) all = (not_both t x y all.0, none_tie t x ys all.1)

  -- the least of a list stands first
  least_first : (x : X) (ys zs : List X) → IsBeforeAll x ys → NoneBefore lt order x zs → sorted lt (ys ++ x ∷ zs) ≡ x ∷ sorted lt (ys ++ zs)
  least_first x ys zs all none =
      one_in_order lt order _ _ (up-sorted lt order (ys ++ x ∷ zs))
      (none_sorted x (ys ++ zs) (none_of_both x ys zs (none_before x ys all) none), up-sorted lt order (ys ++ zs))
      (λ t. ties-sorted lt order t (ys ++ x ∷ zs) ∙ to_front t x ys zs (none_tie t x ys all)
      ∙ ap (λ (l : List X). cond (ties lt t x) (x ∷ l) l) (sym (ties-sorted lt order t (ys ++ zs))))

  first_put : (x : X) (ys : List X) → NoneBefore lt order x ys → sorted lt (x ∷ ys) ≡ x ∷ sorted lt ys
  unfolding sorted
  first_put x ys none = put_in-first lt order x (sorted lt ys) (none_sorted x ys none)

  -- the next in turn, and the late ones that come before it
  pub next_in_turn : (x : X) (ys left : List X) → IsUp lt order left → IsBeforeAll x ys
      → sorted lt ((x ∷ ys) ++ left) ≡ front lt x left ++ x ∷ sorted lt (ys ++ rest lt x left)
  unfolding front rest
  next_in_turn x ys [] up all = first_put x (ys ++ []) (none_of_both x ys [] (none_before x ys all) tt)
  next_in_turn x ys (z ∷ zs) up all = elim (cases_Bool (lt z x)) [
    | inl less ↦ rw less (least_first z (x ∷ ys) zs (less, all_after z x ys less all) up.0 ∙ ap (λ (l : List X). z ∷ l) (next_in_turn x ys zs up.1 all))
    | inr more ↦ rw more (first_put x (ys ++ z ∷ zs) (none_of_both x ys (z ∷ zs) (none_before x ys all) (more, none_weaker lt order x z zs more up.0)))
  ]

  pub up-rest : (x : X) (left : List X) → IsUp lt order left → IsUp lt order (rest lt x left)
  unfolding rest
  up-rest x [] up = tt
  up-rest x (z ∷ zs) up = elim (cases_Bool (lt z x)) [
    | inl less ↦ rw less (up-rest x zs up.1)
    | inr more ↦ rw more up
  ]

  late_ties : (t last x : X) (ys : List X) → lt last x ≡ false → IsBeforeAll last ys
      → AllByRecursion (λ y. ties lt t y ≡ true → ties lt t x ≡ true → false ≡ true) ys
  late_ties t last x [] more all = tt
  late_ties t last x (y ∷ ys) more all = (
    (λ tie_y tie_x.
        let x_t : lt x t ≡ false = not-true (lt x t) (and_parts _ _ tie_x).1 in
        let t_y : lt t y ≡ false = not-true (lt t y) (and_parts _ _ tie_y).0 in
        sym (order.chain last x y more (order.chain x t y x_t t_y)) ∙ all.0),
    late_ties t last x ys more all.1,
  )

  -- those in turn and the late ones are all, and those that tie stand as they stood
  parted : (t : X) (last : Option X) (xs : List X) → filter (ties lt t) (in_turn lt last xs ++ late lt last xs) ≡ filter (ties lt t) xs
  unfolding in_turn late
  parted t last [] = refl
  parted t None (x ∷ xs) = ap (λ (l : List X). cond (ties lt t x) (x ∷ l) l) (parted t (Some x) xs)
  parted t (Some last) (x ∷ xs) = elim (cases_Bool (lt last x)) [
    | inl less ↦ rw less (ap (λ (l : List X). cond (ties lt t x) (x ∷ l) l) (parted t (Some x) xs))
    | inr more ↦ rw more
        (to_front t x (in_turn lt (Some last) xs) (late lt (Some last) xs) (late_ties t last x (in_turn lt (Some last) xs) more (after_last last xs))
        ∙ ap (λ (l : List X). cond (ties lt t x) (x ∷ l) l) (parted t (Some last) xs))
  ]

  ties_after : (t : X) (xs ys zs : List X) → filter (ties lt t) ys ≡ filter (ties lt t) zs → filter (ties lt t) (xs ++ ys) ≡ filter (ties lt t) (xs ++ zs)
  ties_after t [] ys zs same = same
  ties_after t (x ∷ xs) ys zs same = ap (λ (l : List X). cond (ties lt t x) (x ∷ l) l) (ties_after t xs ys zs same)

  -- all elements in order
  pub turns_in_order : (xs : List X) → sorted lt (in_turn lt None xs ++ sorted lt (late lt None xs)) ≡ sorted lt xs
  turns_in_order xs =
      one_in_order lt order _ _ (up-sorted lt order _) (up-sorted lt order xs)
      (λ t. ties-sorted lt order t (in_turn lt None xs ++ sorted lt (late lt None xs))
      ∙ ties_after t (in_turn lt None xs) (sorted lt (late lt None xs)) (late lt None xs) (ties-sorted lt order t (late lt None xs))
      ∙ parted t None xs ∙ sym (ties-sorted lt order t xs))

  put_in_first_part : (x : X) (ys zs : List X) → NoneBefore lt order x zs → put_in lt x (ys ++ zs) ≡ put_in lt x ys ++ zs
  unfolding put_in
  put_in_first_part x [] zs none = put_in-first lt order x zs none
  put_in_first_part x (y ∷ ys) zs none = elim (cases_Bool (lt y x)) [
    | inl less ↦ rw less (ap (λ (l : List X). y ∷ l) (put_in_first_part x ys zs none))
    | inr more ↦ rw more refl
  ]

  -- two lists of which none of the second comes before one of the first
  pub sorted-append : (xs ys : List X) → AllByRecursion (λ x. NoneBefore lt order x ys) xs → sorted lt (xs ++ ys) ≡ sorted lt xs ++ sorted lt ys
  unfolding sorted
  sorted-append [] ys none = refl
  sorted-append (x ∷ xs) ys none =
      ap (put_in lt x) (sorted-append xs ys none.1) ∙ put_in_first_part x (sorted lt xs) (sorted lt ys) (none_sorted x ys none.0)
