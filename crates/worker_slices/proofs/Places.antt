-- The slices by place: what is found there, and what a write there leaves.
use Rattle.std.proofs.Common.{◌≡◌, ℕ, zero, suc, ◌++◌, ◌∷◌, [], Bool, true, false, cond, if◌then◌else◌, ◌||◌, List, map, take, slice_get, get_or, position, IfSome, Option, option_map, Some, None, is_some, refl, sym, ap, subst, ◌∙◌}
use Rattle.std.proofs.lemmas.List.Quantifiers.{position-Some}
use Rattle.std.proofs.lemmas.Option.{slice_get-get_or, slice_get-map}
use Rattle.std.specs.{List.{IsDistinct, AllByRecursion}, Map.{lookup}}
use Rattle.indexmap.specs.Layout.{set_value_at}
use Rattle.auction_rows.specs.{Book.{Book}, Footprint.{is_hot}, Requests.{same_object}}
use Rattle.auction_rows.specs.contracts.requests.ObjectPartialEq.TheImpl.{eq-value as object_eq}
use Rattle.auction_rows.specs.declared.requests.{Facts.Facts, Object.Object}
pub use Rattle.auction_rows.proofs.RequestLemmas.{distinct_objects}
use Rattle.auction_rows.proofs.RequestLemmas.{eq_is_same, same_either_way, same_object-true, same_objects}
use Rattle.item_shards.{proofs.StandingLemmas.{blank_of_none}, specs.Values.{blank, value}}
use Rattle.item_shards.specs.declared.shard.slices.Slice.{Slice}
use Rattle.worker_slices.specs.Slicing.{hot_objects, slice_of, slices_of, stocks_of, stock_of, with_slice_changed, IsAt, IsStocked, HasAtMost, HaveAtMost}
use Rattle.worker_slices.specs.declared.slices.Hot.{Hot}
use Rattle.phase_laws.proofs.ListLemmas.{all_at}
use Rattle.std.proofs.lemmas.Bool.{or_right}

-- the slices of other objects stay
others_stay : (object : Object) (change : Slice → Slice) (hots : List (Object × Hot)) → AllByRecursion (λ other. same_object object other ≡ false) (hot_objects hots) → with_slice_changed object change hots ≡ hots
others_stay object change [] all = refl
others_stay object change (hot ∷ hots) all = λ i.
    (hot.0, cond (all.0 i) (record hot.1 { slice = change hot.1.slice }) hot.1) ∷ others_stay object change hots all.1 i

-- a write at the place of an object changes its slice alone
placed : (object : Object) (change : Slice → Slice) (hots : List (Object × Hot)) (place : ℕ) (old new : Hot)
    → IsDistinct same_object (hot_objects hots) → IsAt hots place object → Some old ≡ slice_get (map (λ hot. hot.1) hots) place → new ≡ record old { slice = change old.slice }
    → set_value_at hots place new ≡ with_slice_changed object change hots
unfolding IsDistinct
placed object change [] place old new distinct at is written = refl
placed object change (hot ∷ hots) zero old new distinct at is written =
    let here : hot.0 ≡ object = cc in let was : old ≡ hot.1 = cc in
    let rest = others_stay object change hots (subst (λ o. AllByRecursion (λ other. same_object o other ≡ false) (hot_objects hots)) here distinct.0) in
    (λ i. (hot.0, (written ∙ ap (λ (h : Hot). record h { slice = change h.slice }) was ∙ ap (λ b. cond b (record hot.1 { slice = change hot.1.slice }) hot.1) (sym ((same_objects object hot.0).1 (sym here)))) i) ∷ hots)
    ∙ ap (λ hs. (hot.0, if same_object object hot.0 then record hot.1 { slice = change hot.1.slice } else hot.1) ∷ hs) (sym rest)
placed object change (hot ∷ hots) (suc place) old new distinct at is written =
    let apart = same_either_way object hot.0 ∙ all_at (λ other. same_object hot.0 other ≡ false) (hot_objects hots) place object distinct.0 at in
    (λ i. (hot.0, cond (sym apart i) (record hot.1 { slice = change hot.1.slice }) hot.1) ∷ placed object change hots place old new distinct.1 at is written i)

-- an object that stands at a place has a slice there
stands : (object : Object) (hots : List (Object × Hot)) (place : ℕ) → IsAt hots place object → (hot : Hot) × (slice_get hots place ≡ Some (object, hot))
stands object [] place at = absurd (cc)
stands object (hot ∷ hots) zero at = (hot.1, ap (λ (o : Option Object). option_map (λ name. (name, hot.1)) o) at)
stands object (hot ∷ hots) (suc place) at = stands object hots place at

pub none_at : {A : Type 0} (object : Object) (hots : List (Object × Hot)) (place : ℕ) → IsAt hots place object → None ≡ slice_get hots place → A
none_at object hots place at none = let some = none ∙ (stands object hots place at).1 in absurd (cc)

pub none_there : {A : Type 0} (object : Object) (hots : List (Object × Hot)) (place : ℕ) → IsAt hots place object → None ≡ slice_get (map (λ hot. hot.1) hots) place → A
none_there object hots place at none =
    let there = stands object hots place at in
    let some : None ≡ Some there.0 = none ∙ slice_get-map (λ (hot : Object × Hot). hot.1) hots place ∙ ap (option_map (λ (hot : Object × Hot). hot.1)) there.1 in
    absurd (cc)

-- so it is with the slices as they are seen
pub write_seen : (object : Object) (change : Slice → Slice) (hots seen now : List (Object × Hot)) (place : ℕ) (old new : Hot) → hots ≡ seen → IsDistinct object_eq.it (hot_objects hots) → IsAt seen place object
    → Some old ≡ slice_get (map (λ hot. hot.1) hots) place → new ≡ record old { slice = change old.slice } → now ≡ set_value_at hots place new → now ≡ with_slice_changed object change seen
write_seen object change hots seen now place old new is unique at there written set =
    set ∙ placed object change hots place old new (distinct_objects (hot_objects hots) unique) (subst (λ hs. IsAt hs place object) (sym is) at) there written ∙ ap (with_slice_changed object change) is

-- and that slice is one of few operations
pub few_there : (n : ℕ) (hots : List (Object × Hot)) (place : ℕ) (hot : Hot) → HaveAtMost n hots → Some hot ≡ slice_get (map (λ hot. hot.1) hots) place → HasAtMost n hot.slice
few_there n [] place hot few is = absurd (cc)
few_there n (first ∷ hots) zero hot few is = let same : first.1 ≡ hot = cc in subst (λ (h : Hot). HasAtMost n h.slice) same few.0
few_there n (first ∷ hots) (suc place) hot few is = few_there n hots place hot few.1 is

-- an object that is found is hot
found_here : (object : Object) (hot : Object × Hot) (hots : List (Object × Hot)) (b : Bool) → b ≡ same_object hot.0 object → is_some (lookup (object_eq.it object) hots) ≡ is_hot (hot_objects hots) object
    → is_some (cond b (Some hot.1) (lookup (object_eq.it object) hots)) ≡ is_hot (hot_objects (hot ∷ hots)) object
found_here object hot hots true e rest = ap (λ b. b || is_hot (hot_objects hots) object) e
found_here object hot hots false e rest = rest ∙ ap (λ b. b || is_hot (hot_objects hots) object) e

pub hot_where_found : (object : Object) (hots : List (Object × Hot)) → is_some (lookup (object_eq.it object) hots) ≡ is_hot (hot_objects hots) object
hot_where_found object [] = refl
hot_where_found object (hot ∷ hots) = found_here object hot hots (object_eq.it object hot.0) (eq_is_same object hot.0 ∙ same_either_way object hot.0) (hot_where_found object hots)

-- and stands where it is found
pub at_where_found : (object : Object) (hots : List (Object × Hot)) (found : Option ℕ) → found ≡ position (object_eq.it object) (hot_objects hots) → IfSome found (λ place. IsAt hots place object)
at_where_found object hots None is = tt
at_where_found object hots (Some place) is =
    let found = position-Some (object_eq.it object) (hot_objects hots) place object (sym is) in
    let same = same_object-true object (get_or (hot_objects hots) place object) (sym (eq_is_same object (get_or (hot_objects hots) place object)) ∙ found.1) in
    slice_get-get_or (hot_objects hots) place object found.0 ∙ ap Some (sym same)

-- an object that comes later is not found among the slices of those before it
later_absent : (object : Object) (first : Object × Option (Facts × ℕ)) (firsts : List (Object × Option (Facts × ℕ))) → same_object first.0 object ≡ false → lookup (object_eq.it object) (slices_of firsts []) ≡ None
    → lookup (object_eq.it object) (slices_of (first ∷ firsts) []) ≡ None
later_absent object first firsts apart rest =
    ap (λ b. cond b (Some (record { stock = first.1; slice = slice_of first.0 (value [] first.0) })) (lookup (object_eq.it object) (slices_of firsts [])))
    (eq_is_same object first.0 ∙ same_either_way object first.0 ∙ apart)
    ∙ rest

pub absent_before : (stocks : List (Object × Option (Facts × ℕ))) (k : ℕ) (object : Object) → IsDistinct same_object (hot_objects stocks) → slice_get (hot_objects stocks) k ≡ Some object
    → lookup (object_eq.it object) (slices_of (take k stocks) []) ≡ None
unfolding IsDistinct
absent_before [] k object distinct at = absurd (cc)
absent_before (first ∷ stocks) zero object distinct at = refl
absent_before (first ∷ stocks) (suc k) object distinct at =
    later_absent object first (take k stocks) (all_at (λ other. same_object first.0 other ≡ false) (hot_objects stocks) k object distinct.0 at) (absent_before stocks k object distinct.1 at)

-- one more object with its identity slice
pub one_more : (stocks : List (Object × Option (Facts × ℕ))) (k : ℕ) (object : Object) (stock : Option (Facts × ℕ)) → slice_get stocks k ≡ Some (object, stock)
    → slices_of (take (suc k) stocks) [] ≡ slices_of (take k stocks) [] ++ (object, record { stock = stock; slice = slice_of object blank }) ∷ []
one_more [] k object stock at = absurd (cc)
one_more (first ∷ stocks) zero object stock at =
    let here : first ≡ (object, stock) = cc in
    ap (λ s. slices_of (s ∷ []) []) here ∙ ap (λ v. (object, record { stock = stock; slice = slice_of object v }) ∷ []) (blank_of_none object)
one_more (first ∷ stocks) (suc k) object stock at = ap (λ hots. (first.0, record { stock = first.1; slice = slice_of first.0 (value [] first.0) }) ∷ hots) (one_more stocks k object stock at)

-- what is fixed of the objects stays
stocks_stay : (hots : List (Object × Hot)) (place : ℕ) (old new : Hot) → Some old ≡ slice_get (map (λ hot. hot.1) hots) place → new.stock ≡ old.stock → stocks_of (set_value_at hots place new) ≡ stocks_of hots
stocks_stay [] place old new is stays = refl
stocks_stay (hot ∷ hots) zero old new is stays =
    let was : old ≡ hot.1 = cc in
    λ i. (hot.0, (stays ∙ ap (λ (h : Hot). h.stock) was) i) ∷ stocks_of hots
stocks_stay (hot ∷ hots) (suc place) old new is stays = ap (λ stocks. (hot.0, hot.1.stock) ∷ stocks) (stocks_stay hots place old new is stays)

pub still_stocked : (hots now : List (Object × Hot)) (place : ℕ) (old new : Hot) → now ≡ set_value_at hots place new → Some old ≡ slice_get (map (λ hot. hot.1) hots) place → new.stock ≡ old.stock
    → AllByRecursion IsStocked (stocks_of hots) → AllByRecursion IsStocked (stocks_of now)
still_stocked hots now place old new set is stays = subst (AllByRecursion IsStocked) (sym (ap stocks_of set ∙ stocks_stay hots place old new is stays))

pub stocks_of_rows : (stocks : List (Object × Option (Facts × ℕ))) (rows : Book) → stocks_of (slices_of stocks rows) ≡ stocks
stocks_of_rows [] rows = refl
stocks_of_rows (stock ∷ stocks) rows = ap (λ more. stock ∷ more) (stocks_of_rows stocks rows)

pub stocks-append : (hots more : List (Object × Hot)) → stocks_of (hots ++ more) ≡ stocks_of hots ++ stocks_of more
stocks-append [] more = refl
stocks-append (hot ∷ hots) more = ap (λ stocks. (hot.0, hot.1.stock) ∷ stocks) (stocks-append hots more)

-- what is fixed of an object is found where it stands
found_stock : (object : Object) (hot : Hot) (first : Object × Hot) (hots : List (Object × Hot)) (b : Bool) → b ≡ same_object first.0 object
    → cond b (Some first.1) (lookup (object_eq.it object) hots) ≡ Some hot → (lookup (object_eq.it object) hots ≡ Some hot → stock_of (stocks_of hots) object ≡ hot.stock)
    → hot.stock ≡ stock_of (stocks_of (first ∷ hots)) object
found_stock object hot first hots true e is rest =
    let here : first.1 ≡ hot = cc in
    sym (ap (λ (h : Hot). h.stock) here) ∙ ap (λ b. cond b first.1.stock (stock_of (stocks_of hots) object)) e
found_stock object hot first hots false e is rest = sym (rest is) ∙ ap (λ b. cond b first.1.stock (stock_of (stocks_of hots) object)) e

pub stock_found : (object : Object) (hot : Hot) (hots : List (Object × Hot)) → lookup (object_eq.it object) hots ≡ Some hot → stock_of (stocks_of hots) object ≡ hot.stock
stock_found object hot [] is = absurd (cc)
stock_found object hot (first ∷ hots) is =
    sym (found_stock object hot first hots (object_eq.it object first.0) (eq_is_same object first.0 ∙ same_either_way object first.0) is (stock_found object hot hots))

-- the object that is read at a place is the one that stands there
pub at_and_there : (object : Object) (hots : List (Object × Hot)) (place : ℕ) (key : Object) (hot : Hot) → IsAt hots place object → Some (key, hot) ≡ slice_get hots place → key ≡ object
at_and_there object hots place key hot at is = let same : (key, hot) ≡ (object, (stands object hots place at).0) = cc (is ∙ (stands object hots place at).1) in ap (λ (h : Object × Hot). h.0) same

-- an object that is read at a place stands there
pub at_where_read : (object : Object) (hots : List (Object × Hot)) (place : ℕ) (key : Object) (hot : Hot) → Some (key, hot) ≡ slice_get hots place → object_eq.it key object ≡ true → IsAt hots place object
at_where_read object hots place key hot read is =
    slice_get-map (λ (hot : Object × Hot). hot.0) hots place ∙ ap (option_map (λ (hot : Object × Hot). hot.0)) (sym read) ∙ ap Some (same_object-true key object (sym (eq_is_same key object) ∙ is))

-- and an object that stands at a place is hot
pub hot_where_at : (object : Object) (hots : List (Object × Hot)) (place : ℕ) → IsAt hots place object → is_hot (hot_objects hots) object ≡ true
hot_where_at object [] place at = absurd (cc)
hot_where_at object (first ∷ hots) zero at =
    let here : first.0 ≡ object = cc in
    ap (λ b. b || is_hot (hot_objects hots) object) ((same_objects first.0 object).1 here)
hot_where_at object (first ∷ hots) (suc place) at = or_right (same_object first.0 object) (is_hot (hot_objects hots) object) (hot_where_at object hots place at)
