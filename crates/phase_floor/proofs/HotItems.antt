-- The hot objects of a split phase, and what is fixed of them.
use Rattle.std.proofs.Common.{◌≡◌, ℕ, ◌||◌, Bool, true, false, List, [], ◌∷◌, ◌++◌, Option, refl, sym, ap, ◌∙◌, subst}
use Rattle.std.{proofs.lemmas.Bool.{false≢true}, specs.List.{AllByRecursion}}
use Rattle.std.specs.Prelude.{IsSome, IsTrue, is_some}
use Rattle.auction_rows.{proofs.RequestLemmas.{same_object-true}, specs.Book.{Book}}
use Rattle.auction_rows.specs.{Footprint.{is_hot}, Requests.{same_object}}
use Rattle.auction_rows.specs.declared.requests.Object.TheVariants.{Item}
use Rattle.auction_rows.specs.declared.{values.Opening.Opening, requests.ItemId.ItemId, requests.Facts.Facts, requests.Object.Object}
use Rattle.item_shards.specs.Values.{stock}
use Rattle.shard_boxes.specs.States.{ShardState}
use Rattle.worker_slices.specs.Slicing.{hot_objects, slices_of, IsStocked}
use Rattle.closing_laws.specs.Phases.{value_on, IsReadFrom}
use Rattle.phase_floor.specs.States.{DoesExist}

-- the test whether an item is stored
pub item_exists : (opening : Opening) (states : List ShardState) (object : Object) (id : ItemId) (test : Bool) (found : Option (Facts × ℕ))
    → object ≡ Item id → test ≡ is_some found → found ≡ stock (value_on states (Item id))
    → (IsTrue test → DoesExist opening states object) × (DoesExist opening states object → IsTrue test)
item_exists opening states object id test found is tested found_is = (
  (λ yes. subst (DoesExist opening states) (sym is) (sym (tested ∙ ap is_some found_is) ∙ yes)),
  (λ exists. tested ∙ ap is_some found_is ∙ subst (DoesExist opening states) is exists),
)

pub objects_of_slices : (stocks : List (Object × Option (Facts × ℕ))) (rows : Book) → hot_objects (slices_of stocks rows) ≡ hot_objects stocks
objects_of_slices [] rows = refl
objects_of_slices (stock ∷ stocks) rows = ap (λ more. stock.0 ∷ more) (objects_of_slices stocks rows)

-- a hot item is stored
pub hot_is_stored : (states : List ShardState) (stocks : List (Object × Option (Facts × ℕ))) → AllByRecursion IsStocked stocks → AllByRecursion (IsReadFrom states) stocks
    → (item : ItemId) → is_hot (hot_objects stocks) (Item item) ≡ true → IsSome (stock (value_on states (Item item)))
hot_is_stored states [] stocked read item hot = absurd (false≢true hot)
hot_is_stored states (first ∷ stocks) stocked read item hot = at (same_object first.0 (Item item)) refl (hot_is_stored states stocks stocked.1 read.1 item) where
  at : (b : Bool) → same_object first.0 (Item item) ≡ b → (is_hot (hot_objects stocks) (Item item) ≡ true → IsSome (stock (value_on states (Item item))))
      → IsSome (stock (value_on states (Item item)))
  at true same rest =
      let is = same_object-true first.0 (Item item) same in
      let some : IsSome first.1 = subst (λ o. IsStocked (o, first.1)) is stocked.0 in
      let seen : first.1 ≡ stock (value_on states (Item item)) = subst (λ o. IsReadFrom states (o, first.1)) is read.0 in
      sym (ap is_some seen) ∙ some
  at false apart rest = rest (ap (λ b. b || is_hot (hot_objects stocks) (Item item)) (sym apart) ∙ hot)

-- the objects of pairs with one pair more
pub objects_push : {A : Type 0} (pairs : List (Object × A)) (pair : Object × A) → hot_objects (pairs ++ pair ∷ []) ≡ hot_objects pairs ++ pair.0 ∷ []
objects_push [] pair = refl
objects_push (first ∷ pairs) pair = ap (λ more. first.0 ∷ more) (objects_push pairs pair)
