-- What is fixed of the hot items of a phase, by the list of what is fixed of each hot object.
use Rattle.std.proofs.Common.{◌≡◌, ℕ, Bool, true, false, cond, ◌||◌, List, [], ◌∷◌, Option, IsSome, refl, sym, ap, subst, ◌∙◌}
use Rattle.std.{proofs.lemmas.Bool.{false≢true}, specs.List.{AllByRecursion}}
use Rattle.auction_rows.{proofs.RequestLemmas.{same_object-true}, specs.Footprint.{is_hot}}
use Rattle.auction_rows.specs.{Requests.{same_object}, declared.requests.Object.TheVariants.{Item}}
use Rattle.auction_rows.specs.declared.requests.{ItemId.ItemId, Facts.Facts, Object.Object}
use Rattle.item_shards.specs.Values.{stock}
use Rattle.shard_boxes.specs.States.{ShardState}
use Rattle.worker_slices.specs.Slicing.{hot_objects, stock_of, IsStocked}
use Rattle.closing_laws.specs.Phases.{value_on, IsReadFrom}

-- what holds of each hot object with what is fixed of it holds of a hot object
fixed_if : (P : Object × Option (Facts × ℕ) → Type 0) (b : Bool) (object : Object) (first rest : Option (Facts × ℕ)) → (b ≡ true → P (object, first)) → (b ≡ false → P (object, rest)) → P (object, cond b first rest)
fixed_if P true object first rest here there = here refl
fixed_if P false object first rest here there = there refl

fixed_of : (P : Object × Option (Facts × ℕ) → Type 0) (stocks : List (Object × Option (Facts × ℕ))) (object : Object) → AllByRecursion P stocks
    → is_hot (hot_objects stocks) object ≡ true → P (object, stock_of stocks object)
fixed_of P [] object all hot = absurd (false≢true hot)
fixed_of P (first ∷ stocks) object all hot =
    fixed_if P (same_object first.0 object) object first.1 (stock_of stocks object)
    (λ same. subst (λ (o : Object). P (o, first.1)) (same_object-true first.0 object same) all.0)
    (λ apart. fixed_of P stocks object all.1 (ap (λ b. b || is_hot (hot_objects stocks) object) (sym apart) ∙ hot))

-- of a hot item something is fixed, which was read from its shard
pub stocked_of : (stocks : List (Object × Option (Facts × ℕ))) → AllByRecursion IsStocked stocks
    → (item : ItemId) → is_hot (hot_objects stocks) (Item item) ≡ true → IsSome (stock_of stocks (Item item))
stocked_of stocks all item hot = fixed_of IsStocked stocks (Item item) all hot

pub read_of : (states : List ShardState) (stocks : List (Object × Option (Facts × ℕ))) → AllByRecursion (IsReadFrom states) stocks
    → (item : ItemId) → is_hot (hot_objects stocks) (Item item) ≡ true → stock_of stocks (Item item) ≡ stock (value_on states (Item item))
read_of states stocks all item hot = fixed_of (IsReadFrom states) stocks (Item item) all hot
