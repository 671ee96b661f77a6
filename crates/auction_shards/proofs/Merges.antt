-- A slice merged into the shard of its object leaves the shards of one auction.
use Rattle.std.proofs.Common.{◌≡◌, ℕ, zero, suc, ◌<◌, ◌==◌, Bool, true, false, cond, List, ◌∷◌, Option, Some, None, length, map, get_or, set, refl, sym, ap, subst, ◌∙◌, arith}
use Rattle.std.proofs.lemmas.List.{length-map, length-set, map-set}
use Rattle.std.specs.Prelude.{IsSome, is_some}
use Rattle.indexmap.specs.IndexMap.{get}
use Rattle.auction_rows.specs.{Book.{same_item}, Requests.{shard_of}}
use Rattle.auction_rows.specs.declared.requests.Object.TheVariants.{Item}
use Rattle.auction_rows.specs.declared.requests.{ItemId.ItemId, Object.Object}
use Rattle.item_shards.specs.{Contents.{changed}, Records.{item_value}}
use Rattle.item_shards.specs.ShardContents.{IsSameShard, LiesIn, HasItemRoom, clock, contents, opening, shard_count, shard_number}
use Rattle.item_shards.specs.{Values.{blank}, declared.shard.Shard.{Shard}}
use Rattle.item_shards.specs.declared.shard.{records.ItemRecord.{ItemRecord}, slices.Slice.{Slice}}
use Rattle.shard_boxes.specs.States.{ShardState, state_of, state_at}
use Rattle.auction_shards.proofs.Placed.{seen, lies_there, opening_there, value_there}
use Rattle.auction_shards.specs.Merging.{merged_with, with_slice, after_merge}
use Rattle.auction_shards.specs.Shards.{AreOfOne, opening_in, value_on}

-- what no slice changes of a shard stays of all
field_stays : {X : Type 0} (f : ShardState → X) (pair : Object × Slice) → ((state : ShardState) → f (with_slice state pair) ≡ f state)
    → (states : List ShardState) (s t : ℕ) → f (state_at (set states s (with_slice (state_at states s) pair)) t) ≡ f (state_at states t)
field_stays f pair same (state ∷ states) zero zero = same state
field_stays f pair same (state ∷ states) (suc s) (suc t) = field_stays f pair same states s t
field_stays f pair same states s t = refl

module _ (states : List ShardState) (pair : Object × Slice) where
  pub as_many : length (after_merge states pair) ≡ length states
  as_many = length-set states (shard_of pair.0 (length states)) (with_slice (state_at states (shard_of pair.0 (length states))) pair)

  stays : {X : Type 0} (f : ShardState → X) → ((state : ShardState) → f (with_slice state pair) ≡ f state) → (t : ℕ) → f (state_at (after_merge states pair) t) ≡ f (state_at states t)
  stays f same t = field_stays f pair same states (shard_of pair.0 (length states)) t

  pub one_opening : opening_in (after_merge states pair) ≡ opening_in states
  one_opening = stays (λ state. state.opening) (λ state. refl) 0

  pub still_of_one : AreOfOne states → AreOfOne (after_merge states pair)
  still_of_one one = record {
    some = omega (arith, as_many, one.some);
    few = omega (arith, as_many, one.few);
    numbered = λ s below.
        let own = one.numbered s (omega (arith, below, as_many)) in (
          stays (λ state. state.number) (λ state. refl) s ∙ own.0,
          stays (λ state. state.shards) (λ state. refl) s ∙ own.1 ∙ sym as_many,
        );
    opening_is = λ s below. stays (λ state. state.opening) (λ state. refl) s ∙ one.opening_is s (omega (arith, below, as_many)) ∙ sym one_opening;
  }

-- where there are facts of a stored item, there is room for it
pub room_of : (shard : Shard) (id : ItemId) → IsSome (contents shard (Item id)).facts → HasItemRoom shard id
room_of shard id = at (shard_of (Item id) (shard_count shard) == shard_number shard) (get same_item shard.parts.value.items id) where
  at : (b : Bool) (found : Option ItemRecord) → IsSome (cond b (item_value found) blank).facts → is_some found ≡ true
  at b (Some r) some = refl
  at true None some = some
  at false None some = some

-- a slice that is merged into its own shard
pub with_merged : (old new : Shard) (object its : Object) (slice own : Slice) → object ≡ its → slice ≡ own → IsSameShard old new → clock new ≡ clock old
    → contents new ≡ changed its (merged_with own) (contents old) → state_of new ≡ with_slice (state_of old) (object, slice)
with_merged old new object its slice own object_is slice_is same clock_is contents_is =
    subst (λ pair. state_of new ≡ with_slice (state_of old) pair) (λ i. (sym object_is i, sym slice_is i))
    (λ i. record { number = same.number i; shards = same.shards i; opening = same.opening i; clock = clock_is i; contents = contents_is i })

-- What is known of the shard of an object, which stands at this place of the shards of one auction: the object lies in it, it has
-- their opening and the object's value, and once it is merged they are what they are after the merge.
pub record IsPlaced (shards : List Shard) (object : Object) (place : ℕ) (shard : Shard) : Type 0 where
  pub lies : LiesIn shard object
  pub opening_is : opening shard ≡ opening_in (map state_of shards)
  pub value_is : value_on (map state_of shards) object ≡ contents shard object
  pub merged : (slice : Slice) (new : Shard) → state_of new ≡ with_slice (state_of shard) (object, slice) → map state_of (set shards place new) ≡ after_merge (map state_of shards) (object, slice)

-- it is so where the place is found by the object
pub placed : (shards : List Shard) → AreOfOne (map state_of shards) → (object : Object) (many place : ℕ) (shard : Shard) → many ≡ length shards → place ≡ shard_of object many → place < many
    → shard ≡ get_or shards place shard → IsPlaced shards object place shard
placed shards one object many place shard counted found within is =
    let same : length (map state_of shards) ≡ length shards = length-map shards state_of in
    let low : place < length shards = omega (arith, within, counted) in
    let there : shard_of object (length shards) ≡ place = ap (shard_of object) (sym counted) ∙ sym found in
    record {
      lies = lies_there shards one.numbered object place low there shard is;
      opening_is = opening_there shards one.numbered object place low there shard is (opening_in (map state_of shards)) one.opening_is;
      value_is = sym (value_there shards one.numbered object place low there shard is);
      merged = λ slice new merged.
          map-set state_of shards place new
          ∙ ap (λ state. set (map state_of shards) place state) (merged ∙ ap (λ state. with_slice state (object, slice)) (seen shards place low shard is))
          ∙ ap (λ s. set (map state_of shards) s (with_slice (state_at (map state_of shards) s) (object, slice))) (sym (ap (shard_of object) same ∙ there));
    }
