-- The shards of boxes that are closed.
use Rattle.std.proofs.Common.{◌≡◌, ℕ, List, [], ◌∷◌, length, map, Some, slice_get, refl, sym, ap, subst, ◌∙◌, arith}
use Rattle.std.{proofs.lemmas.Option.{same_Some}, specs.Prelude.{IfSome}}
use Rattle.auction_rows.specs.{Requests.{shard_of}, declared.requests.Object.{Object}}
use Rattle.item_shards.specs.{ShardContents.{LiesIn}, declared.shard.Shard.{Shard}}
use Rattle.shard_boxes.specs.{Closed.{AreClosed}, Keys.{KeyState}, States.{ShardState, state_of}}

-- an object that lies in the first of four shards lies there still
pub first_lies : (object : Object) → shard_of object 4 ≡ 0 → (initial : List ShardState) (workers : ℕ) (keys : List KeyState) (shards : List Shard) (shard : Shard) → length initial ≡ 4
    → AreClosed initial workers keys (map state_of shards) → slice_get shards 0 ≡ Some shard → LiesIn shard object
first_lies object first initial workers keys [] shard four closed is = absurd (omega (arith, closed.0, four))
first_lies object first initial workers keys (found ∷ shards) shard four closed is =
    let known = (closed.1 0 (omega (arith, four))).history in
    subst (λ s. LiesIn s object) (same_Some found shard is) (ap (shard_of object) (known.shards_is ∙ four) ∙ first ∙ sym known.number_is)

-- if there is such a shard
pub first_has : (object : Object) → shard_of object 4 ≡ 0 → (initial : List ShardState) (workers : ℕ) (keys : List KeyState) (shards : List Shard) → length initial ≡ 4
    → AreClosed initial workers keys (map state_of shards) → IfSome (slice_get shards 0) (λ shard. LiesIn shard object)
first_has object first initial workers keys [] four closed = tt
first_has object first initial workers keys (found ∷ shards) four closed = first_lies object first initial workers keys (found ∷ shards) found four closed refl
