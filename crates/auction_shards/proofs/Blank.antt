-- Shards in which nothing is stored.
use Rattle.std.proofs.Common.{◌≡◌, ℕ, ◌<◌, ◌≤◌, List, length, sym, ◌∙◌, arith}
use Rattle.auction_rows.specs.declared.values.Opening.{Opening}
use Rattle.item_shards.specs.{ShardContents.{IsNewShard}, declared.shard.Shard.{Shard}}
use Rattle.shard_boxes.specs.States.{ShardState, state_of}
use Rattle.auction_shards.specs.{Making.{IsBlank, AreBlank}, Shards.{AreOfOne}}

pub blank_of_new : (opening : Opening) (count n : ℕ) (shard : Shard) → IsNewShard n count opening shard → IsBlank opening count n (state_of shard)
blank_of_new opening count n shard new =
    record { number_is = new.number_is; shards_is = new.shards_is; opening_is = new.opening_is; clock_is = new.clock_is; nothing = new.nothing }

-- all of them are shards of one auction
pub one_of_blank : (opening : Opening) (count : ℕ) (states : List ShardState) → length states ≡ count → (0 < count) × (count ≤ 64) → AreBlank opening count count states → AreOfOne states
one_of_blank opening count states many some blank = record {
  some = omega (arith, many, some);
  few = omega (arith, many, some);
  numbered = λ s low. let own = blank s (omega (arith, low, many)) in (own.number_is, own.shards_is ∙ sym many);
  opening_is = λ s low. (blank s (omega (arith, low, many))).opening_is ∙ sym (blank 0 (omega (arith, some))).opening_is;
}
