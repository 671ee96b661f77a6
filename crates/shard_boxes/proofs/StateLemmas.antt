-- What a new shard shows.
use Rattle.std.proofs.Common.{ℕ, ◌+◌, ◌*◌, ◌≤◌, sym, subst, arith, unsigned_abs}
use Rattle.std.proofs.lemmas.Int.{ints}
use Rattle.auction_rows.specs.declared.requests.Object.TheVariants.{Item, User}
use Rattle.auction_rows.specs.declared.values.Opening.{Opening}
use Rattle.item_shards.specs.{ShardContents.{clock, IsNewShard}, Values.{Value}}
use Rattle.item_shards.specs.declared.shard.Shard.{Shard}
use Rattle.shard_boxes.specs.States.{state_of, IsInitial}
use Rattle.shard_boxes.specs.declared.limits.TheConstants.{MOST_KEPT}

-- a new shard may open a phase
pub new_is_opened : (n count : ℕ) (start : Opening) (shard : Shard) → IsNewShard n count start shard → IsInitial count n (state_of shard)
new_is_opened n count start shard h = record {
  number_is = h.number_is;
  shards_is = h.shards_is;
  clock_is = h.clock_is;
  within = record {
    bids = λ id. subst (λ (v : Value). v.bids.bids ≤ MOST_KEPT + 2 * clock shard) (sym (h.nothing (Item id))) (omega arith);
    comments = λ user. subst (λ (v : Value). v.comments.comments ≤ MOST_KEPT + 2 * clock shard) (sym (h.nothing (User user))) (omega arith);
    ratings = λ user. subst (λ (v : Value). unsigned_abs v.comments.rating ≤ 5 * MOST_KEPT + 10 * clock shard) (sym (h.nothing (User user))) (omega (arith, ints));
  };
}
