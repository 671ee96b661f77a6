-- The shards that are kept between phases.
use Rattle.std.proofs.Common.{◌≡◌, ℕ, List, sym, ◌∙◌}
use Rattle.auction_rows.specs.declared.values.Opening.{Opening}
use Rattle.shard_boxes.specs.States.{ShardState}
use Rattle.auction_shards.specs.Shards.{AreOfOne, opening_in}
use Rattle.worker_slices.specs.declared.counters.Counters.{Counters}
use Rattle.phase_floor.specs.States.{IsKept}

module _ (opening : Opening) (limit : ℕ) (states : List ShardState) (counters : List Counters) (kept : IsKept opening limit states counters) where
  -- they have the opening
  pub opening_kept : opening_in states ≡ opening
  opening_kept = kept.opening_is 0 kept.some_shards

  -- and are of one auction
  pub one_of_kept : AreOfOne states
  one_of_kept = record {
    some = kept.some_shards;
    few = kept.few_shards;
    numbered = λ s low. ((kept.opened s low).number_is, (kept.opened s low).shards_is);
    opening_is = λ s low. kept.opening_is s low ∙ sym opening_kept;
  }
