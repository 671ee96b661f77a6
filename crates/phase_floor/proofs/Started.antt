-- The shards of a closed phase, with their clocks at 0.
use Rattle.std.proofs.Common.{◌≡◌, ℕ, ◌<◌, List, [], map, length, sym, ap, ◌∙◌, arith}
use Rattle.std.proofs.lemmas.List.{length-map, get_or-map}
use Rattle.auction_rows.specs.{Book.{Book}, Requests.{shard_of}}
use Rattle.shard_boxes.specs.States.{ShardState, state_at, no_shard}
use Rattle.worker_slices.specs.declared.counters.Counters.{Counters}
use Rattle.closing_laws.specs.Standing.{StandFor}
use Rattle.auction_shards.specs.Shards.{at_start}

module _ (given states : List ShardState) (states_are : states ≡ map at_start given) where
  pub same_length : length states ≡ length given
  same_length = ap length states_are ∙ length-map given at_start

  pub started : (s : ℕ) → s < length given → state_at states s ≡ at_start (state_at given s)
  started s below = ap (λ all. state_at all s) states_are ∙ get_or-map at_start given s no_shard no_shard below

  -- clocks don't matter to what shards stand for
  pub start_stands : (counters : List Counters) (book : Book) → StandFor given counters book [] → StandFor states counters book []
  start_stands counters book holds = record {
    shards = λ s below object lies cold.
        let known : s < length given = omega (arith, below, same_length) in
        ap (λ (state : ShardState). state.contents object) (started s known)
        ∙ holds.shards s known object (ap (λ n. shard_of object n) (sym same_length) ∙ lies) cold;
    counts = holds.counts;
  }
