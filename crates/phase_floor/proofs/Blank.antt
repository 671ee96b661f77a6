-- Shards, and an auction, in which nothing is stored.
use Rattle.std.proofs.Common.{◌≡◌, ℕ, suc, ◌+◌, ◌*◌, ◌<◌, ◌≤◌, List, [], length, map, replicate, refl, sym, ap, ◌∙◌, subst, arith, unsigned_abs}
use Rattle.std.proofs.lemmas.{Int.{ints}, List.{length-map}}
use Rattle.auction_rows.specs.declared.requests.Object.TheVariants.{Item, User}
use Rattle.auction_rows.specs.declared.values.Opening.{Opening}
use Rattle.item_shards.{proofs.StandingLemmas.{blank_of_none}, specs.Values.{Value}}
use Rattle.item_shards.specs.declared.shard.Shard.{Shard}
use Rattle.shard_boxes.specs.States.{ShardState, state_of, state_at, IsInitial}
use Rattle.shard_boxes.specs.declared.limits.TheConstants.{MOST_COMMITS, MOST_KEPT}
use Rattle.worker_slices.specs.declared.counters.Counters.{Counters}
use Rattle.phase_permits.specs.Replying.{CountsOf}
use Rattle.phase_transactions.specs.Workers.{no_counters}
use Rattle.auction_shards.specs.Making.{IsBlank, AreBlank}
use Rattle.closing_laws.specs.Standing.{counters_at}
use Rattle.phase_floor.specs.{Adding.{IsStartOf}, NextRun.{lasting}}
use Rattle.phase_floor.specs.States.{JoinedState, joined_of, StandsFor, IsWithinMost, IsKept}

-- a blank shard may open a phase
opened_of_blank : (opening : Opening) (count n : ℕ) (state : ShardState) → IsBlank opening count n state → IsInitial count n state
opened_of_blank opening count n state h = record {
  number_is = h.number_is;
  shards_is = h.shards_is;
  clock_is = h.clock_is;
  within = record {
    bids = λ id. subst (λ (v : Value). v.bids.bids ≤ MOST_KEPT + 2 * state.clock) (sym (h.nothing (Item id))) (omega arith);
    comments = λ user. subst (λ (v : Value). v.comments.comments ≤ MOST_KEPT + 2 * state.clock) (sym (h.nothing (User user))) (omega arith);
    ratings = λ user. subst (λ (v : Value). unsigned_abs v.comments.rating ≤ 5 * MOST_KEPT + 10 * state.clock) (sym (h.nothing (User user))) (omega (arith, ints));
  };
}

none_counted : (workers w : ℕ) → counters_at (replicate workers no_counters) w ≡ no_counters
none_counted (suc workers) (suc w) = none_counted workers w
none_counted workers w = refl

module _ (opening : Opening) (limit : ℕ) (shards : List Shard) (counters : List Counters) (count workers : ℕ) (blank : AreBlank opening count count (map state_of shards))
    (len : length shards ≡ count) (counted : counters ≡ replicate workers no_counters) where
  same : length (map state_of shards) ≡ length shards
  same = simp length-map

  here : (s : ℕ) → s < length (map state_of shards) → s < count
  here s below = omega (arith, below, same, len)

  nothing : (w : ℕ) → no_counters ≡ counters_at counters w
  nothing w = sym (ap (λ cs. counters_at cs w) counted ∙ none_counted workers w)

  -- what is blank stands for no rows
  pub blank_stands : StandsFor (joined_of opening limit 0 shards counters) []
  blank_stands = record {
    shards = λ s below object lies cold. (blank s (here s below)).nothing object ∙ sym (blank_of_none object);
    counts = λ w below. subst (CountsOf [] w) (nothing w) (record { items = refl; bids = refl; comments = refl; buys = refl });
  }

  pub blank_kept : limit ≤ MOST_COMMITS → (0 < count) × (count ≤ 64) → (0 < workers) × (workers ≤ 16) → length counters ≡ workers → IsKept opening limit (map state_of shards) counters
  blank_kept last some few many = record {
    some_shards = omega (arith, same, len, some);
    few_shards = omega (arith, same, len, some);
    some_workers = omega (arith, few, many);
    few_workers = omega (arith, few, many);
    opened = λ s below. subst (λ n. IsInitial n s (state_at (map state_of shards) s)) (sym (same ∙ len)) (opened_of_blank opening count s (state_at (map state_of shards) s) (blank s (here s below)));
    opening_is = λ s below. (blank s (here s below)).opening_is;
    last = last;
    most = λ w below. subst IsWithinMost (nothing w) (record { stored = omega arith; commits = omega arith });
    of_a_book = λ none. none [] tt tt blank_stands;
  }

-- an auction in which nothing is stored, and that lasts
pub new_start : (made last : JoinedState) (workers : ℕ) → made.counters ≡ replicate workers no_counters → StandsFor made [] → last ≡ lasting made → IsStartOf last []
new_start made last workers counted stands is = subst (λ s. IsStartOf s []) (sym is) (record {
  is_of = record { is_book = tt; own = λ k row low. absurd (omega (arith, low)); stands = stands };
  counters = λ w below. ap (λ cs. counters_at cs w) counted ∙ none_counted workers w;
})
