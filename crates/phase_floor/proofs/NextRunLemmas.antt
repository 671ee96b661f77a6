-- A state for another run keeps what is kept between phases, and stands for the same books.
use Rattle.std.proofs.Common.{◌≡◌, ℕ, suc, ◌≤◌, List, [], ◌∷◌, map, length, sym, subst, arith}
use Rattle.std.proofs.{Math.ListN.{get_or-map}, lemmas.List.{length-map}}
use Rattle.std.specs.List.{AllByRecursion}
use Rattle.auction_rows.specs.{Book.{Book}, declared.values.Opening.{Opening}}
use Rattle.shard_boxes.specs.{States.{ShardState}, declared.limits.TheConstants.{MOST_COMMITS}}
use Rattle.worker_slices.specs.declared.counters.Counters.{Counters}
use Rattle.phase_permits.specs.Replying.{CountsOf}
use Rattle.closing_laws.specs.Standing.{StandFor, AreOfWorkers, counters_at, stores}
use Rattle.phase_transactions.specs.Workers.{no_counters}
use Rattle.phase_floor.specs.NextRun.{stores_as_commits}
use Rattle.phase_floor.specs.States.{AreOfABook, AreWithinMost, IsKept, IsWithinMost}

module _ (counters : List Counters) where
  abbrev pub new : List Counters
  new = map stores_as_commits counters

  pub many : length new ≡ length counters
  many = simp length-map

  pub at_next : (w : ℕ) → counters_at new w ≡ stores_as_commits (counters_at counters w)
  at_next w = get_or-map stores_as_commits counters w no_counters

  pub stand_next : (states : List ShardState) (book : Book) → StandFor states counters book [] → StandFor states new book []
  stand_next states book holds = record {
    shards = holds.shards;
    counts = λ w low.
        let own = holds.counts w (omega (arith, low, many)) in
        subst (CountsOf book w) (sym (at_next w)) (record { items = own.items; bids = own.bids; comments = own.comments; buys = own.buys });
  }

  most_next : AreWithinMost counters → AreWithinMost new
  most_next most = λ w low.
      let own = most w (omega (arith, low, many)) in
      subst IsWithinMost (sym (at_next w)) (record { stored = omega arith; commits = omega (arith, own.stored, own.commits) })

  of_a_book_next : (opening : Opening) (states : List ShardState) → AreOfABook opening states counters → AreOfABook opening states new
  of_a_book_next opening states of_a_book = λ none.
      of_a_book (λ book is own holds. none book is (subst (λ n. AreOfWorkers n book) (sym many) own) (stand_next states book holds))

  pub kept_next : (opening : Opening) (limit : ℕ) (states : List ShardState) → IsKept opening limit states counters → IsKept opening limit states new
  kept_next opening limit states kept = record {
    some_shards = kept.some_shards;
    few_shards = kept.few_shards;
    some_workers = omega (arith, many, kept.some_workers);
    few_workers = omega (arith, many, kept.few_workers);
    opened = kept.opened;
    opening_is = kept.opening_is;
    last = kept.last;
    most = most_next kept.most;
    of_a_book = of_a_book_next opening states kept.of_a_book;
  }

-- each worker's stores are within what any auction allows
pub stores_within : (counters : List Counters) → AreWithinMost counters → AllByRecursion (λ c. stores c ≤ MOST_COMMITS) counters
stores_within [] most = tt
stores_within (c ∷ cs) most =
    let first = most 0 (omega arith) in
    (omega (arith, first.stored, first.commits), stores_within cs (λ w low. most (suc w) (omega (arith, low))))

-- a state that may last longer keeps what is kept between phases
pub kept_longer : (opening : Opening) (limit : ℕ) (states : List ShardState) (counters : List Counters) → IsKept opening limit states counters → IsKept opening MOST_COMMITS states counters
kept_longer opening limit states counters kept = record {
  some_shards = kept.some_shards;
  few_shards = kept.few_shards;
  some_workers = kept.some_workers;
  few_workers = kept.few_workers;
  opened = kept.opened;
  opening_is = kept.opening_is;
  last = omega arith;
  most = kept.most;
  of_a_book = kept.of_a_book;
}
