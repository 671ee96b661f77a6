-- What a row needs of a state, of its worker's counters and of the shards.
use Rattle.std.specs.Prelude.{◌<◌, [], ◌∷◌, length, ◌≡◌, ℕ, List}
use Rattle.auction_rows.specs.{Book.{Book, worker_of}, History.{GoOn}}
use Rattle.auction_rows.specs.declared.{rows.Row.Row, values.Opening.Opening}
use Rattle.closing_laws.specs.Standing.{counters_at}
use Rattle.phase_floor.specs.States.{JoinedState, IsBookOf}
use Rattle.shard_boxes.specs.States.{ShardState, state_at}
use Rattle.shard_boxes.specs.declared.limits.TheConstants.{MOST_COMMITS}
use Rattle.auction_shards.specs.Shards.{AreNumbered}
use Rattle.worker_slices.specs.declared.counters.Counters.{Counters}
use Rattle.phase_transactions.specs.Performing.{HaveOpening}

-- A row goes on a book of a state, and is of one of its workers, which may commit more.
pub record CanTake (state : JoinedState) (row : Row) : Type 0 where
  -- the state is of this book
  pub book : Book
  pub is_of : IsBookOf state book
  -- the row goes on the book
  pub goes_on : GoOn state.opening book (row ∷ [])
  -- it is of one of the state's workers
  pub own : worker_of row < length state.counters
  -- which may commit more
  pub room : (counters_at state.counters (worker_of row)).commits < state.limit

-- so few that one more fits
pub record HaveRoom (counters : Counters) : Type 0 where
  pub items : counters.items < MOST_COMMITS
  pub bids : counters.bids < MOST_COMMITS
  pub comments : counters.comments < MOST_COMMITS
  pub buys : counters.buys < MOST_COMMITS
  pub commits : counters.commits < MOST_COMMITS

-- the shards are numbered, of this opening, and at clock 0
pub record AreReady (opening : Opening) (states : List ShardState) : Type 0 where
  pub numbered : AreNumbered states
  pub opening_is : HaveOpening states opening
  pub clock_is : (s : ℕ) → s < length states → (state_at states s).clock ≡ 0
