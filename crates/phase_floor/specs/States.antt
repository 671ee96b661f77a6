-- The state between two phases, and the books for which it stands.
use Rattle.std.specs.List.{AllByRecursion}
use Rattle.std.specs.Prelude.{ℕ, ◌<◌, ◌≤◌, List, [], All, IsSome, length, map}
use Rattle.auction_rows.specs.{Book.{Book, worker_of}, History.{IsBook}}
use Rattle.auction_rows.specs.declared.limits.TheConstants.{MOST_SHARDS, MOST_WORKERS}
use Rattle.auction_rows.specs.declared.requests.Object.TheVariants.{Item, User, Category}
use Rattle.auction_rows.specs.declared.{values.Opening.Opening, requests.Object.Object}
use Rattle.item_shards.specs.{Values.{stock}, declared.shard.Shard.{Shard}}
use Rattle.shard_boxes.specs.States.{ShardState, state_of, AreInitial}
use Rattle.shard_boxes.specs.declared.limits.TheConstants.{MOST_COMMITS}
use Rattle.worker_slices.specs.declared.counters.Counters.{Counters}
use Rattle.phase_transactions.specs.Performing.{HaveOpening}
use Rattle.closing_laws.specs.Phases.{value_on}
use Rattle.closing_laws.specs.Standing.{StandFor, AreOfWorkers, counters_at, stores}

-- the users and categories, how many requests each worker may commit, the number of the next phase,
-- the shards, and the counters of each worker
pub record JoinedState : Type 0 where
  -- the users and categories
  pub opening : Opening
  -- how many requests each worker may commit
  pub limit : ℕ
  -- the number of the next phase
  pub phase : ℕ
  -- the shards
  pub shards : List Shard
  -- each worker's counters
  pub counters : List Counters

abbrev pub joined_of : Opening → ℕ → ℕ → List Shard → List Counters → JoinedState
joined_of opening limit phase shards counters = record {
  opening = opening;
  limit = limit;
  phase = phase;
  shards = shards;
  counters = counters;
}

-- what the shards show
abbrev pub states_of : JoinedState → List ShardState
states_of state = map state_of state.shards

abbrev pub StandsFor : JoinedState → Book → Type 0
StandsFor state book = StandFor (states_of state) state.counters book []

-- A book of a state: its rows are of the state's workers, and the state stands for it.
pub record IsBookOf (state : JoinedState) (book : Book) : Type 0 where
  pub is_book : IsBook state.opening book
  pub own : All (λ row. worker_of row < length state.counters) book
  pub stands : StandsFor state book

-- the state has no such book: of no state is this so
abbrev pub HasNoBook : JoinedState → Type 0
HasNoBook state = (book : Book) → IsBookOf state book → ⊥

-- the object is one of the auction: an item that is stored, or a user or category of the opening
abbrev pub DoesExist : Opening → List ShardState → Object → Type 0
DoesExist opening states (Item id) = IsSome (stock (value_on states (Item id)))
DoesExist opening states (User user) = user < opening.users
DoesExist opening states (Category category) = category < opening.categories

abbrev pub DoAllExist : Opening → List ShardState → List Object → Type 0
DoAllExist opening states objects = AllByRecursion (DoesExist opening states) objects

-- no more stores of a worker than commits, and no more of these than any auction allows
pub record IsWithinMost (counters : Counters) : Type 0 where
  pub stored : stores counters ≤ counters.commits
  pub commits : counters.commits ≤ MOST_COMMITS

abbrev pub AreWithinMost : List Counters → Type 0
AreWithinMost counters = (w : ℕ) → w < length counters → IsWithinMost (counters_at counters w)

-- It is not so that they stand for no book of their workers' rows. Whatever can be tested of them,
-- and holds if they stand for such a book, holds here.
abbrev pub AreOfABook : Opening → List ShardState → List Counters → Type 0
AreOfABook opening states counters =
    ¬ ((book : Book) → IsBook opening book → AreOfWorkers (length counters) book →
    StandFor states counters book [] → ⊥)

-- what is kept between phases: 1 to 64 shards with which a phase may open, 1 to 16 workers within
-- what any auction allows, and that they are of a book
pub record IsKept (opening : Opening) (limit : ℕ) (states : List ShardState)
    (counters : List Counters) : Type 0 where
  -- there are 1 to 64 shards
  pub some_shards : 0 < length states
  pub few_shards : length states ≤ MOST_SHARDS
  -- there are 1 to 16 workers
  pub some_workers : 0 < length counters
  pub few_workers : length counters ≤ MOST_WORKERS
  -- a phase may open with the shards
  pub opened : AreInitial states
  -- they are of the opening
  pub opening_is : HaveOpening states opening
  -- no limit is above that of all auctions
  pub last : limit ≤ MOST_COMMITS
  -- nobody has more commits than that
  pub most : AreWithinMost counters
  -- it is not so that they stand for no book of their workers' rows
  pub of_a_book : AreOfABook opening states counters
