-- What a run begins with.
use Rattle.std.specs.Prelude.{ℕ, ◌≡◌, ◌+◌, ◌<◌, ◌≤◌, List, All, length}
use Rattle.auction_rows.specs.{Book.{Book, worker_of}, History.{IsBook}}
use Rattle.auction_rows.specs.declared.limits.TheConstants.{MOST_HOT, MOST_OF_A_WORKER, MOST_SHARDS, MOST_WORKERS}
use Rattle.auction_rows.specs.declared.{limits.Policy.Policy, values.Opening.Opening, requests.Request.Request, rows.Row.Row}
use Rattle.phase_boards.specs.Boards.{book_of}
use Rattle.item_shards.specs.OpeningRows.{rows_by}
use Rattle.closing_laws.specs.Standing.{counters_at}
use Rattle.phase_floor.specs.States.{JoinedState, StandsFor}
use Rattle.run_laws.specs.Serving.{script_of}

-- there are 1 to 16 scripts, and each row is of a worker that has one
pub record HaveWorkers (rows : Book) (scripts : List (List Request)) : Type 0 where
  pub some : 0 < length scripts
  pub few : length scripts ≤ MOST_WORKERS
  pub own : All (λ row. worker_of row < length scripts) rows

-- there are 1 to 64 shards
pub record HasShards (policy : Policy) : Type 0 where
  pub some : 0 < policy.shards
  pub few : policy.shards ≤ MOST_SHARDS

-- neither quota is 0, nor is the threshold, and at most 64 objects may be hot
pub record HasQuotas (policy : Policy) : Type 0 where
  pub joined : 0 < policy.joined_quota
  pub split : 0 < policy.split_quota
  pub threshold : 0 < policy.threshold
  pub hot : policy.hot_max ≤ MOST_HOT

-- no worker's rows and script have more than 1,000,000 together
abbrev pub AreShort : Book → List (List Request) → Type 0
AreShort rows scripts = (worker : ℕ) → worker < length scripts →
    rows_by rows worker + length (script_of scripts worker) ≤ MOST_OF_A_WORKER

-- each worker's script has no more than 1,000,000 requests, and with the worker's rows no more than
-- a limit
abbrev pub AreShortFor : ℕ → Book → List (List Request) → Type 0
AreShortFor limit rows scripts = (worker : ℕ) → worker < length scripts →
    (length (script_of scripts worker) ≤ MOST_OF_A_WORKER)
    × (rows_by rows worker + length (script_of scripts worker) ≤ limit)

-- A run of scripts begins with a state, from a book. The book has rows of their workers alone, which
-- were all that these committed, and is short together with the scripts. The state stands for it,
-- its next phase is 0, and it has the policy's shards.
pub record BeginsWith (state : JoinedState) (rows : Book) (policy : Policy)
    (scripts : List (List Request)) : Type 0 where
  pub is_book : IsBook state.opening rows
  pub few : length scripts ≤ MOST_WORKERS
  pub own : All (λ row. worker_of row < length scripts) rows
  pub short : AreShortFor state.limit rows scripts
  pub stands : StandsFor state rows
  pub phase_is : state.phase ≡ 0
  pub shards_are : length state.shards ≡ policy.shards
  pub workers_are : length state.counters ≡ length scripts
  pub commits : (worker : ℕ) → worker < length scripts →
      (counters_at state.counters worker).commits ≡ rows_by rows worker

-- there is no book from which it begins
abbrev pub CannotBegin : JoinedState → Policy → List (List Request) → Type 0
CannotBegin state policy scripts = (rows : Book) → BeginsWith state rows policy scripts → ⊥

-- A board can be shown such a run: it begins from the book of the phases that the board has, and
-- its state is not a lasting one.
pub record CanShowRun {B : Type 0} (has : B → Opening → Book → List (List Row) → Type 0)
    (board : B) (state : JoinedState) (policy : Policy) (scripts : List (List Request))
    : Type 0 where
  pub rows : Book
  pub before : List (List Row)
  pub begins : BeginsWith state (book_of rows before) policy scripts
  pub has_them : has board state.opening rows before
  pub few : state.limit ≤ MOST_OF_A_WORKER
