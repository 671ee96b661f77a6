-- The rows that an auction is opened with: as they are handed in, and as a book.
use Rattle.std.specs.Prelude.{ℕ, ◌≡◌, ◌==◌, ◌<◌, ◌≤◌, ◌+◌, false, List, [], ◌∷◌, ◌++◌, Option, Some, None, fold, length, count_by}
use Rattle.std.specs.declared.vec.Vec.{Vec}
use Rattle.phase_laws.specs.Replay.{Replays}
use Rattle.auction_rows.specs.{Book.{Book}, History.{commit_of}, Refusals.{refusal}, Replies.{next}}
use Rattle.auction_rows.specs.Requests.{is_view}
use Rattle.auction_rows.specs.declared.limits.TheConstants.{MOST_OF_A_WORKER, MOST_WORKERS}
use Rattle.auction_rows.specs.declared.{values.Opening.Opening, requests.Opened.Opened, rows.Row.Row}
use Rattle.item_shards.specs.Counting.{worker_of}

-- the book after a request that is handed in
abbrev pub with_opened : Opening → Book → Opened → Book
with_opened opening book opened = next opening book opened.worker opened.request

-- the book that requests leave, each row with the id that the model gives it at its place
abbrev pub opening_rows : Opening → List Opened → Book
opening_rows opening = fold (with_opened opening) []

-- a request is a row at its place: a store of a worker below 16, which the book before it does not refuse
pub record IsRow (opening : Opening) (book : Book) (opened : Opened) : Type 0 where
  -- the worker is below 16
  pub worker : opened.worker < MOST_WORKERS
  -- the request is a store
  pub store : is_view opened.request ≡ false
  -- the book before the request does not refuse it
  pub accepted : refusal opening book opened.request ≡ None

-- each request is a row at its place
abbrev pub AreRows : Opening → List Opened → Type 0
AreRows opening = Replays (IsRow opening) (with_opened opening) []

-- the request with this number, from 1, is the first that is no row at its place
pub record IsFirstBad (opening : Opening) (all : List Opened) (number : ℕ) : Type 0 where
  -- the requests before the first bad one
  pub good : List Opened
  -- the first bad request
  pub bad : Opened
  -- the requests after the first bad one
  pub rest : List Opened
  -- there are no others
  pub split : all ≡ good ++ bad ∷ rest
  -- the first bad request has this number
  pub number_is : number ≡ length good + 1
  -- each request before is a row at its place
  pub are_rows : AreRows opening good
  -- the first bad request is no row at its place
  pub no_row : ¬ IsRow opening (opening_rows opening good) bad

-- a row handed in again: its worker's request
abbrev pub opened_of : Row → Opened
opened_of row = record { worker = (commit_of row).worker; request = (commit_of row).request }

-- how many requests are of a worker
abbrev pub asked_by : List Opened → ℕ → ℕ
asked_by all worker = count_by (λ opened. opened.worker == worker) all

-- more than 1,000,000 requests are of one worker below 16
abbrev pub IsTooLong : List Opened → Type 0
IsTooLong all = (worker : ℕ) × (worker < MOST_WORKERS) × (MOST_OF_A_WORKER < asked_by all worker)

-- how many rows of a book are of a worker
abbrev pub rows_by : Book → ℕ → ℕ
rows_by book worker = count_by (λ row. worker_of row == worker) book

-- no worker below 16 has more than 1,000,000 rows of a book
abbrev pub AreFewOfEach : Book → Type 0
AreFewOfEach book = (worker : ℕ) → worker < MOST_WORKERS → rows_by book worker ≤ MOST_OF_A_WORKER

-- the rows of a list, none if there is no list
abbrev pub rows_in : {A : Type 0} → Option (Vec Row A) → Book
rows_in None = []
rows_in (Some rows) = rows.items
