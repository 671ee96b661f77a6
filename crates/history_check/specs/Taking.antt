-- A replay that has performed the entries of a history so far.
use Rattle.std.specs.Prelude.{ℕ, ◌+◌, ◌≡◌, ◌<◌, ◌≤◌, Bool, if◌then◌else◌, true, false, List, length, count_by, get_or}
use Rattle.auction_rows.specs.{Book.{Book}, History.{book_after}}
use Rattle.auction_rows.specs.declared.limits.TheConstants.{MOST_WORKERS}
use Rattle.auction_rows.specs.declared.{values.Opening.Opening, requests.Request.Request, rows.Entry.Entry}
use Rattle.item_shards.specs.Serial.{HoldsBook, serial_opening}
use Rattle.run_laws.specs.Serving.{script_of}
use Rattle.history_check.specs.{Checking.{GoWell}, Marks.{is_marked, HasPlaces}}
use Rattle.history_check.specs.{Orders.{turn_after}, Scripts.{is_of}, declared.lines.Order.{Order}}
use Rattle.history_check.specs.declared.replay.Replay.{Replay}

-- Nothing is wrong with the entries, the auction holds the book after them, each request that
-- stands in one has a mark, and each worker its turn.
pub record HasTaken (opening : Opening) (start : Book) (scripts : List (List Request))
    (order : Order) (history : List Entry) (replay : Replay) : Type 0 where
  pub go_well : GoWell opening start scripts order history
  pub opening_is : serial_opening replay.auction ≡ opening
  pub order_is : replay.order ≡ order
  pub holds : HoldsBook replay.auction (book_after opening start history)
  pub few : length (book_after opening start history) ≤ replay.rows
  pub count : replay.rows ≡ length start + length history
  pub places : HasPlaces replay.marks.rows.items scripts
  pub marks : (worker index : ℕ) → worker < MOST_WORKERS → count_by (is_of worker index) history
      ≡ (if is_marked replay.marks.rows.items worker index then 1 else 0)
  pub turns : (worker : ℕ) → worker < MOST_WORKERS →
      get_or replay.turns.next worker 0 ≡ turn_after worker history

-- a replay has performed some entries, from some book on
pub record CanTake (scripts : List (List Request)) (replay : Replay) : Type 0 where
  pub opening : Opening
  pub start : Book
  pub order : Order
  pub history : List Entry
  pub taken : HasTaken opening start scripts order history replay

-- it is so with each opening, book, order and history whose entries a replay may have performed
abbrev pub ForEachTaken : List (List Request) → Replay →
    (Opening → Book → Order → List Entry → Type 0) → Type 0
ForEachTaken scripts replay IsSo =
    (opening : Opening) (start : Book) (order : Order) (history : List Entry) →
    HasTaken opening start scripts order history replay → IsSo opening start order history

-- each request of each script has a mark
abbrev pub AreMarked : List (List Request) → List (List Bool) → Type 0
AreMarked scripts rows = (worker index : ℕ) → index < length (script_of scripts worker) →
    is_marked rows worker index ≡ true

-- the request with this index of this worker's script has no mark
pub record IsUnmarked (scripts : List (List Request)) (rows : List (List Bool))
    (worker index : ℕ) : Type 0 where
  pub has_request : index < length (script_of scripts worker)
  pub worker_below : worker < MOST_WORKERS
  pub no_mark : is_marked rows worker index ≡ false
