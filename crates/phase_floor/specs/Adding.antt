-- Rows that are added to a state.
use Rattle.std.specs.Prelude.{◌≡◌, ◌<◌, ◌≤◌, ℕ, List, length, slice_set}
use Rattle.auction_rows.specs.Book.{Book, worker_of}
use Rattle.auction_rows.specs.declared.{requests.Opened.Opened, rows.Row.Row}
use Rattle.worker_slices.specs.declared.counters.Counters.{Counters}
use Rattle.closing_laws.specs.Standing.{counters_at}
use Rattle.phase_floor.specs.Resuming.{counters_in, with_row}
use Rattle.phase_floor.specs.States.{JoinedState, IsBookOf, StandsFor}

-- A state of a book.
pub record HasBook (state : JoinedState) : Type 0 where
  pub book : Book
  pub is_of : IsBookOf state book

-- A state of a book, whose workers have committed just the rows.
pub record IsStartOf (state : JoinedState) (book : Book) : Type 0 where
  pub is_of : IsBookOf state book
  pub counters : (w : ℕ) → w < length state.counters →
      counters_at state.counters w ≡ counters_in book w

-- a request is of one of the state's workers
abbrev pub IsOwn : JoinedState → Opened → Type 0
IsOwn state opened = opened.worker < length state.counters

-- a request is of one of the state's workers, which may commit nothing more
abbrev pub IsFull : JoinedState → Opened → Type 0
IsFull state opened = IsOwn state opened
    × (state.limit ≤ (counters_at state.counters opened.worker).commits)

-- counters with one more row, which is counted among its worker's
abbrev pub with_counted : Row → List Counters → List Counters
with_counted row counters =
    slice_set counters (worker_of row) (with_row row (counters_at counters (worker_of row)))

-- A state is of the same auction, limit and phase, and has as many shards and workers.
pub record IsSameAuction (old new : JoinedState) : Type 0 where
  pub opening : new.opening ≡ old.opening
  pub limit : new.limit ≡ old.limit
  pub phase : new.phase ≡ old.phase
  pub shards : length new.shards ≡ length old.shards
  pub workers : length new.counters ≡ length old.counters

-- A state stands for the books that it stood for, and has counted nothing.
pub record KeepsBooks (old new : JoinedState) : Type 0 where
  pub books : (book : Book) → StandsFor old book → StandsFor new book
  pub counters : new.counters ≡ old.counters
