-- The entries of a part of a run, as they stand in the whole.
use Rattle.std.specs.Prelude.{ℕ, ◌+◌, ◌^◌, ◌<◌, ◌≤◌, ◌⊎◌, List, [], length, map, slice_index, slice_index_or}
use Rattle.auction_rows.specs.declared.limits.TheConstants.{MOST_WORKERS}
use Rattle.auction_rows.specs.declared.{requests.Request.Request, rows.Entry.Entry}

-- What went before a part: how many phases, and how many requests of each worker.
pub record Gone : Type 0 where
  pub phases : ℕ
  pub requests : ℕ → ℕ

-- What went before a part as it is counted: the requests of each worker from 0 on, and none of the
-- others.
pub record BeforeView : Type 0 where
  pub phases : ℕ
  pub requests : List ℕ

abbrev pub gone_by : BeforeView → Gone
gone_by before = record { phases = before.phases; requests = slice_index before.requests }

-- a count is past 64 bits
abbrev pub IsPastCount : ℕ → Type 0
IsPastCount count = 2 ^ 64 ≤ count

-- the requests of scripts cannot be counted behind those that went before: there are too many
-- scripts, or a worker's count is past 64 bits
abbrev pub CannotCount : BeforeView → List (List Request) → Type 0
CannotCount before scripts = (MOST_WORKERS < length scripts)
    ⊎ ((worker : ℕ) × IsPastCount (slice_index before.requests worker
    + length (slice_index_or scripts worker [])))

-- an entry of a part, as it stands in the whole: its phase and its index go on counting
abbrev pub moved : Gone → Entry → Entry
moved gone entry = record entry {
  phase = gone.phases + entry.phase;
  index = gone.requests entry.worker + entry.index;
}

abbrev pub all_moved : Gone → List Entry → List Entry
all_moved gone entries = map (moved gone) entries
