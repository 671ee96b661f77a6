-- Parcels of a text, each read as if nothing stood before it.
use Rattle.std.specs.Prelude.{ℕ, ◌≡◌, ◌≤◌, ◌+◌, ◌||◌, ◌++◌, ◌∷◌, true, false, All, List, [], Some, drop, length, slice_index_or}
use Rattle.record_reading.specs.Asking.{Asked, nothing_asked}
use Rattle.record_reading.specs.declared.inputs.TheConstants.{MOST_RECORDS}
use Rattle.auction_rows.specs.declared.requests.Request.{Request}
use Rattle.auction_reading.specs.declared.parcels.Parcel.{Parcel}
use Rattle.auction_reading.specs.inner.Said.{HasRead, WasRead, read_by}

-- of two lists of scripts, each script of the first with that of the second after it
abbrev pub scripts_joined : List (List Request) → List (List Request) → List (List Request)
scripts_joined [] others = []
scripts_joined (script ∷ scripts) [] = script ∷ scripts
scripts_joined (script ∷ scripts) (other ∷ others) =
    (script ++ other) ∷ scripts_joined scripts others

-- what is asked first, and then
abbrev pub joined : Asked → Asked → Asked
joined first second = record {
  rows = first.rows ++ second.rows;
  scripts = scripts_joined first.scripts second.scripts;
}

-- nothing was read yet for so many workers
abbrev pub nothing_read : ℕ → WasRead
nothing_read workers = record { asked = nothing_asked workers; count = 0; begun = false }

-- what was read, and then what was read as if nothing stood before it
abbrev pub read_with : WasRead → WasRead → WasRead
read_with old parcel = record {
  asked = joined old.asked parcel.asked;
  count = old.count + parcel.count;
  begun = old.begun || parcel.begun;
}

-- what a parcel asks of a worker
abbrev pub requests_of : ℕ → Parcel → List Request
requests_of worker parcel = slice_index_or parcel.progress.input.scripts.items worker []

-- what parcels ask of a worker, one after the other
abbrev pub all_requests_of : ℕ → List Parcel → List Request
all_requests_of worker [] = []
all_requests_of worker (parcel ∷ parcels) = requests_of worker parcel ++ all_requests_of worker parcels

-- the scripts of the workers from one on, each with what parcels ask of its worker after it
abbrev pub scripts_with : ℕ → List (List Request) → List Parcel → List (List Request)
scripts_with worker [] parcels = []
scripts_with worker (script ∷ scripts) parcels =
    (script ++ all_requests_of worker parcels) ∷ scripts_with (worker + 1) scripts parcels

-- what was read, and then parcels one after the other
abbrev pub read_with_all : WasRead → List Parcel → WasRead
read_with_all old [] = old
read_with_all old (parcel ∷ parcels) = read_with_all (read_with old (read_by parcel.progress)) parcels

-- what was read in the end, but for the requests: the scripts are the first ones
abbrev pub but_requests : WasRead → WasRead → WasRead
but_requests old new = record {
  asked = record { rows = new.asked.rows; scripts = old.asked.scripts };
  count = new.count;
  begun = new.begun;
}

-- What was read as if nothing stood before it can follow what was read before it.
pub record CanJoin (old parcel : WasRead) : Type 0 where
  pub workers : length old.asked.scripts ≡ length parcel.asked.scripts
  pub room : old.count + parcel.count ≤ MOST_RECORDS
  pub rows : old.begun ≡ true → parcel.asked.rows ≡ []

-- A parcel follows what was read up to a place in a text, and was read up to another one.
pub record Follows (old : WasRead) (at : ℕ) (parcel : Parcel) (to : ℕ) : Type 0 where
  pub begins : parcel.from ≡ at
  pub ends : parcel.to ≡ Some to
  pub joins : CanJoin old (read_by parcel.progress)

-- What a parcel has read of a text, from where it begins to where it ends.
pub record HasReadTo (text : List ℕ) (parcel : Parcel) (to : ℕ) : Type 0 where
  pub within : to ≤ length text
  pub reads : HasRead (nothing_read (length parcel.progress.input.scripts.items))
      (drop parcel.from text) (read_by parcel.progress) (drop to text)

-- a parcel of a text has read of it what it tells, unless memory was refused
abbrev pub IsParcel : List ℕ → Parcel → Type 0
IsParcel text parcel = (to : ℕ) → parcel.to ≡ Some to → HasReadTo text parcel to

-- All are parcels of a text.
pub record AreParcels (text : List ℕ) (parcels : List Parcel) : Type 0 where
  pub each : All (IsParcel text) parcels
