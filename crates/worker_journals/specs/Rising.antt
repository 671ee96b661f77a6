-- Indexes that rise, as those of a worker do that puts nothing off.
use Rattle.std.specs.Prelude.{◌≡◌, ℕ, ◌+◌, ◌≤◌, List, [], ◌∷◌, ◌++◌, map}
use Rattle.auction_rows.specs.declared.rows.Entry.{Entry}
use Rattle.worker_journals.specs.Journals.{entry_index}

-- indexes rise from one on, and the second is the one after the last of them
abbrev pub RisesTo : ℕ → List ℕ → ℕ → Type 0
RisesTo from [] next = next ≡ from
RisesTo from (index ∷ indexes) next = (from ≤ index) × RisesTo (index + 1) indexes next

-- the indexes of entries rise
abbrev pub EntriesRiseTo : ℕ → List Entry → ℕ → Type 0
EntriesRiseTo from entries next = RisesTo from (map entry_index entries) next

-- some entries were passed, whose indexes rise from one on, and these are left
pub record HasPassed (from : ℕ) (entries left : List Entry) (next : ℕ) : Type 0 where
  -- the entries that were passed
  pub passed : List Entry
  pub parts : entries ≡ passed ++ left
  -- their indexes rise
  pub rise : EntriesRiseTo from passed next
