-- The phases of a history, by their journals.
use Rattle.std.specs.{Global.{Vec}, List.{flat_map, AllByRecursion}}
use Rattle.std.specs.Prelude.{◌≡◌, ℕ, List, [], ◌∷◌, length, map}
use Rattle.auction_rows.specs.declared.rows.Entry.{Entry}
use Rattle.worker_journals.specs.{Histories.{ArePhase, HistoryView}, Journals.{JournalView}}
use Rattle.worker_journals.specs.Merged.{merged}

-- the entries of phases, one phase after the other
abbrev pub entries_in : List (List JournalView) → List Entry
entries_in = flat_map merged

-- the last of lists, if there is one
abbrev pub last_of : {X : Type 0} → List (List X) → List X
last_of [] = []
last_of (xs ∷ []) = xs
last_of (xs ∷ ys ∷ more) = last_of (ys ∷ more)

-- phases by their journals
abbrev pub journals_of : List (Vec JournalView) → List (List JournalView)
journals_of = map (λ phase. phase.items)

-- what phases show
abbrev pub shown : List (List JournalView) → HistoryView
shown phases = record { entries = entries_in phases; last = last_of phases }

-- phases, and how many entries they have
pub record IsHistory (phases : List (List JournalView)) (len : ℕ) : Type 0 where
  -- each phase is one of at most 16 workers
  pub each : AllByRecursion ArePhase phases
  -- the phases have so many entries
  pub count : length (entries_in phases) ≡ len
