-- What a history shows.
use Rattle.std.specs.{List.{AllByRecursion}, Prelude.{◌≤◌, List, [], ◌++◌, length, map}}
use Rattle.auction_rows.specs.declared.{limits.TheConstants.{MOST_WORKERS}, rows.Entry.{Entry}}
use Rattle.worker_journals.specs.Journals.{JournalView, IsLawfulJournal, closed_journal}
use Rattle.worker_journals.specs.Merged.{merged, AreByWorker}

-- what a history shows
pub record HistoryView : Type 0 where
  -- the entries of all phases, one phase after the other
  pub entries : List Entry
  -- the journals of the last phase
  pub last : List JournalView

-- a history before the first phase
abbrev pub no_history : HistoryView
no_history = record { entries = []; last = [] }

-- a history with one phase more, of these journals
abbrev pub with_phase : HistoryView → List JournalView → HistoryView
with_phase history journals =
    record { entries = history.entries ++ merged journals; last = map closed_journal journals }

-- the journals of a phase
pub record ArePhase (journals : List JournalView) : Type 0 where
  -- the journals are of at most 16 workers
  pub few : length journals ≤ MOST_WORKERS
  -- the journals are in the order of their workers
  pub by_worker : AreByWorker journals
  -- each journal is lawful
  pub lawful : AllByRecursion IsLawfulJournal journals
