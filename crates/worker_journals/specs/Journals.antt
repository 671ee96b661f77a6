-- What a worker commits in one phase.
use Rattle.std.specs.List.{AllByRecursion}
use Rattle.std.specs.Prelude.{◌≡◌, ℕ, ◌<◌, List, [], ◌∷◌, ◌++◌, Some, length, slice_get, ⊤}
use Rattle.phase_laws.specs.{Numbers.{last_by}, Order.{IsAscendingByNumber}}
use Rattle.request_scripts.specs.Scripts.{script_at}
use Rattle.auction_rows.specs.declared.{requests.Request.Request, replies.Reply.Reply, rows.Entry.Entry}

-- what a journal shows
pub record JournalView : Type 0 where
  -- the phase whose commits it holds
  pub phase : ℕ
  -- the worker whose commits it holds
  pub worker : ℕ
  -- for how many entries in all a place was asked
  pub room : ℕ
  -- the entries, in the order of their numbers
  pub entries : List Entry

-- an entry's number
abbrev pub entry_number : Entry → ℕ
entry_number entry = entry.number

-- an entry's worker
abbrev pub entry_worker : Entry → ℕ
entry_worker entry = entry.worker

-- an entry's index in its worker's script
abbrev pub entry_index : Entry → ℕ
entry_index entry = entry.index

-- a journal by its parts
abbrev pub seen : ℕ → ℕ → ℕ → List Entry → JournalView
seen phase worker room entries = record {
  phase = phase;
  worker = worker;
  room = room;
  entries = entries;
}

-- a journal before the first commit
abbrev pub empty_journal : ℕ → ℕ → ℕ → JournalView
empty_journal phase worker room = seen phase worker room []

-- a journal after the last commit: its room is for the entries that it has
abbrev pub closed_journal : JournalView → JournalView
closed_journal journal = record journal { room = length journal.entries }

-- a commit of a journal's worker in its phase
abbrev pub commit_in : JournalView → ℕ → ℕ → Request → Reply → Entry
commit_in journal number index request reply = record {
  phase = journal.phase;
  number = number;
  worker = journal.worker;
  index = index;
  request = request;
  reply = reply;
}

-- a journal with one more commit at its end
abbrev pub with_commit : JournalView → ℕ → ℕ → Request → Reply → JournalView
with_commit journal number index request reply =
    seen journal.phase journal.worker journal.room
    (journal.entries ++ commit_in journal number index request reply ∷ [])

-- a number is greater than the last entry's, if there is one
abbrev pub ComesAfter : List Entry → ℕ → Type 0
ComesAfter [] number = ⊤
ComesAfter (entry ∷ entries) number = last_by entry_number (entry_number entry) entries < number

-- an entry is of a phase, and of a worker
abbrev pub IsOf : ℕ → ℕ → Entry → Type 0
IsOf phase worker entry = (entry.phase ≡ phase) × (entry.worker ≡ worker)

-- the journal is one of its phase and its worker
pub record IsLawfulJournal (journal : JournalView) : Type 0 where
  -- each entry is of the journal's phase and worker
  pub own : AllByRecursion (IsOf journal.phase journal.worker) journal.entries
  -- the entries ascend in number
  pub ascending : IsAscendingByNumber entry_number journal.entries

-- an entry's request is that of a script at its index
abbrev pub IsOfScript : List Request → Entry → Type 0
IsOfScript script entry = slice_get script entry.index ≡ Some entry.request

-- the request of each entry is that of its worker's script at its index
abbrev pub IsJournalOf : List (List Request) → JournalView → Type 0
IsJournalOf scripts journal =
    AllByRecursion (IsOfScript (script_at scripts journal.worker)) journal.entries
