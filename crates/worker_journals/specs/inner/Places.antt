-- What is left of journals while their entries are told in one order.
use Rattle.std.specs.List.{flat_map, AllByRecursion}
use Rattle.std.specs.Prelude.{◌≡◌, ℕ, ◌<◌, ◌≤◌, List, [], ◌∷◌, ◌++◌, Option, None, Some, map, take, drop, length, slice_get, slice_index_or, unwrap_or, IfSome, nat_lt, if◌then◌else◌}
use Rattle.auction_rows.specs.declared.replies.Refusal.TheVariants.{NoSuchItem}
use Rattle.auction_rows.specs.declared.replies.Reply.TheVariants.{Refused}
use Rattle.auction_rows.specs.declared.{requests.Request.TheVariants.{ViewUser}, rows.Entry.{Entry}}
use Rattle.worker_journals.specs.Journals.{JournalView, entry_number, IsLawfulJournal}
use Rattle.worker_journals.specs.Merged.{entries_of, AreByWorker}

-- the journals with their entries from these places on
abbrev pub left_of : List JournalView → List ℕ → List JournalView
left_of [] places = []
left_of (journal ∷ journals) [] = journal ∷ journals
left_of (journal ∷ journals) (place ∷ places) =
    record journal { entries = drop place journal.entries } ∷ left_of journals places

-- the number of a journal's entry at a place, if there is one
abbrev pub number_at : ℕ → JournalView → Option ℕ
number_at place journal = slice_get (map entry_number journal.entries) place

-- the number of a journal's first entry, if there is one
abbrev pub first_number : JournalView → Option ℕ
first_number = number_at 0

-- a number is the first of the least of the first n
pub record IsLeast (numbers : List (Option ℕ)) (n i number : ℕ) : Type 0 where
  -- the place is one of the first n
  pub within : i < n
  -- the number is at that place
  pub is : slice_index_or numbers i None ≡ Some number
  -- each number before that place is greater
  pub earlier : (k : ℕ) → k < i → IfSome (slice_index_or numbers k None) (λ m. number < m)
  -- no number is less
  pub others : (k : ℕ) → k < n → IfSome (slice_index_or numbers k None) (λ m. number ≤ m)

-- the number at this place is the first of the least of a list
pub record IsLeastOf (numbers : List (Option ℕ)) (i : ℕ) : Type 0 where
  -- the number
  pub number : ℕ
  -- the number is the first of the least
  pub least : IsLeast numbers (length numbers) i number

-- what is kept while journals are merged: the places in them, and the numbers of the entries there
pub record AreMerging (room : ℕ) (journals : List JournalView) (places : List ℕ)
    (numbers : List (Option ℕ)) : Type 0 where
  -- the journals are in the order of their workers
  pub by_worker : AreByWorker journals
  -- each journal is lawful
  pub lawful : AllByRecursion IsLawfulJournal journals
  -- there is room for all journals
  pub few : length journals ≤ room
  -- there is a place for each journal
  pub each_place : length places ≡ room
  -- there is a number for each journal
  pub each_number : length numbers ≡ room
  -- each number is the first of what is left of its journal
  pub are_next : take (length journals) numbers ≡ map first_number (left_of journals places)

-- the entries of the first of journals, if there is one
abbrev pub first_entries : List JournalView → List Entry
first_entries [] = []
first_entries (journal ∷ journals) = journal.entries

-- the entries of a worker that are left: in the first of these journals from a place on, and in the phases after it
abbrev pub own_left : ℕ → List JournalView → ℕ → List (List JournalView) → List Entry
own_left worker here place phases =
    drop place (first_entries here) ++ flat_map (entries_of worker) phases

-- the number of a place with its number
abbrev pub number_there : ℕ × ℕ → ℕ
number_there found = found.1

-- the lesser of the least number so far, with its place, and the number at the next place
abbrev pub lesser : Option (ℕ × ℕ) → ℕ → Option ℕ → Option (ℕ × ℕ)
lesser least i None = least
lesser None i (Some next) = Some (i, next)
lesser (Some now) i (Some next) =
    if nat_lt next (number_there now) then Some (i, next) else Some now

-- an entry that no place says
abbrev pub no_entry : Entry
no_entry = record {
  phase = 0;
  number = 0;
  worker = 0;
  index = 0;
  request = ViewUser 0;
  reply = Refused NoSuchItem;
}

-- the entry at a place, past the end the one that no place says
abbrev pub entry_at : ℕ → List Entry → Entry
entry_at place entries = unwrap_or (slice_get entries place) no_entry
