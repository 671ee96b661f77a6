-- The journals of several workers, and the entries of all of them in one order.
use Rattle.std.specs.List.{flat_map, sum_by}
use Rattle.std.specs.Prelude.{ℕ, ◌<◌, ◌==◌, ◌||◌, ◌&&◌, nat_lt, Bool, if◌then◌else◌, List, [], ◌∷◌, length, drop}
use Rattle.phase_laws.specs.Order.{IsOrderedBy}
use Rattle.auction_rows.specs.declared.rows.Entry.{Entry}
use Rattle.worker_journals.specs.Journals.{JournalView}

-- whether an entry has the lesser number, or the same number and the lesser worker
abbrev pub comes_before : Entry → Entry → Bool
comes_before entry other =
    nat_lt entry.number other.number
    || ((entry.number == other.number) && nat_lt entry.worker other.worker)

-- one more entry among entries in order: it goes before the first that doesn't come before it
unfoldable pub put_in : Entry → List Entry → List Entry
put_in entry [] = entry ∷ []
put_in entry (other ∷ entries) =
    if comes_before other entry then other ∷ put_in entry entries else entry ∷ other ∷ entries

-- entries in order: by number, those of one number by worker
unfoldable pub in_order : List Entry → List Entry
in_order [] = []
in_order (entry ∷ entries) = put_in entry (in_order entries)

-- the entries of several journals, in order
abbrev pub merged : List JournalView → List Entry
merged journals = in_order (flat_map (λ journal. journal.entries) journals)

-- the entries of a worker's journal; none of a worker without one
abbrev pub entries_of : ℕ → List JournalView → List Entry
entries_of worker [] = []
entries_of worker (journal ∷ journals) =
    if journal.worker == worker then journal.entries else entries_of worker journals

-- the journals are in the order of their workers, one for each
abbrev pub AreByWorker : List JournalView → Type 0
AreByWorker = IsOrderedBy (λ journal later. journal.worker < later.worker)

-- how many entries the journals have
abbrev pub entry_count : List JournalView → ℕ
entry_count = sum_by (λ journal. length journal.entries)

-- what was added at the end of a list
abbrev pub added : {X : Type 0} → List X → List X → List X
added old new = drop (length old) new
