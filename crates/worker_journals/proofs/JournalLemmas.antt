-- One more commit at the end of a journal.
use Rattle.std.proofs.Common.{◌<◌, ℕ, List, [], ◌∷◌, ◌++◌}
use Rattle.phase_laws.proofs.{NumberLemmas.{ascending_push}, OrderLemmas.{all_push}}
use Rattle.phase_laws.specs.{Numbers.{last_by}, Order.{IsAscendingByNumber}}
use Rattle.auction_rows.specs.declared.rows.Entry.{Entry}
use Rattle.worker_journals.specs.Journals.{JournalView, entry_number, seen, ComesAfter, IsOf, IsLawfulJournal}

-- where a number is greater than the last, or than 0 where there is none, it comes after
pub comes_after : (entries : List Entry) (number : ℕ) → last_by entry_number 0 entries < number → ComesAfter entries number
comes_after [] number h = tt
comes_after (entry ∷ entries) number h = h

ascending_after : (entries : List Entry) (entry : Entry) → IsAscendingByNumber entry_number entries →
    ComesAfter entries entry.number → IsAscendingByNumber entry_number (entries ++ entry ∷ [])
ascending_after [] entry up after = (tt, tt)
ascending_after (first ∷ entries) entry up after = ascending_push entry_number (first ∷ entries) entry up after

pub lawful_after : (journal : JournalView) (entry : Entry) → IsLawfulJournal journal → IsOf journal.phase journal.worker entry →
    ComesAfter journal.entries entry.number → IsLawfulJournal (seen journal.phase journal.worker journal.room (journal.entries ++ entry ∷ []))
lawful_after journal entry held own after = record {
  own = all_push (IsOf journal.phase journal.worker) journal.entries entry held.own own;
  ascending = ascending_after journal.entries entry held.ascending after;
}
