-- What a phase adds to a history.
use Rattle.std.proofs.Common.{◌≡◌, ℕ, List, ◌++◌, sym, ap, ◌∙◌, subst}
use Rattle.std.{proofs.Math.Seq.{drop-append_seam}, specs.List.{AllByRecursion}}
use Rattle.phase_laws.specs.Order.{IsAscending, part}
use Rattle.worker_journals.proofs.HistoryLemmas.{closed_merged}
use Rattle.worker_journals.proofs.MergedLemmas.{merged_ascends, merged_parts}
use Rattle.worker_journals.specs.Histories.{HistoryView, with_phase}
use Rattle.worker_journals.specs.Journals.{JournalView, entry_number, entry_worker, IsLawfulJournal}
use Rattle.worker_journals.specs.Merged.{merged, entries_of, added, AreByWorker}

module _ (old new : HistoryView) (journals : List JournalView) (is : new ≡ with_phase old journals) where
  -- the merged entries of its journals
  pub added_merged : added old.entries new.entries ≡ merged journals
  added_merged = ap (λ (h : HistoryView). added old.entries h.entries) is ∙ drop-append_seam old.entries (merged journals)

  pub added_front : new.entries ≡ old.entries ++ added old.entries new.entries
  added_front = ap (λ (h : HistoryView). h.entries) is ∙ ap (λ es. old.entries ++ es) (sym added_merged)

  -- those of the history's last journals
  pub last_merged : merged new.last ≡ added old.entries new.entries
  last_merged = ap (λ (h : HistoryView). merged h.last) is ∙ closed_merged journals ∙ sym added_merged

  pub added_ascends : AreByWorker journals → AllByRecursion IsLawfulJournal journals →
      IsAscending entry_number entry_worker (added old.entries new.entries)
  added_ascends up lawful = subst (IsAscending entry_number entry_worker) (sym added_merged) (merged_ascends journals up lawful)

  pub added_parts : AreByWorker journals → AllByRecursion IsLawfulJournal journals → (w : ℕ) →
      part entry_worker w (added old.entries new.entries) ≡ entries_of w journals
  added_parts up lawful w = ap (part entry_worker w) added_merged ∙ merged_parts journals w up lawful
