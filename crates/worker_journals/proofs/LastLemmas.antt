-- No entry is of a worker later than the last.
use Rattle.std.proofs.Common.{◌≡◌, ◌<◌, ◌≤◌, ◌+◌, ◌∙◌, ℕ, List, [], ◌∷◌, ◌++◌, take, get_or, length, sym, ap, subst}
use Rattle.std.{proofs.lemmas.List.{take_more}, specs.{Global.{Vec}, List.{AllByRecursion}}}
use Rattle.phase_laws.proofs.{ListLemmas.{all-append}, OrderLemmas.{all-weaker, all_push}}
use Rattle.auction_rows.specs.declared.rows.Entry.{Entry}
use Rattle.worker_journals.proofs.{MergedLemmas.{all_entries}, OrderedLemmas.{all_in_order}}
use Rattle.worker_journals.specs.Histories.{ArePhase}
use Rattle.worker_journals.specs.{Journals.{JournalView, IsLawfulJournal, IsOf}, Merged.{merged}}
use Rattle.worker_journals.specs.inner.Phases.{entries_in, journals_of}

pub one_more : {X : Type 0} (P : X → Type 0) (xs : List X) (i : ℕ) (x : X) → i < length xs → x ≡ get_or xs i x →
    AllByRecursion P (take i xs) → P x → AllByRecursion P (take (i + 1) xs)
one_more P xs i x within is all here =
    subst (AllByRecursion P) (sym (take_more xs i x within ∙ ap (λ y. take i xs ++ y ∷ []) (sym is))) (all_push P (take i xs) x all here)

pub all_items : (P : List JournalView → Type 0) (phases : List (Vec JournalView)) → AllByRecursion (λ phase. P phase.items) phases → AllByRecursion P (journals_of phases)
all_items P [] all = tt
all_items P (phase ∷ phases) all = (all.0, all_items P phases all.1)

of_journals : (w : ℕ) (journals : List JournalView) → AllByRecursion IsLawfulJournal journals → AllByRecursion (λ j. j.worker ≤ w) journals →
    AllByRecursion (λ e. e.worker ≤ w) (all_entries journals)
of_journals w [] lawful few = tt
of_journals w (journal ∷ journals) lawful few =
    all-append (λ (e : Entry). e.worker ≤ w) journal.entries (all_entries journals)
    (all-weaker (IsOf journal.phase journal.worker) (λ (e : Entry). e.worker ≤ w) (λ e is. subst (λ n. n ≤ w) (sym is.1) few.0) journal.entries lawful.0.own)
    (of_journals w journals lawful.1 few.1)

pub none_later : (w : ℕ) (phases : List (List JournalView)) → AllByRecursion ArePhase phases → AllByRecursion (AllByRecursion (λ j. j.worker ≤ w)) phases →
    AllByRecursion (λ e. e.worker ≤ w) (entries_in phases)
none_later w [] each few = tt
none_later w (phase ∷ phases) each few =
    all-append (λ (e : Entry). e.worker ≤ w) (merged phase) (entries_in phases)
    (all_in_order (λ (e : Entry). e.worker ≤ w) (all_entries phase) (of_journals w phase each.0.lawful few.0))
    (none_later w phases each.1 few.1)
