-- The entries of several journals, in order.
use Rattle.std.proofs.Common.{◌≡◌, ◌<◌, ◌==◌, ℕ, List, [], ◌∷◌, ◌++◌, length, refl, sym, ap, ◌∙◌, arith, inl, inr, eq-eqb}
use Rattle.std.proofs.lemmas.{Bool.{cond-true, cond-false, ne_eqb, cases_eq}, List.{append-nil}}
use Rattle.std.proofs.lemmas.List.{Concat.{length-flat_map}, Elements.{filter-append}}
use Rattle.std.specs.{List.{Sorted.{IsPermutation}, AllByRecursion, flat_map}, Prelude.{Contains}}
use Rattle.phase_laws.proofs.ListLemmas.{all-append, ordered-append}
use Rattle.phase_laws.proofs.MemberLemmas.{Contains-nothing, Contains-cases, all-member}
use Rattle.phase_laws.proofs.OrderLemmas.{all-weaker, ordered-weaker}
use Rattle.phase_laws.specs.Order.{IsOrderedBy, IsAscending, part}
use Rattle.auction_rows.specs.declared.rows.Entry.{Entry}
use Rattle.worker_journals.proofs.OrderedLemmas.{Rises, in_order_ascends, part_own, part_other, part_in_order, length_in_order, in_order_permutes}
use Rattle.worker_journals.specs.Journals.{JournalView, entry_number, entry_worker, IsOf, IsLawfulJournal}
use Rattle.worker_journals.specs.Merged.{merged, entries_of, AreByWorker, entry_count}

abbrev pub all_entries : List JournalView → List Entry
all_entries = flat_map (λ journal. journal.entries)

-- The journal of a worker.

pub entries_of_none : (w : ℕ) (journals : List JournalView) → AllByRecursion (λ j. j.worker ≡ w → ⊥) journals → entries_of w journals ≡ []
entries_of_none w [] others = refl
entries_of_none w (journal ∷ journals) others =
    cond-false (journal.worker == w) journal.entries (entries_of w journals) (ne_eqb journal.worker w others.0)
    ∙ entries_of_none w journals others.1

pub entries_of_own : (journals : List JournalView) (journal : JournalView) → AreByWorker journals → Contains journals journal →
    entries_of journal.worker journals ≡ journal.entries
entries_of_own [] journal up there = absurd (Contains-nothing journal there)
entries_of_own (first ∷ journals) journal up there = elim (Contains-cases first journals journal there) [
  | inl same ↦ cond-true (first.worker == journal.worker) first.entries (entries_of journal.worker journals)
      (eq-eqb first.worker journal.worker (ap (λ (j : JournalView). j.worker) same)) ∙ ap (λ (j : JournalView). j.entries) same
  | inr later ↦ cond-false (first.worker == journal.worker) first.entries (entries_of journal.worker journals)
      (ne_eqb first.worker journal.worker (λ same. omega (arith, same, all-member (λ j. first.worker < j.worker) journals journal up.0 later)))
      ∙ entries_of_own journals journal up.1 later
]

-- Of one worker they rise.

-- the entries of journals of later workers are of later workers
pub later_workers : (w : ℕ) (journals : List JournalView) → AllByRecursion (λ j. w < j.worker) journals → AllByRecursion IsLawfulJournal journals →
    AllByRecursion (λ e. w < e.worker) (all_entries journals)
later_workers w [] later lawful = tt
later_workers w (journal ∷ journals) later lawful =
    all-append (λ (e : Entry). w < e.worker) journal.entries (all_entries journals)
    (all-weaker (IsOf journal.phase journal.worker) (λ e. w < e.worker) (λ e own. omega (arith, own.1, later.0)) journal.entries lawful.0.own)
    (later_workers w journals later.1 lawful.1)

all_rise : (journals : List JournalView) → AreByWorker journals → AllByRecursion IsLawfulJournal journals → IsOrderedBy Rises (all_entries journals)
all_rise [] up lawful = tt
all_rise (journal ∷ journals) up lawful =
    let later = later_workers journal.worker journals up.0 lawful.1 in
    ordered-append Rises journal.entries (all_entries journals)
    (ordered-weaker (λ (x y : Entry). x.number < y.number) Rises (λ x y less same. less) journal.entries lawful.0.ascending)
    (all_rise journals up.1 lawful.1)
    (all-weaker (IsOf journal.phase journal.worker) (λ e. AllByRecursion (Rises e) (all_entries journals))
    (λ e own. all-weaker (λ (d : Entry). journal.worker < d.worker) (Rises e) (λ d less same. absurd (omega (arith, own.1))) (all_entries journals) later)
    journal.entries lawful.0.own)

-- The parts.

part_all : (w : ℕ) (xs : List Entry) → AllByRecursion (λ e. e.worker ≡ w) xs → part entry_worker w xs ≡ xs
part_all w [] own = refl
part_all w (x ∷ xs) own = part_own w x xs own.0 ∙ ap (λ ys. x ∷ ys) (part_all w xs own.1)

part_none : (w : ℕ) (xs : List Entry) → AllByRecursion (λ e. e.worker ≡ w → ⊥) xs → part entry_worker w xs ≡ []
part_none w [] others = refl
part_none w (x ∷ xs) others = part_other w x xs others.0 ∙ part_none w xs others.1

parts : (w : ℕ) (journals : List JournalView) → AreByWorker journals → AllByRecursion IsLawfulJournal journals →
    part entry_worker w (all_entries journals) ≡ entries_of w journals
parts w [] up lawful = refl
parts w (journal ∷ journals) up lawful =
    filter-append (λ (e : Entry). e.worker == w) journal.entries (all_entries journals) ∙ elim (cases_eq journal.worker w) [
      | inl is ↦
          ap (λ xs. xs ++ part entry_worker w (all_entries journals)) (part_all w journal.entries
          (all-weaker (IsOf journal.phase journal.worker) (λ e. e.worker ≡ w) (λ e own. own.1 ∙ is) journal.entries lawful.0.own))
          ∙ ap (λ xs. journal.entries ++ xs) (part_none w (all_entries journals)
          (all-weaker (λ (e : Entry). journal.worker < e.worker) (λ e. e.worker ≡ w → ⊥) (λ e less same. omega (arith, is)) (all_entries journals)
          (later_workers journal.worker journals up.0 lawful.1)))
          ∙ append-nil journal.entries
          ∙ sym (cond-true (journal.worker == w) journal.entries (entries_of w journals) (eq-eqb journal.worker w is))
      | inr not ↦
          ap (λ xs. xs ++ part entry_worker w (all_entries journals)) (part_none w journal.entries
          (all-weaker (IsOf journal.phase journal.worker) (λ e. e.worker ≡ w → ⊥) (λ e own same. not (sym own.1 ∙ same)) journal.entries lawful.0.own))
          ∙ parts w journals up.1 lawful.1
          ∙ sym (cond-false (journal.worker == w) journal.entries (entries_of w journals) (ne_eqb journal.worker w not))
    ]

-- The law.

pub merged_ascends : (journals : List JournalView) → AreByWorker journals → AllByRecursion IsLawfulJournal journals →
    IsAscending entry_number entry_worker (merged journals)
merged_ascends journals up lawful = in_order_ascends (all_entries journals) (all_rise journals up lawful)

pub merged_parts : (journals : List JournalView) (w : ℕ) → AreByWorker journals → AllByRecursion IsLawfulJournal journals →
    part entry_worker w (merged journals) ≡ entries_of w journals
merged_parts journals w up lawful = part_in_order w (all_entries journals) (all_rise journals up lawful) ∙ parts w journals up lawful

pub merged_count : (journals : List JournalView) → length (merged journals) ≡ entry_count journals
merged_count journals = length_in_order (all_entries journals) ∙ length-flat_map (λ (journal : JournalView). journal.entries) journals

pub merged_permutes : (journals : List JournalView) → IsPermutation (all_entries journals) (merged journals)
merged_permutes journals = in_order_permutes (all_entries journals)
