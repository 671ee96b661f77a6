-- The first of the entries that are left of journals.
use Rattle.std.proofs.Common.{◌≡◌, ◌<◌, ◌≤◌, ℕ, zero, suc, false, true, List, [], ◌∷◌, ◌++◌, map, length, drop, get_or, refl, sym, ap, ◌∙◌, subst, arith}
use Rattle.std.specs.{List.{AllByRecursion}, Option.{option_and_then}}
use Rattle.std.specs.Prelude.{Option, None, Some, slice_get, IfSome}
use Rattle.phase_laws.proofs.{ListLemmas.{all-append}, OrderLemmas.{all-weaker}}
use Rattle.phase_laws.specs.Order.{IsAscendingByNumber}
use Rattle.auction_rows.specs.declared.rows.Entry.{Entry}
use Rattle.worker_journals.proofs.MergedLemmas.{all_entries}
use Rattle.worker_journals.proofs.OrderedLemmas.{not_before, before_by_number, first_in_order, first_among}
use Rattle.worker_journals.specs.Journals.{JournalView, entry_number, IsOf, IsLawfulJournal}
use Rattle.worker_journals.specs.Merged.{comes_before, in_order, merged, AreByWorker}
use Rattle.worker_journals.specs.inner.Places.{first_number, IsLeast}

-- the journals without the first entry of the i-th
abbrev pub without_first : List JournalView → ℕ → List JournalView
without_first [] i = []
without_first (journal ∷ journals) zero = record journal { entries = drop 1 journal.entries } ∷ journals
without_first (journal ∷ journals) (suc i) = journal ∷ without_first journals i

-- the first entry of the i-th, if there is one
abbrev pub first_of : List JournalView → ℕ → Option Entry
first_of journals i = option_and_then (λ (journal : JournalView). slice_get journal.entries 0) (slice_get journals i)

-- the least is a bound of a journal's entries
bounded : (n : ℕ) (es : List Entry) → IsAscendingByNumber entry_number es → IfSome (slice_get (map entry_number es) 0) (λ m. n ≤ m) →
    AllByRecursion (λ e. n ≤ e.number) es
bounded n [] up least = tt
bounded n (e ∷ es) up least = (least, all-weaker (λ (d : Entry). e.number < d.number) (λ d. n ≤ d.number) (λ d less. omega arith) es up.0)

bounded_strictly : (n : ℕ) (es : List Entry) → IsAscendingByNumber entry_number es → IfSome (slice_get (map entry_number es) 0) (λ m. n < m) →
    AllByRecursion (λ e. n < e.number) es
bounded_strictly n [] up least = tt
bounded_strictly n (e ∷ es) up least = (least, all-weaker (λ (d : Entry). e.number < d.number) (λ d. n < d.number) (λ d less. omega arith) es up.0)

both : {X : Type 0} (P Q R : X → Type 0) → ((x : X) → P x → Q x → R x) → (xs : List X) → AllByRecursion P xs → AllByRecursion Q xs → AllByRecursion R xs
both P Q R f [] p q = tt
both P Q R f (x ∷ xs) p q = (f x p.0 q.0, both P Q R f xs p.1 q.1)

-- none of later workers' entries comes before one whose number is the least
none_later : (e : Entry) (journals : List JournalView) → AllByRecursion (λ j. e.worker < j.worker) journals → AllByRecursion IsLawfulJournal journals →
    ((k : ℕ) → k < length journals → IfSome (get_or (map first_number journals) k None) (λ m. e.number ≤ m)) →
    AllByRecursion (λ d. comes_before d e ≡ false) (all_entries journals)
none_later e [] later lawful least = tt
none_later e (journal ∷ journals) later lawful least =
    all-append (λ (d : Entry). comes_before d e ≡ false) journal.entries (all_entries journals)
    (both (λ (d : Entry). e.number ≤ d.number) (IsOf journal.phase journal.worker) (λ d. comes_before d e ≡ false)
    (λ d bound own. not_before d e bound (λ tie. omega (arith, own.1, later.0))) journal.entries
    (bounded e.number journal.entries lawful.0.ascending (least 0 (omega arith))) lawful.0.own)
    (none_later e journals later.1 lawful.1 (λ k within. least (suc k) (omega arith)))

-- the entry with the first of the least numbers comes first
pub merged_taken : (journals : List JournalView) (i : ℕ) (e : Entry) → AreByWorker journals → AllByRecursion IsLawfulJournal journals →
    first_of journals i ≡ Some e → IsLeast (map first_number journals) (length journals) i e.number →
    merged journals ≡ e ∷ merged (without_first journals i)
merged_taken [] i e up lawful is least = absurd (omega (arith, least.within))
merged_taken (journal ∷ journals) zero e up lawful is least = taken journal.entries refl where
  taken : (es : List Entry) → journal.entries ≡ es → merged (journal ∷ journals) ≡ e ∷ merged (without_first (journal ∷ journals) zero)
  taken [] has = let none : None ≡ Some e = ap (λ xs. slice_get xs 0) (sym has) ∙ is in cc
  taken (d ∷ ds) has =
      let found : Some d ≡ Some e = ap (λ xs. slice_get xs 0) (sym has) ∙ is in
      let same : d ≡ e = cc in let has' : journal.entries ≡ e ∷ ds = has ∙ ap (λ x. x ∷ ds) same in
      let asc : IsAscendingByNumber entry_number (e ∷ ds) = subst (IsAscendingByNumber entry_number) has' lawful.0.ascending in
      let own : AllByRecursion (IsOf journal.phase journal.worker) (e ∷ ds) = subst (AllByRecursion (IsOf journal.phase journal.worker)) has' lawful.0.own in
      let later = all-weaker (λ (j : JournalView). journal.worker < j.worker) (λ j. e.worker < j.worker) (λ j less. omega (arith, own.0.1)) journals up.0 in
      let rest = none_later e journals later lawful.1 (λ k within. least.others (suc k) (omega arith)) in
      let own_rest = all-weaker (λ (d : Entry). e.number < d.number) (λ d. comes_before d e ≡ false)
      (λ d less. not_before d e (omega arith) (λ tie. absurd (omega arith))) ds asc.0 in
      ap (λ es. in_order (es ++ all_entries journals)) has'
      ∙ first_in_order e (ds ++ all_entries journals) (all-append (λ (d : Entry). comes_before d e ≡ false) ds (all_entries journals) own_rest rest)
      ∙ ap (λ es. e ∷ in_order (drop 1 es ++ all_entries journals)) (sym has')
merged_taken (journal ∷ journals) (suc i) e up lawful is least =
    let before = bounded_strictly e.number journal.entries lawful.0.ascending (least.earlier 0 (omega arith)) in
    first_among e journal.entries (all_entries journals) (all_entries (without_first journals i))
    (all-weaker (λ (d : Entry). e.number < d.number) (λ d. comes_before e d ≡ true) (λ d less. before_by_number e d less) journal.entries before)
    (merged_taken journals i e up.1 lawful.1 is (record {
      within = omega (arith, least.within);
      is = least.is;
      earlier = λ k less. least.earlier (suc k) (omega arith);
      others = λ k less. least.others (suc k) (omega arith);
    }))

-- where no journal has a first entry, nothing is left
pub merged_none : (journals : List JournalView) → ((k : ℕ) → k < length journals → get_or (map first_number journals) k None ≡ None) → merged journals ≡ []
unfolding in_order
merged_none journals none = ap in_order (empty journals none) where
  no_first : (es : List Entry) → slice_get (map entry_number es) 0 ≡ None → es ≡ []
  no_first [] is = refl
  no_first (e ∷ es) is = cc

  empty : (js : List JournalView) → ((k : ℕ) → k < length js → get_or (map first_number js) k None ≡ None) → all_entries js ≡ []
  empty [] none = refl
  empty (j ∷ js) none =
      ap (λ es. es ++ all_entries js) (no_first j.entries (none 0 (omega arith))) ∙ empty js (λ k within. none (suc k) (omega arith))
