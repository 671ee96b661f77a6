-- Phases, and one more.
use Rattle.std.proofs.Common.{◌≡◌, ◌<◌, ◌+◌, ◌-◌, ◌==◌, ℕ, zero, suc, List, [], ◌∷◌, ◌++◌, map, length, take, drop, get_or, refl, sym, ap, ◌∙◌, subst, arith, append_assoc, length-append, length-drop, set}
use Rattle.std.proofs.lemmas.List.{append-nil, map-append, take_more, take_more_set, drop-set-lt, get_or-drop, drop_more}
use Rattle.std.proofs.lemmas.List.Elements.{filter-append}
use Rattle.std.{proofs.lemmas.Option.{slice_get_within, get_or_from_slice_get}, specs.Global.{Vec}}
use Rattle.std.specs.{List.{AllByRecursion, flat_map}, Prelude.{None, Some, slice_get}}
use Rattle.phase_laws.{proofs.{ListLemmas.{all-get_or}, OrderLemmas.{all_push}}, specs.Order.{part}}
use Rattle.auction_rows.specs.declared.rows.Entry.{Entry}
use Rattle.worker_journals.proofs.MergedLemmas.{all_entries, merged_parts, merged_count}
use Rattle.worker_journals.proofs.StepLemmas.{drop_one}
use Rattle.worker_journals.specs.Histories.{HistoryView, ArePhase, with_phase}
use Rattle.worker_journals.specs.Journals.{JournalView, entry_worker, closed_journal, IsLawfulJournal}
use Rattle.worker_journals.specs.Merged.{merged, in_order, entries_of, entry_count, AreByWorker}
use Rattle.worker_journals.specs.inner.Phases.{IsHistory, entries_in, journals_of, last_of, shown}
use Rattle.worker_journals.specs.inner.Places.{first_entries, own_left}

-- Closed journals.

closed_entries : (journals : List JournalView) → all_entries (map closed_journal journals) ≡ all_entries journals
closed_entries [] = refl
closed_entries (journal ∷ journals) = ap (λ es. journal.entries ++ es) (closed_entries journals)

pub closed_merged : (journals : List JournalView) → merged (map closed_journal journals) ≡ merged journals
closed_merged journals = ap in_order (closed_entries journals)

closed_length : (journals : List JournalView) → length (map closed_journal journals) ≡ length journals
closed_length [] = refl
closed_length (journal ∷ journals) = ap suc (closed_length journals)

closed_later : (w : ℕ) (journals : List JournalView) → AllByRecursion (λ j. w < j.worker) journals → AllByRecursion (λ j. w < j.worker) (map closed_journal journals)
closed_later w [] later = tt
closed_later w (journal ∷ journals) later = (later.0, closed_later w journals later.1)

closed_by_worker : (journals : List JournalView) → AreByWorker journals → AreByWorker (map closed_journal journals)
closed_by_worker [] up = tt
closed_by_worker (journal ∷ journals) up = (closed_later journal.worker journals up.0, closed_by_worker journals up.1)

closed_lawful : (journals : List JournalView) → AllByRecursion IsLawfulJournal journals → AllByRecursion IsLawfulJournal (map closed_journal journals)
closed_lawful [] lawful = tt
closed_lawful (journal ∷ journals) lawful =
    (record { own = lawful.0.own; ascending = lawful.0.ascending }, closed_lawful journals lawful.1)

closed_phase : (journals : List JournalView) → ArePhase journals → ArePhase (map closed_journal journals)
closed_phase journals phase = record {
  few = omega (arith, closed_length journals, phase.few);
  by_worker = closed_by_worker journals phase.by_worker;
  lawful = closed_lawful journals phase.lawful;
}

-- One phase more.

entries_more : (phases : List (List JournalView)) (phase : List JournalView) → entries_in (phases ++ phase ∷ []) ≡ entries_in phases ++ merged phase
entries_more [] phase = append-nil (merged phase)
entries_more (first ∷ phases) phase =
    ap (λ es. merged first ++ es) (entries_more phases phase) ∙ sym (append_assoc (merged first) (entries_in phases) (merged phase))

last_more : (phases : List (List JournalView)) (phase : List JournalView) → last_of (phases ++ phase ∷ []) ≡ phase
last_more (first ∷ second ∷ phases) phase = last_more (second ∷ phases) phase
last_more phases phase = refl

module _ (old new : List (Vec JournalView)) (len count : ℕ) (journals closed : List JournalView) (phase : Vec JournalView)
    (kept : IsHistory (journals_of old) len) (are : ArePhase journals) (is : closed ≡ map closed_journal journals) (has : phase.items ≡ closed)
    (pushed : new ≡ old ++ phase ∷ []) where
  phases_after : journals_of new ≡ journals_of old ++ map closed_journal journals ∷ []
  phases_after =
      ap journals_of pushed ∙ map-append (λ (p : Vec JournalView). p.items) old (phase ∷ [])
      ∙ ap (λ js. journals_of old ++ js ∷ []) (has ∙ is)

  entries_after : entries_in (journals_of new) ≡ entries_in (journals_of old) ++ merged journals
  entries_after =
      ap entries_in phases_after ∙ entries_more (journals_of old) (map closed_journal journals)
      ∙ ap (λ es. entries_in (journals_of old) ++ es) (closed_merged journals)

  pub history_after : (history : HistoryView) → shown (journals_of old) ≡ history → shown (journals_of new) ≡ with_phase history journals
  history_after history was =
      let last : last_of (journals_of new) ≡ map closed_journal journals = ap last_of phases_after ∙ last_more (journals_of old) (map closed_journal journals) in
      view_by entries_after last ∙ ap (λ h. with_phase h journals) was where
        view_by : {es es' : List Entry} {js js' : List JournalView} → es ≡ es' → js ≡ js' →
            ◌≡◌ {A = HistoryView} (record { entries = es; last = js }) (record { entries = es'; last = js' })
        view_by e f = cc

  pub kept_after : count ≡ entry_count journals → IsHistory (journals_of new) (len + count)
  kept_after counted = record {
    each = subst (AllByRecursion ArePhase) (sym phases_after)
        (all_push ArePhase (journals_of old) (map closed_journal journals) kept.each (closed_phase journals are));
    count = ap length entries_after ∙ length-append (entries_in (journals_of old)) (merged journals)
        ∙ omega (arith, kept.count, merged_count journals, counted);
  }

-- The entries of a worker.

pub own_entries : (w : ℕ) (phases : List (List JournalView)) → AllByRecursion ArePhase phases →
    part entry_worker w (entries_in phases) ≡ flat_map (entries_of w) phases
own_entries w [] all = refl
own_entries w (phase ∷ phases) all =
    filter-append (λ (e : Entry). e.worker == w) (merged phase) (entries_in phases)
    ∙ ap (λ es. es ++ part entry_worker w (entries_in phases)) (merged_parts phase w all.0.by_worker all.0.lawful)
    ∙ ap (λ es. entries_of w phase ++ es) (own_entries w phases all.1)

pub own_all : (w : ℕ) (phases : List (List JournalView)) → AllByRecursion ArePhase phases → own_left w [] 0 phases ≡ part entry_worker w (entries_in phases)
own_all w phases all = sym (own_entries w phases all)

pub get_some : {X : Type 0} (xs : List X) (n : ℕ) (x : X) → slice_get xs n ≡ Some x → drop n xs ≡ x ∷ drop (n + 1) xs
get_some xs n x is = drop_more xs n x (slice_get_within xs n x is) ∙ ap (λ y. y ∷ drop (n + 1) xs) (get_or_from_slice_get xs n x x is)

get_none : {X : Type 0} (xs : List X) (n : ℕ) → slice_get xs n ≡ None → drop n xs ≡ []
get_none [] zero is = refl
get_none [] (suc n) is = refl
get_none (y ∷ ys) zero is = cc
get_none (y ∷ ys) (suc n) is = get_none ys n is

-- the next entry of a worker
pub own_next : (w place : ℕ) (here : List JournalView) (phases : List (List JournalView)) (e : Entry) → slice_get (first_entries here) place ≡ Some e →
    own_left w here place phases ≡ e ∷ own_left w here (place + 1) phases
own_next w place here phases e is = ap (λ es. es ++ flat_map (entries_of w) phases) (get_some (first_entries here) place e is)

-- a journal of which nothing is left, and the worker's own of the next phase
pub own_past : (w place : ℕ) (here own : List JournalView) (phase : List JournalView) (phases : List (List JournalView)) → slice_get (first_entries here) place ≡ None →
    first_entries own ≡ entries_of w phase → own_left w here place (phase ∷ phases) ≡ own_left w own 0 phases
own_past w place here own phase phases is own_is =
    ap (λ es. es ++ flat_map (entries_of w) (phase ∷ phases)) (get_none (first_entries here) place is)
    ∙ ap (λ es. es ++ flat_map (entries_of w) phases) (sym own_is)

-- and none is left where there is no phase after it
pub own_end : (w place : ℕ) (here : List JournalView) → slice_get (first_entries here) place ≡ None → own_left w here place [] ≡ []
own_end w place here is = ap (λ es. es ++ []) (get_none (first_entries here) place is)

-- The phase of no journals.

pub no_phase : ArePhase []
no_phase = record { few = omega arith; by_worker = tt; lawful = tt }

pub merged_nothing : merged [] ≡ []
unfolding in_order
merged_nothing = refl

pub last_is_phase : (phases : List (List JournalView)) → AllByRecursion ArePhase phases → ArePhase (last_of phases)
last_is_phase [] all = no_phase
last_is_phase (phase ∷ []) all = all.0
last_is_phase (phase ∷ second ∷ phases) all = last_is_phase (second ∷ phases) all.1

-- Reads.

last_read : (phases : List (Vec JournalView)) (phase : Vec JournalView) → slice_get phases (length phases - 1) ≡ Some phase →
    last_of (journals_of phases) ≡ phase.items
last_read [] phase is = cc
last_read (p ∷ []) phase is = let same : p ≡ phase = cc in ap (λ (q : Vec JournalView). q.items) same
last_read (p ∷ q ∷ phases) phase is =
    let at : length (p ∷ q ∷ phases) - 1 ≡ suc (length (q ∷ phases) - 1) = omega arith in
    last_read (q ∷ phases) phase (sym (ap (slice_get (p ∷ q ∷ phases)) at) ∙ is)

pub last_shown : (phases : List (Vec JournalView)) (phase : Vec JournalView) (history : HistoryView) → shown (journals_of phases) ≡ history →
    slice_get phases (length phases - 1) ≡ Some phase → phase.items ≡ history.last
last_shown phases phase history was is = sym (last_read phases phase is) ∙ ap (λ (h : HistoryView). h.last) was

pub last_are_phase : (phases : List (Vec JournalView)) (phase : Vec JournalView) → AllByRecursion ArePhase (journals_of phases) →
    slice_get phases (length phases - 1) ≡ Some phase → ArePhase phase.items
last_are_phase phases phase all is = subst ArePhase (last_read phases phase is) (last_is_phase (journals_of phases) all)

-- the next of journals, of which those before it are closed
module _ (journals now : List JournalView) (i : ℕ) (journal : JournalView) (within : i < length now) (is : journal ≡ get_or now i journal)
    (open_yet : drop i now ≡ drop i journals) where
  within_journals : i < length journals
  within_journals = omega (arith, ap length open_yet, length-drop i now, length-drop i journals)

  same_journal : get_or journals i journal ≡ journal
  same_journal =
      let here : i + 0 ≡ i = omega arith in
      ap (λ k. get_or journals k journal) (sym here) ∙ sym (get_or-drop i journals 0 journal) ∙ ap (λ js. get_or js 0 journal) (sym open_yet)
      ∙ get_or-drop i now 0 journal ∙ ap (λ k. get_or now k journal) here ∙ sym is

  -- what held of all journals holds of it
  pub holds_yet : (P : JournalView → Type 0) → AllByRecursion P journals → P journal
  holds_yet P all = subst P same_journal (all-get_or P journals i journal within_journals all)

  -- it is closed too
  module _ (closed : JournalView) (done : closed ≡ closed_journal (get_or now i journal)) where
    pub one_closed : take i now ≡ map closed_journal (take i journals) → take (i + 1) (set now i closed) ≡ map closed_journal (take (i + 1) journals)
    one_closed front =
        take_more_set now i closed within ∙ ap (λ js. js ++ closed ∷ []) front ∙ ap (λ j. map closed_journal (take i journals) ++ j ∷ []) done
        ∙ ap (λ j. map closed_journal (take i journals) ++ closed_journal j ∷ []) (sym is ∙ sym same_journal)
        ∙ sym (map-append closed_journal (take i journals) (get_or journals i journal ∷ []))
        ∙ ap (map closed_journal) (sym (take_more journals i journal within_journals))

    pub others_open : drop (i + 1) (set now i closed) ≡ drop (i + 1) journals
    others_open =
        let less : i < i + 1 = omega arith in
        drop-set-lt (i + 1) now i closed less ∙ drop_one now i ∙ ap (drop 1) open_yet ∙ sym (drop_one journals i)
