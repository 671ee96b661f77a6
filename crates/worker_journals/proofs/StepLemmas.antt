-- One step of the merging of a phase's journals.
use Rattle.std.proofs.Common.{◌≡◌, ◌<◌, ◌+◌, ℕ, zero, suc, List, [], ◌∷◌, map, length, take, take_all, drop, get_or, set, refl, sym, ap, ◌∙◌, subst, arith}
use Rattle.std.proofs.Math.Seq.{take-set-lt}
use Rattle.std.proofs.lemmas.List.{length-map, length-replicate, length-set, length-take-le, get_or_read, drop-map, drop-drop}
use Rattle.std.proofs.lemmas.Option.{slice_get-map, slice_get_within}
use Rattle.std.specs.{Iterator.{MakesProgress, item_count}, List.{AllByRecursion}}
use Rattle.std.specs.Prelude.{Option, None, Some, slice_get, option_map, replicate}
use Rattle.phase_laws.{proofs.ListLemmas.{all-drop}, specs.Order.{IsOrderedBy}}
use Rattle.auction_rows.specs.declared.rows.Entry.{Entry}
use Rattle.worker_journals.proofs.TakingLemmas.{without_first, first_of, merged_taken, merged_none}
use Rattle.worker_journals.specs.Journals.{JournalView, entry_number, IsOf, IsLawfulJournal}
use Rattle.worker_journals.specs.Merged.{merged, AreByWorker}
use Rattle.worker_journals.specs.inner.Places.{left_of, number_at, first_number, IsLeast, IsLeastOf, AreMerging}

-- an iterator that gave the first of what was left goes on
pub goes_on : (can : List Entry → Type 0) → ((l : List Entry) → can l) → (s t : List Entry) (x : Entry) → s ≡ x ∷ t →
    MakesProgress can (item_count (λ left. left)) s (Some x) t
goes_on can always s t x is = record {
  on = λ _. (always t, tt, subst (λ l. length t < length l) (sym is) (omega arith));
  keeps = always t;
  rests = λ _. tt;
}

-- What is left.

ordered_drop : {X : Type 0} (R : X → X → Type 0) (n : ℕ) (xs : List X) → IsOrderedBy R xs → IsOrderedBy R (drop n xs)
ordered_drop R zero xs up = up
ordered_drop R (suc n) [] up = tt
ordered_drop R (suc n) (x ∷ xs) up = ordered_drop R n xs up.1

pub left_length : (journals : List JournalView) (places : List ℕ) → length (left_of journals places) ≡ length journals
left_length (journal ∷ journals) (place ∷ places) = ap suc (left_length journals places)
left_length journals places = refl

pub left_lawful : (journals : List JournalView) (places : List ℕ) → AllByRecursion IsLawfulJournal journals → AllByRecursion IsLawfulJournal (left_of journals places)
left_lawful [] places lawful = tt
left_lawful (journal ∷ journals) [] lawful = lawful
left_lawful (journal ∷ journals) (place ∷ places) lawful = (
  record {
    own = all-drop (IsOf journal.phase journal.worker) place journal.entries lawful.0.own;
    ascending = ordered_drop (λ (x y : Entry). x.number < y.number) place journal.entries lawful.0.ascending;
  },
  left_lawful journals places lawful.1,
)

left_later : (w : ℕ) (journals : List JournalView) (places : List ℕ) → AllByRecursion (λ j. w < j.worker) journals →
    AllByRecursion (λ j. w < j.worker) (left_of journals places)
left_later w [] places later = tt
left_later w (journal ∷ journals) [] later = later
left_later w (journal ∷ journals) (place ∷ places) later = (later.0, left_later w journals places later.1)

pub left_by_worker : (journals : List JournalView) (places : List ℕ) → AreByWorker journals → AreByWorker (left_of journals places)
left_by_worker [] places up = tt
left_by_worker (journal ∷ journals) [] up = up
left_by_worker (journal ∷ journals) (place ∷ places) up =
    (left_later journal.worker journals places up.0, left_by_worker journals places up.1)

-- before anything is taken
pub left_all : (journals : List JournalView) (n : ℕ) → left_of journals (replicate n 0) ≡ journals
left_all (journal ∷ journals) (suc n) = ap (λ js. journal ∷ js) (left_all journals n)
left_all journals n = refl

-- The i-th journal.

get_drop : {X : Type 0} (xs : List X) (n : ℕ) → slice_get (drop n xs) 0 ≡ slice_get xs n
get_drop xs zero = refl
get_drop [] (suc n) = refl
get_drop (x ∷ xs) (suc n) = get_drop xs n

pub drop_one : {X : Type 0} (xs : List X) (n : ℕ) → drop (n + 1) xs ≡ drop 1 (drop n xs)
drop_one xs n = sym (drop-drop 1 n xs)

number_left : (journal : JournalView) (place : ℕ) → first_number (record journal { entries = drop place journal.entries }) ≡ number_at place journal
number_left journal place =
    ap (λ ns. slice_get ns 0) (sym (drop-map entry_number place journal.entries)) ∙ get_drop (map entry_number journal.entries) place

lane_number : (journals : List JournalView) (places : List ℕ) (i : ℕ) (journal : JournalView) → i < length journals → i < length places →
    journal ≡ get_or journals i journal → get_or (map first_number (left_of journals places)) i None ≡ number_at (get_or places i 0) journal
lane_number (j ∷ journals) (place ∷ places) zero journal within there is = number_left j place ∙ ap (number_at place) (sym is)
lane_number (j ∷ journals) (place ∷ places) (suc i) journal within there is = lane_number journals places i journal (omega arith) (omega arith) is
lane_number journals places i journal within there is = absurd (omega arith)

lane_first : (journals : List JournalView) (places : List ℕ) (i : ℕ) (journal : JournalView) → i < length journals → i < length places →
    journal ≡ get_or journals i journal → first_of (left_of journals places) i ≡ slice_get journal.entries (get_or places i 0)
lane_first (j ∷ journals) (place ∷ places) zero journal within there is =
    get_drop j.entries place ∙ ap (λ (k : JournalView). slice_get k.entries place) (sym is)
lane_first (j ∷ journals) (place ∷ places) (suc i) journal within there is = lane_first journals places i journal (omega arith) (omega arith) is
lane_first journals places i journal within there is = absurd (omega arith)

-- a step on
lane_step : (journals : List JournalView) (places : List ℕ) (i : ℕ) → i < length places →
    left_of journals (set places i (get_or places i 0 + 1)) ≡ without_first (left_of journals places) i
lane_step [] places i there = refl
lane_step (j ∷ journals) [] i there = absurd (omega arith)
lane_step (j ∷ journals) (place ∷ places) zero there =
    ap (λ es. record j { entries = es } ∷ left_of journals places) (drop_one j.entries place)
lane_step (j ∷ journals) (place ∷ places) (suc i) there =
    ap (λ js. record j { entries = drop place j.entries } ∷ js) (lane_step journals places i (omega arith))

numbers_step : (journals : List JournalView) (places : List ℕ) (i : ℕ) (journal : JournalView) → i < length journals → i < length places →
    journal ≡ get_or journals i journal →
    map first_number (left_of journals (set places i (get_or places i 0 + 1)))
    ≡ set (map first_number (left_of journals places)) i (number_at (get_or places i 0 + 1) journal)
numbers_step (j ∷ journals) (place ∷ places) zero journal within there is =
    ap (λ n. n ∷ map first_number (left_of journals places)) (number_left j (place + 1) ∙ ap (number_at (place + 1)) (sym is))
numbers_step (j ∷ journals) (place ∷ places) (suc i) journal within there is =
    ap (λ ns. first_number (record j { entries = drop place j.entries }) ∷ ns) (numbers_step journals places i journal (omega arith) (omega arith) is)
numbers_step journals places i journal within there is = absurd (omega arith)

-- The step.

module _ (room : ℕ) (journals : List JournalView) (places : List ℕ) (numbers : List (Option ℕ)) (kept : AreMerging room journals places numbers) where
  taken_length : length (take (length journals) numbers) ≡ length journals
  taken_length = length-take-le (length journals) numbers (omega (arith, kept.each_number, kept.few))

  -- no number is next
  pub all_told : ((k : ℕ) → k < length (take (length journals) numbers) → get_or (take (length journals) numbers) k None ≡ None) →
      merged (left_of journals places) ≡ []
  all_told none = merged_none (left_of journals places) (λ k within.
      ap (λ ns. get_or ns k None) (sym kept.are_next) ∙ none k (omega (arith, taken_length, left_length journals places)))

  module _ (i : ℕ) (journal : JournalView) (of : IsLeastOf (take (length journals) numbers) i) (at : journal ≡ get_or journals i journal) where
    within_journals : i < length journals
    within_journals = omega (arith, of.least.within, taken_length)

    within_places : i < length places
    within_places = omega (arith, within_journals, kept.each_place, kept.few)

    next_number : number_at (get_or places i 0) journal ≡ Some of.number
    next_number =
        sym (lane_number journals places i journal within_journals within_places at)
        ∙ ap (λ ns. get_or ns i None) (sym kept.are_next) ∙ of.least.is

    pub has_entry : get_or places i 0 < length journal.entries
    has_entry = omega (
      arith,
      slice_get_within (map entry_number journal.entries) (get_or places i 0) of.number next_number,
      length-map journal.entries entry_number,
    )

    least_left : IsLeast (map first_number (left_of journals places)) (length (left_of journals places)) i of.number
    least_left =
        let here = subst (λ ns. IsLeast ns (length (take (length journals) numbers)) i of.number) kept.are_next of.least in
        subst (λ n. IsLeast (map first_number (left_of journals places)) n i of.number) (taken_length ∙ sym (left_length journals places)) here

    -- the entry is the first of those left, and the others are left
    pub one_told : (e : Entry) → slice_get journal.entries (get_or places i 0) ≡ Some e →
        merged (left_of journals places) ≡ e ∷ merged (left_of journals (set places i (get_or places i 0 + 1)))
    one_told e is =
        let numbered : Some e.number ≡ Some of.number =
        sym (ap (option_map entry_number) is) ∙ sym (slice_get-map entry_number journal.entries (get_or places i 0)) ∙ next_number in
        let same : of.number ≡ e.number = cc in
        merged_taken (left_of journals places) i e (left_by_worker journals places kept.by_worker)
        (left_lawful journals places kept.lawful)
        (lane_first journals places i journal within_journals within_places at ∙ is)
        (subst (IsLeast (map first_number (left_of journals places)) (length (left_of journals places)) i) same least_left)
        ∙ ap (λ js. e ∷ merged js) (sym (lane_step journals places i within_places))

    pub merging_on : (number : Option ℕ) → number ≡ number_at (get_or places i 0 + 1) journal →
        AreMerging room journals (set places i (get_or places i 0 + 1)) (set numbers i number)
    merging_on number is = record {
      by_worker = kept.by_worker;
      lawful = kept.lawful;
      few = kept.few;
      each_place = length-set places i (get_or places i 0 + 1) ∙ kept.each_place;
      each_number = length-set numbers i number ∙ kept.each_number;
      are_next = take-set-lt (length journals) numbers i number within_journals ∙ ap (λ ns. set ns i number) kept.are_next
          ∙ ap (set (map first_number (left_of journals places)) i) is
          ∙ sym (numbers_step journals places i journal within_journals within_places at);
    }

-- Merging into a list, with a place and a number for each journal.

module _ (journals : List JournalView) (places : List ℕ) (numbers : List (Option ℕ)) where
  pub starts_before : (n : ℕ) → places ≡ replicate n 0 → left_of journals places ≡ journals
  starts_before n none = ap (left_of journals) none ∙ left_all journals n

  pub starts_merging : (n : ℕ) → n ≡ length journals → AreByWorker journals → AllByRecursion IsLawfulJournal journals → places ≡ replicate n 0 →
      numbers ≡ map first_number journals → AreMerging (length journals) journals places numbers
  starts_merging n each up lawful none first = record {
    by_worker = up;
    lawful = lawful;
    few = omega arith;
    each_place = ap length none ∙ length-replicate n 0 ∙ each;
    each_number = ap length first ∙ length-map journals first_number;
    are_next = take_all (length journals) numbers (omega (arith, ap length first, length-map journals first_number)) ∙ first
        ∙ ap (map first_number) (sym (starts_before n none));
  }

  module _ (kept : AreMerging (length journals) journals places numbers) where
    all_numbers : numbers ≡ take (length journals) numbers
    all_numbers = sym (take_all (length journals) numbers (omega (arith, kept.each_number)))

    pub none_left : ((k : ℕ) → k < length numbers → get_or numbers k None ≡ None) → merged (left_of journals places) ≡ []
    none_left none =
        all_told (length journals) journals places numbers kept (subst (λ ns. (k : ℕ) → k < length ns → get_or ns k None ≡ None) all_numbers none)

    module _ (i : ℕ) (journal : JournalView) (place : ℕ) (least : IsLeastOf numbers i) (at : journal ≡ get_or journals i journal)
        (here : place ≡ get_or places i place) where
      of : IsLeastOf (take (length journals) numbers) i
      of = subst (λ ns. IsLeastOf ns i) all_numbers least

      place_is : get_or places i 0 ≡ place
      place_is = sym (get_or_read places i place (omega (arith, least.least.within, kept.each_place, kept.each_number)) here 0)

      pub place_within : place < length journal.entries
      place_within = subst (λ n. n < length journal.entries) place_is (has_entry (length journals) journals places numbers kept i journal of at)

      pub entry_listed : (e : Entry) → slice_get journal.entries place ≡ Some e →
          merged (left_of journals places) ≡ e ∷ merged (left_of journals (set places i (place + 1)))
      entry_listed e is =
          one_told (length journals) journals places numbers kept i journal of at e (ap (slice_get journal.entries) place_is ∙ is)
          ∙ ap (λ n. e ∷ merged (left_of journals (set places i (n + 1)))) place_is

      pub still_merging : (number : Option ℕ) → number ≡ number_at (place + 1) journal →
          AreMerging (length journals) journals (set places i (place + 1)) (set numbers i number)
      still_merging number is =
          subst (λ n. AreMerging (length journals) journals (set places i (n + 1)) (set numbers i number)) place_is
          (merging_on (length journals) journals places numbers kept i journal of at number (is ∙ ap (λ n. number_at (n + 1) journal) (sym place_is)))
