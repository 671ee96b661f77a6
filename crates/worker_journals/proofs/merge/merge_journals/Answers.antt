use Rattle.std.proofs.Common.{◌≡◌, ◌∙◌, ◌++◌, ◌∷◌, [], ◌<◌, ◌+◌, ℕ, List, None, length, map, get_or, set, sym, ap, subst, arith, append_assoc}
use Rattle.std.{proofs.lemmas.List.{append-nil}, specs.List.{AllByRecursion}}
use Rattle.std.specs.List.Sorted.{IsPermutation}
use Rattle.phase_laws.specs.Order.{IsAscending, part}
use Rattle.auction_rows.specs.declared.rows.Entry.{Entry}
use Rattle.worker_journals.proofs.MergedLemmas.{all_entries, merged_ascends, merged_parts, merged_permutes}
use Rattle.worker_journals.proofs.StepLemmas.{starts_before, starts_merging, none_left, place_within, entry_listed, still_merging}
use Rattle.worker_journals.specs.Journals.{IsLawfulJournal, entry_number, entry_worker}
use Rattle.worker_journals.specs.{Merged.{merged}, inner.Places.{left_of, first_number, IsLeastOf}}
use Rattle.worker_journals.proofs.merge.merge_journals.Goals as goal

-- the first of those that were left is the last of those in the list
one_more : (all left listed listed' : List Entry) (e : Entry) (left' : List Entry) → left ≡ e ∷ left' → listed' ≡ listed ++ e ∷ [] →
    listed ++ left ≡ all → listed' ++ left' ≡ all
one_more all left listed listed' e left' first pushed so_far =
    ap (λ es. es ++ left') pushed ∙ append_assoc listed (e ∷ []) left' ∙ ap (λ es. listed ++ es) (sym first) ∙ so_far

-- all are in the list
all_listed : (all left listed : List Entry) → left ≡ [] → listed ++ left ≡ all → listed ≡ all
all_listed all left listed none so_far = sym (append-nil listed) ∙ ap (λ es. listed ++ es) (sym none) ∙ so_far

pub loop-worker-init : goal.loop-worker-init
loop-worker-init c =
    let journals = c.args.journals.items in let places = c.in_ok-places.places.items in
    let numbers = c.in_ok-numbers.numbers.items in
    let none = c.in_ok-places.ensures.items_if_clones_equal (λ y is. is) in
    let value = c.deref-2.ensures.value in record {
      merging = starts_merging journals places numbers c.len.result (omega (arith, c.len.ensures, c.args.journals.ok.0)) c.requires.by_worker
          (subst (AllByRecursion IsLawfulJournal) value c.in_ok-numbers.ensures.lawful) none (c.in_ok-numbers.ensures.numbers ∙ ap (map first_number) value);
      told = ap (λ es. es ++ merged (left_of journals places)) c.in_ok-entries.ensures.items
          ∙ ap merged (starts_before journals places numbers c.len.result none);
    }

pub entry-requires : goal.entry-requires
entry-requires c =
    let w = c.loop-worker in
    let least = subst (λ ns. IsLeastOf ns c.in-Some.worker) c.deref-in-loop-worker.ensures.value c.in-Some.ensures.least in
    place_within c.args.journals.items w.places.items w.numbers.items w.invariant.merging c.in-Some.worker c.index-journal.result.now
    c.index-place.result.now least c.index-journal.ensures c.index-place.ensures

pub loop-worker-smaller : goal.loop-worker-smaller
loop-worker-smaller c =
    let w = c.loop-worker in let journals = c.args.journals.items in
    let least = subst (λ ns. IsLeastOf ns c.in-Some.worker) c.deref-in-loop-worker.ensures.value c.in-Some.ensures.least in
    let first = entry_listed journals w.places.items w.numbers.items w.invariant.merging c.in-Some.worker c.index-journal.result.now
    c.index-place.result.now least c.index-journal.ensures c.index-place.ensures c.entry.result c.entry.ensures.entry in
    subst (λ (es : List Entry). length (merged (left_of journals (set w.places.items c.in-Some.worker (c.index-place.result.now + 1)))) < length es)
    (sym first) (omega arith)

pub loop-worker-preserved : goal.loop-worker-preserved
loop-worker-preserved c =
    let w = c.loop-worker in let journals = c.args.journals.items in
    let least = subst (λ ns. IsLeastOf ns c.in-Some.worker) c.deref-in-loop-worker.ensures.value c.in-Some.ensures.least in
    let first = entry_listed journals w.places.items w.numbers.items w.invariant.merging c.in-Some.worker c.index-journal.result.now
    c.index-place.result.now least c.index-journal.ensures c.index-place.ensures c.entry.result c.entry.ensures.entry in
    record {
      merging = still_merging journals w.places.items w.numbers.items w.invariant.merging c.in-Some.worker c.index-journal.result.now
          c.index-place.result.now least c.index-journal.ensures c.index-place.ensures c.number_at.result c.number_at.ensures.number;
      told = one_more (merged journals) (merged (left_of journals w.places.items)) w.entries.items c.push_to.new.entries.items c.entry.result _ first
          c.in_ok-push_to.ensures w.invariant.told;
    }

pub returns : goal.returns
returns c =
    let w = c.loop-worker in let journals = c.args.journals.items in
    let kept = w.invariant.merging in
    let none = subst (λ ns. (k : ℕ) → k < length ns → get_or ns k None ≡ None) c.deref-in-loop-worker.ensures.value c.in_default.ensures.none in
    let all = all_listed (merged journals) (merged (left_of journals w.places.items)) w.entries.items (none_left journals w.places.items w.numbers.items kept none) w.invariant.told in
    record {
      merged = all;
      ascending = subst (IsAscending entry_number entry_worker) (sym all) (merged_ascends journals kept.by_worker kept.lawful);
      parts = λ worker. ap (part entry_worker worker) all ∙ merged_parts journals worker kept.by_worker kept.lawful;
      permutation = subst (IsPermutation (all_entries journals)) (sym all) (merged_permutes journals);
    }
