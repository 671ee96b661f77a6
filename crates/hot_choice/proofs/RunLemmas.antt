-- The objects that entries write, and runs of them.
use Rattle.std.proofs.Common.{◌≡◌, ℕ, ◌+◌, ◌<◌, Bool, List, [], ◌∷◌, ◌++◌, Option, Some, None, count_by, get_or, length, refl, replicate, sym, take, ap, ◌∙◌, append_assoc}
use Rattle.std.proofs.lemmas.{Grind.{flat_map-append}, List.{append-nil, replicate_more, take_more}}
use Rattle.std.proofs.lemmas.List.{Concat.{flat_map-cons}, Elements.{filter_map-append}}
use Rattle.std.proofs.lemmas.List.{Sorted.{sum_by-IsPermutation}, Sums.{sum_by-cons}}
use Rattle.std.specs.{List.{sum_by}, Prelude.{option_to_list}}
use Rattle.auction_rows.proofs.HistoryLemmas.{filter_map-one}
use Rattle.auction_rows.specs.{Choosing.{written_by, objects_written, heat}, Requests.{same_object}}
use Rattle.auction_rows.specs.declared.{requests.Object.Object, rows.Entry.Entry}
use Rattle.run_laws.proofs.CountLemmas.{how_many, how_many-is, count-append}
use Rattle.worker_journals.proofs.MergedLemmas.{all_entries, merged_permutes}
use Rattle.worker_journals.specs.{Journals.{JournalView}, Merged.{merged}}
use Rattle.hot_choice.specs.declared.runs.Run.{Run}
use Rattle.hot_choice.specs.inner.Runs.{AreWritten, objects_of, open_objects, run_objects}

-- ---- the objects that entries write

pub written_more : (es : List Entry) (e : Entry) → objects_written (es ++ e ∷ []) ≡ objects_written es ++ option_to_list (written_by e)
written_more es e = filter_map-append written_by es (e ∷ []) ∙ ap (λ os. objects_written es ++ os) (filter_map-one written_by e)

pub written_in_turn : (journals : List JournalView) (journal : JournalView) →
    objects_written (all_entries (journals ++ journal ∷ [])) ≡ objects_written (all_entries journals) ++ objects_written journal.entries
written_in_turn journals journal =
    ap objects_written (flat_map-append (λ (j : JournalView). j.entries) journals (journal ∷ [])
    ∙ ap (λ es. all_entries journals ++ es) (flat_map-cons (λ (j : JournalView). j.entries) journal [] ∙ append-nil journal.entries))
    ∙ filter_map-append written_by (all_entries journals) journal.entries

-- how often an entry writes an object
abbrev adds : Object → Entry → ℕ
adds object e = how_many (λ other. same_object other object) (option_to_list (written_by e))

heat-summed : (es : List Entry) (object : Object) → heat es object ≡ sum_by (adds object) es
heat-summed [] object = refl
heat-summed (e ∷ es) object =
    let p : Object → Bool = λ other. same_object other object in
    ap (count_by p) (filter_map-append written_by (e ∷ []) es ∙ ap (λ os. os ++ objects_written es) (filter_map-one written_by e))
    ∙ sym (how_many-is p (option_to_list (written_by e) ++ objects_written es)) ∙ count-append p (option_to_list (written_by e)) (objects_written es)
    ∙ ap (λ n. adds object e + n) (how_many-is p (objects_written es) ∙ heat-summed es object)
    ∙ sym (sum_by-cons (adds object) e es)

-- heats have no order
pub written_in_any_order : (journals : List JournalView) → AreWritten (merged journals) (objects_written (all_entries journals))
written_in_any_order journals object =
    heat-summed (all_entries journals) object
    ∙ sym (sum_by-IsPermutation (adds object) (all_entries journals) (merged journals) (merged_permutes journals))
    ∙ sym (heat-summed (merged journals) object)

-- ---- runs

-- a run with one object more
pub run_grown : (run : Run) (more : ℕ) (object : Object) → more ≡ run.more + 1 → run.object ≡ object → run.object ∷ replicate more run.object ≡ run_objects run ++ object ∷ []
run_grown run more object next same =
    ap (λ n. run.object ∷ replicate n run.object) next
    ∙ ap (λ os. run.object ∷ os) (sym (replicate_more run.more run.object) ∙ ap (λ o. replicate run.more run.object ++ o ∷ []) same)

pub runs_more : (runs : List Run) (run : Run) → objects_of (runs ++ run ∷ []) ≡ objects_of runs ++ run_objects run
runs_more runs run =
    flat_map-append run_objects runs (run ∷ [])
    ∙ ap (λ os. objects_of runs ++ os) (flat_map-cons run_objects run [] ∙ append-nil (run_objects run))

-- what the runs before, one that may go on and an entry have
abbrev written_so_far : List Run → Option Run → Option Object → List Object
written_so_far runs run written = (objects_of runs ++ open_objects run) ++ option_to_list written

-- nothing is written
pub run_waits : (runs : List Run) (run : Option Run) (written : Option Object) → written ≡ None → objects_of runs ++ open_objects run ≡ written_so_far runs run written
run_waits runs run written none = sym (append-nil (objects_of runs ++ open_objects run)) ∙ ap (written_so_far runs run) (sym none)

-- an object is written where no run goes on
pub run_begins : (runs : List Run) (run : Option Run) (written : Option Object) (object : Object) → run ≡ None → written ≡ Some object →
    objects_of runs ++ run_objects (record { object = object; more = 0 }) ≡ written_so_far runs run written
run_begins runs run written object none is = ap (λ os. os ++ object ∷ []) (sym (append-nil (objects_of runs))) ∙ (λ i. written_so_far runs (sym none i) (sym is i))

-- a run goes on with the object that is written
pub run_goes_on : (runs : List Run) (run : Option Run) (written : Option Object) (last grown : Run) (object : Object) → run ≡ Some last → written ≡ Some object →
    run_objects grown ≡ run_objects last ++ object ∷ [] → objects_of runs ++ run_objects grown ≡ written_so_far runs run written
run_goes_on runs run written last grown object here is grows =
    ap (λ os. objects_of runs ++ os) grows
    ∙ sym (append_assoc (objects_of runs) (run_objects last) (object ∷ []))
    ∙ (λ i. written_so_far runs (sym here i) (sym is i))

-- a run ends where another object is written
pub run_ends : (runs after : List Run) (run : Option Run) (written : Option Object) (last : Run) (object : Object) → run ≡ Some last → written ≡ Some object →
    after ≡ runs ++ last ∷ [] → objects_of after ++ run_objects (record { object = object; more = 0 }) ≡ written_so_far runs run written
run_ends runs after run written last object here is has =
    ap (λ os. os ++ object ∷ []) (ap objects_of has ∙ runs_more runs last) ∙ (λ i. written_so_far runs (sym here i) (sym is i))

-- the last run is put behind the others
pub run_put : (runs after : List Run) (run : Option Run) (last : Run) → run ≡ Some last → after ≡ runs ++ last ∷ [] → objects_of after ≡ objects_of runs ++ open_objects run
run_put runs after run last here has = ap objects_of has ∙ runs_more runs last ∙ ap (λ r. objects_of runs ++ open_objects r) (sym here)

pub none_put : (runs : List Run) (run : Option Run) → run ≡ None → objects_of runs ≡ objects_of runs ++ open_objects run
none_put runs run none = sym (append-nil (objects_of runs)) ∙ ap (λ r. objects_of runs ++ open_objects r) (sym none)

pub runs_taken : (runs : List Run) (n : ℕ) (d : Run) → n < length runs → objects_of (take (n + 1) runs) ≡ objects_of (take n runs) ++ run_objects (get_or runs n d)
runs_taken runs n d less = ap objects_of (take_more runs n d less) ∙ runs_more (take n runs) (get_or runs n d)
