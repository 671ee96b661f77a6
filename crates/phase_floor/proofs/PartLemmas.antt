-- The parts of receipts, with one receipt more.
use Rattle.std.proofs.Common.{◌≡◌, Bool, true, false, List, [], ◌∷◌, ◌++◌, map, refl, ap, sym, ◌∙◌}
use Rattle.std.proofs.lemmas.List.{map_push}
use Rattle.auction_rows.specs.declared.requests.Object.{Object}
use Rattle.shard_boxes.specs.Keys.{KeyState}
use Rattle.worker_journals.specs.Journals.{JournalView}
use Rattle.worker_slices.specs.{Stashes.{StashState}, declared.counters.Counters.{Counters}}
use Rattle.worker_slices.specs.declared.slices.Hot.{Hot}
use Rattle.phase_transactions.specs.Workers.{WorkerState}
use Rattle.closing_laws.specs.Phases.{key_of, journal_of, counters_of}
use Rattle.phase_floor.specs.{Closings.{stash_of}, inner.Parts.{ArePartsOf, sliced_of, slices_kept}}

-- what was there, with one more at the end
more : {B : Type 0} (f : WorkerState → B) (receipts : List WorkerState) (receipt : WorkerState) (old new : List B) → new ≡ old ++ f receipt ∷ [] → old ≡ map f receipts → new ≡ map f (receipts ++ receipt ∷ [])
more f receipts receipt old new pushed was = pushed ∙ ap (λ l. l ++ f receipt ∷ []) was ∙ sym (map_push f receipts receipt)

pub parts_next : (receipts : List WorkerState) (receipt : WorkerState) (old_journals journals : List JournalView) (old_stashes stashes : List StashState) (old_keys keys : List KeyState)
    (old_counters counters : List Counters) → ArePartsOf receipts old_journals old_stashes old_keys old_counters
    → journals ≡ old_journals ++ journal_of receipt ∷ [] → stashes ≡ old_stashes ++ stash_of receipt ∷ [] → keys ≡ old_keys ++ key_of receipt ∷ []
    → counters ≡ old_counters ++ counters_of receipt ∷ []
    → ArePartsOf (receipts ++ receipt ∷ []) journals stashes keys counters
parts_next receipts receipt old_journals journals old_stashes stashes old_keys keys old_counters counters was journal stash key counter = record {
  journals_are = more journal_of receipts receipt old_journals journals journal was.journals_are;
  stashes_are = more stash_of receipts receipt old_stashes stashes stash was.stashes_are;
  keys_are = more key_of receipts receipt old_keys keys key was.keys_are;
  counters_are = more counters_of receipts receipt old_counters counters counter was.counters_are;
}

-- what is kept of slices, with one receipt more
pub kept_next : (joined : Bool) (receipts : List WorkerState) (receipt : WorkerState) (old slices : List (List (Object × Hot))) → old ≡ slices_kept joined receipts
    → (joined ≡ true → slices ≡ old) → (joined ≡ false → slices ≡ old ++ sliced_of receipt ∷ []) → slices ≡ slices_kept joined (receipts ++ receipt ∷ [])
kept_next true receipts receipt old slices was none one = none refl ∙ was
kept_next false receipts receipt old slices was none one = more sliced_of receipts receipt old slices (one refl) was
