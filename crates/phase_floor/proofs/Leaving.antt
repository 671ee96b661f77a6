-- The state that a phase leaves.
use Rattle.std.proofs.Common.{◌≡◌, ℕ, ◌+◌, ◌<◌, List, [], map, fold, length, sym, ap, ◌∙◌, subst, arith}
use Rattle.std.specs.List.{AllByRecursion, flat_map}
use Rattle.phase_laws.specs.Replay.{SawInTurn}
use Rattle.auction_rows.specs.History.{book_after}
use Rattle.auction_rows.specs.declared.{values.Opening.Opening, requests.Object.Object, rows.Entry.Entry}
use Rattle.item_shards.specs.declared.shard.{Shard.{Shard}, slices.Slice.{Slice}}
use Rattle.shard_boxes.specs.{Closed.{AreClosed}, Keys.{KeyState}, States.{ShardState, state_of}}
use Rattle.worker_journals.proofs.AddedLemmas.{added_ascends, added_parts}
use Rattle.worker_journals.specs.Histories.{HistoryView, with_phase}
use Rattle.worker_journals.specs.Journals.{JournalView, IsLawfulJournal}
use Rattle.worker_journals.specs.Merged.{AreByWorker, added, entries_of}
use Rattle.worker_slices.specs.{Stashes.{StashState}, declared.counters.Counters.{Counters}}
use Rattle.worker_slices.specs.declared.slices.Hot.{Hot}
use Rattle.phase_transactions.specs.Workers.{WorkerState}
use Rattle.auction_shards.specs.{Merging.{CanMerge, after_merge}, Shards.{AreOfOne, at_start}}
use Rattle.closing_laws.proofs.{ClockLemmas.{numbers_suffice}, CommitLemmas.{commits_grow}, ReplayLemmas.{entries_replay}}
use Rattle.closing_laws.specs.Phases.{HasClosed, counters_of, journal_of, receipt_at}
use Rattle.closing_laws.specs.Standing.{StandFor, counters_at}
use Rattle.phase_floor.proofs.Closings.{finished, has_closed, in_order}
use Rattle.phase_floor.proofs.{Kept.{kept_after, counted}, Lawfully.{reconciled_lawful}}
use Rattle.phase_floor.proofs.Reconciled.{order_of, all_once, given_one, given_known, given_can, as_many, ready, stand_after}
use Rattle.phase_floor.specs.Closings.{AreReceiptsOf, HasReconciled, Leaves, phase_of, stash_of}
use Rattle.phase_floor.specs.{Floors.{FloorState, IsOpen}, States.{IsKept, joined_of}}
use Rattle.phase_floor.specs.inner.Parts.{AreKnown, ArePartsOf, IsFinished, from_the_last, sliced_of}

-- what the parts of the receipts, the boxes and the history tell: the phase has reconciled
module _ (initial : List ShardState) (workers : ℕ) (floor : FloorState) (is_open : IsOpen initial workers floor) (receipts : List WorkerState) (are : AreReceiptsOf floor receipts)
    (all : AllByRecursion (IsFinished (length initial)) receipts) (given : List ShardState) (old new : HistoryView) (journals : List JournalView) (stashes : List StashState) (keys : List KeyState)
    (counters : List Counters) (slices : List (List (Object × Hot))) (parts : ArePartsOf receipts journals stashes keys counters) (same : flat_map from_the_last slices ≡ flat_map from_the_last (map sliced_of receipts)) (is : new ≡ with_phase old journals)
    (lawful : AllByRecursion IsLawfulJournal journals) (boxes : AreClosed initial workers keys given) where
  closed : HasClosed (phase_of initial floor receipts given (added old.entries new.entries))
  closed =
      let up = subst AreByWorker (sym parts.journals_are) (in_order initial workers floor is_open receipts are all) in
      has_closed initial workers floor is_open receipts are all given (added old.entries new.entries)
      (subst (λ (keys : List KeyState). AreClosed initial workers keys given) parts.keys_are boxes) (added_ascends old new journals is up lawful)
      (λ w. added_parts old new journals is up lawful w ∙ ap (entries_of w) parts.journals_are)

  pub shards_one : AreOfOne given
  shards_one = given_one initial workers floor is_open receipts are given (added old.entries new.entries) closed

  pub slices_known : AreKnown given (flat_map from_the_last slices)
  slices_known = subst (AreKnown given) (sym same) (given_known initial workers floor is_open receipts are given (added old.entries new.entries) closed)

  pub slices_can : SawInTurn CanMerge after_merge given (flat_map from_the_last slices)
  slices_can =
      subst (SawInTurn CanMerge after_merge given) (sym same)
      (given_can initial workers floor is_open receipts are given (added old.entries new.entries) closed (λ w below. (finished initial workers floor is_open receipts are all w below).few))

  pub reconciled : (states : List ShardState) → states ≡ map at_start (fold after_merge given (flat_map from_the_last slices)) → HasReconciled initial floor receipts states (added old.entries new.entries)
  reconciled states states_are = record {
    given = given;
    closed = closed;
    order = order_of receipts;
    each = all_once receipts;
    states_are = states_are ∙ ap (λ (order : List (Object × Slice)). map at_start (fold after_merge given order)) same;
  }

module _ (initial : List ShardState) (workers : ℕ) (floor : FloorState) (is_open : IsOpen initial workers floor) (receipts : List WorkerState) (are : AreReceiptsOf floor receipts)
    (all : AllByRecursion (IsFinished (length initial)) receipts) (entries : List Entry) (shards : List Shard)
    (e : HasReconciled initial floor receipts (map state_of shards) entries) (start : Opening) (limit : ℕ) (counters : List Counters) (start_is : start ≡ floor.opening) (limit_is : limit ≡ floor.limit) (counters_are : counters ≡ map counters_of receipts) where
  pub kept_left : IsKept start limit (map state_of shards) counters
  kept_left =
      let states = map state_of shards in
      let kept = kept_after initial workers floor is_open receipts are e.given entries e.closed (λ w below. (finished initial workers floor is_open receipts are all w below).most) shards
      (as_many initial workers floor is_open receipts are e.given entries e.closed e.order e.each states e.states_are)
      (ready initial workers floor is_open receipts are e.given entries e.closed e.order e.each states e.states_are)
      (stand_after initial workers floor is_open receipts are e.given entries e.closed e.order e.each states e.states_are) in
      subst (λ (o : Opening). IsKept o limit states counters) (sym start_is) (subst (λ n. IsKept floor.opening n states counters) (sym limit_is)
      (subst (λ (cs : List Counters). IsKept floor.opening floor.limit states cs) (sym counters_are) kept))

  -- each worker's commits grow by its journal
  grown : (w : ℕ) → w < length receipts → (counters_at counters w).commits ≡ (counters_at floor.counters w).commits + length (journal_of (receipt_at receipts w)).entries
  grown w below =
      ap (λ (cs : List Counters). (counters_at cs w).commits) counters_are
      ∙ sym (ap (λ (cs : Counters). cs.commits) (counted initial workers floor is_open receipts are e.given entries e.closed (λ v low. (finished initial workers floor is_open receipts are all v low).most) w below))
      ∙ commits_grow (phase_of initial floor receipts e.given entries) e.closed w below

  pub leaves : (phase : ℕ) (stashes : List StashState) → phase ≡ floor.phase + 1 → stashes ≡ map stash_of receipts → Leaves initial floor receipts entries (joined_of start limit phase shards counters) stashes
  leaves phase stashes phase_is stashes_are = record {
    opening_is = start_is;
    limit_is = limit_is;
    phase_is = phase_is;
    counters_are = counters_are;
    stashes_are = stashes_are;
    lawful = reconciled_lawful initial floor receipts (map state_of shards) entries e;
    commits = grown;
    within = λ w below room.
        let more = grown w below in let entered = (finished initial workers floor is_open receipts are all w below).room in
        omega (arith, more, entered, room, limit_is);
    numbers = numbers_suffice (phase_of initial floor receipts e.given entries) e.closed is_open.kept.opened (omega (arith, are.0, is_open.kept.few_workers))
        (λ w below. omega (arith, commits_grow (phase_of initial floor receipts e.given entries) e.closed w below, (finished initial workers floor is_open receipts are all w below).most));
    replays = λ book holds. entries_replay (phase_of initial floor receipts e.given entries) e.closed book holds;
    stands = λ book holds. subst (λ (cs : List Counters). StandFor (map state_of shards) cs (book_after floor.opening book entries) []) (sym counters_are)
        (stand_after initial workers floor is_open receipts are e.given entries e.closed e.order e.each (map state_of shards) e.states_are book holds);
  }
