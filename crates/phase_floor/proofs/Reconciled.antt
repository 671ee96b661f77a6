-- The slices of all workers, merged into the shards that the boxes of a split phase gave back.
use Rattle.std.proofs.Common.{◌≡◌, ℕ, ◌<◌, List, [], ◌∷◌, map, fold, length, Option, refl, sym, ap, ◌∙◌, subst, arith}
use Rattle.std.proofs.lemmas.List.Elements.{All-from_recursion, recursion_from_All}
use Rattle.std.proofs.lemmas.List.Sorted.{All-permutation, IsPermutation-refl, IsPermutation-append, IsPermutation-reverse}
use Rattle.std.specs.List.{Sorted.{IsPermutation}, AllByRecursion, flat_map}
use Rattle.phase_laws.{proofs.ListLemmas.{all-append, every_from}, specs.Replay.{SawInTurn}}
use Rattle.auction_rows.specs.{Book.{Book}, History.{book_after}}
use Rattle.auction_rows.specs.declared.requests.Object.TheVariants.{Item}
use Rattle.auction_rows.specs.declared.{values.Opening.Opening, requests.Facts.Facts, requests.Object.Object, rows.Entry.Entry}
use Rattle.item_shards.specs.declared.shard.slices.Slice.{Slice}
use Rattle.shard_boxes.specs.States.{ShardState, state_at}
use Rattle.shard_boxes.specs.declared.limits.TheConstants.{MOST_COMMITS}
use Rattle.worker_slices.specs.Slicing.{hot_objects, stocks_of, slices_in, HaveAtMost}
use Rattle.worker_slices.specs.declared.slices.Hot.{Hot}
use Rattle.phase_transactions.specs.Workers.{WorkerState}
use Rattle.closing_laws.proofs.{ReconcileLemmas.{reconciled_stand}, RoomLemmas.{merges_can_be_done}}
use Rattle.closing_laws.specs.Merging.{slices_left}
use Rattle.closing_laws.specs.Phases.{HasClosed, receipt_at, no_receipt, counters_of}
use Rattle.closing_laws.specs.Standing.{StandFor}
use Rattle.closing_laws.proofs.MergeLemmas.{as_many as as_many_merged}
use Rattle.auction_shards.specs.Merging.{after_merge, CanMerge}
use Rattle.auction_shards.specs.Shards.{AreOfOne, IsKnown, at_start, opening_in}
use Rattle.phase_floor.proofs.Started.{same_length, started, start_stands}
use Rattle.phase_floor.proofs.Turns.{one_after, opening_after}
use Rattle.phase_floor.specs.{Closings.{AreReceiptsOf, phase_of}, Floors.{FloorState, IsOpen}}
use Rattle.phase_floor.specs.States.{DoesExist, DoAllExist}
use Rattle.phase_floor.specs.inner.{Parts.{AreKnown, sliced_of, from_the_last}, Rows.{AreReady}}

-- the order in which they are merged
abbrev pub order_of : List WorkerState → List (Object × Slice)
order_of receipts = flat_map from_the_last (map sliced_of receipts)

-- each stands there once
pub all_once : (receipts : List WorkerState) → IsPermutation (slices_left receipts) (order_of receipts)
all_once [] = IsPermutation-refl []
all_once (receipt ∷ receipts) =
    IsPermutation-append (slices_in receipt.slices) (from_the_last receipt.slices) (slices_left receipts) (order_of receipts)
    (IsPermutation-reverse (slices_in receipt.slices)) (all_once receipts)

-- What exists has a number.

exists_known : (opening : Opening) (states : List ShardState) (object : Object) → DoesExist opening states object → IsKnown opening object
exists_known opening states (Item id) exists = tt
exists_known opening states object exists = exists

slices_numbered : (opening : Opening) (states : List ShardState) (slices : List (Object × Hot)) → DoAllExist opening states (hot_objects (stocks_of slices))
    → AllByRecursion (λ pair. IsKnown opening pair.0) (slices_in slices)
slices_numbered opening states [] exist = tt
slices_numbered opening states (hot ∷ hots) exist = (exists_known opening states hot.0 exist.0, slices_numbered opening states hots exist.1)

all_numbered : (opening : Opening) (states : List ShardState) (stocks : List (Object × Option (Facts × ℕ))) → DoAllExist opening states (hot_objects stocks)
    → (receipts : List WorkerState) → AllByRecursion (λ receipt. stocks_of receipt.slices ≡ stocks) receipts → AllByRecursion (λ pair. IsKnown opening pair.0) (slices_left receipts)
all_numbered opening states stocks exist [] are = tt
all_numbered opening states stocks exist (receipt ∷ receipts) are =
    all-append (λ (pair : Object × Slice). IsKnown opening pair.0) (slices_in receipt.slices) (slices_left receipts)
    (slices_numbered opening states receipt.slices (subst (λ s. DoAllExist opening states (hot_objects s)) (sym are.0) exist))
    (all_numbered opening states stocks exist receipts are.1)

module _ (initial : List ShardState) (workers : ℕ) (floor : FloorState) (is_open : IsOpen initial workers floor) (receipts : List WorkerState) (are : AreReceiptsOf floor receipts)
    (given : List ShardState) (entries : List Entry) (closed : HasClosed (phase_of initial floor receipts given entries)) where
  given_opening : (s : ℕ) → s < length given → (state_at given s).opening ≡ floor.opening
  given_opening s below =
      let inside : s < length initial = omega (arith, below, closed.boxes.0) in
      (closed.boxes.1 s inside).history.opening_is ∙ is_open.kept.opening_is s inside

  first : opening_in given ≡ floor.opening
  first = given_opening 0 (omega (arith, closed.boxes.0, is_open.kept.some_shards))

  pub given_one : AreOfOne given
  given_one = record {
    some = omega (arith, closed.boxes.0, is_open.kept.some_shards);
    few = omega (arith, closed.boxes.0, is_open.kept.few_shards);
    numbered = λ s below.
        let history = (closed.boxes.1 s (omega (arith, below, closed.boxes.0))).history in (history.number_is, history.shards_is ∙ sym closed.boxes.0);
    opening_is = λ s below. given_opening s below ∙ sym first;
  }

  pub given_known : AreKnown given (order_of receipts)
  given_known =
      let P : Object × Slice → Type 0 = λ pair. IsKnown (opening_in given) pair.0 in
      let stocks : AllByRecursion (λ receipt. stocks_of receipt.slices ≡ floor.stocks) receipts =
      every_from (λ receipt. stocks_of receipt.slices ≡ floor.stocks) receipts no_receipt (λ w below. (are.1 w (omega (arith, below, are.0))).stocks_are) in
      let left = subst (λ (o : Opening). AllByRecursion (λ (pair : Object × Slice). IsKnown o pair.0) (slices_left receipts)) (sym first)
      (all_numbered floor.opening initial floor.stocks is_open.stocks_are.exist receipts stocks) in
      recursion_from_All P (order_of receipts) (All-permutation P (slices_left receipts) (order_of receipts) (all_once receipts) (All-from_recursion P (slices_left receipts) left))

  pub given_can : ((w : ℕ) → w < length receipts → HaveAtMost MOST_COMMITS (receipt_at receipts w).slices) → SawInTurn CanMerge after_merge given (order_of receipts)
  given_can few =
      merges_can_be_done (phase_of initial floor receipts given entries) closed is_open.kept.opened (omega (arith, are.0, is_open.kept.few_workers))
      (every_from (λ receipt. HaveAtMost MOST_COMMITS receipt.slices) receipts no_receipt few) (order_of receipts) (all_once receipts)

  -- merged in any order
  module _ (order : List (Object × Slice)) (each : IsPermutation (slices_left receipts) order) (states : List ShardState) (states_are : states ≡ map at_start (fold after_merge given order)) where
    abbrev merged : List ShardState
    merged = fold after_merge given order

    known : (s : ℕ) → s < length states → s < length merged
    known s below = omega (arith, below, same_length merged states states_are)

    pub as_many : length states ≡ length initial
    as_many = same_length merged states states_are ∙ as_many_merged order given ∙ closed.boxes.0

    pub ready : AreReady floor.opening states
    ready =
        let one = one_after order given given_one in
        let at = started merged states states_are in record {
          numbered = λ s below. (
            ap (λ (state : ShardState). state.number) (at s (known s below)) ∙ (one.numbered s (known s below)).0,
            ap (λ (state : ShardState). state.shards) (at s (known s below)) ∙ (one.numbered s (known s below)).1 ∙ sym (same_length merged states states_are),
          );
          opening_is = λ s below. ap (λ (state : ShardState). state.opening) (at s (known s below)) ∙ one.opening_is s (known s below) ∙ opening_after order given ∙ first;
          clock_is = λ s below. ap (λ (state : ShardState). state.clock) (at s (known s below));
        }

    pub stand_after : (book : Book) → StandFor initial floor.counters book [] → StandFor states (map counters_of receipts) (book_after floor.opening book entries) []
    stand_after book holds =
        start_stands merged states states_are (map counters_of receipts) (book_after floor.opening book entries)
        (reconciled_stand (phase_of initial floor receipts given entries) closed book holds merged
        (record { order = order; each = each; count = as_many_merged order given; contents = λ s below. refl }))
