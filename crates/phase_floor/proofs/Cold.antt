-- A phase in which nothing is hot: there is nothing to merge.
use Rattle.std.proofs.Common.{◌≡◌, Bool, true, false, List, [], ◌∷◌, ◌++◌, map, fold, length, reverse, refl, sym, ap, ◌∙◌, arith}
use Rattle.std.proofs.lemmas.List.{Sorted.{length_permutation}, nil_from_length}
use Rattle.std.specs.List.{AllByRecursion, flat_map}
use Rattle.auction_rows.specs.declared.{requests.Object.Object, rows.Entry.Entry}
use Rattle.item_shards.specs.declared.shard.slices.Slice.{Slice}
use Rattle.shard_boxes.specs.States.{ShardState}
use Rattle.worker_slices.specs.{Slicing.{stocks_of, slices_in}, declared.slices.Hot.{Hot}}
use Rattle.phase_permits.specs.Kinds.{IsEmptyIf}
use Rattle.phase_transactions.specs.Workers.{WorkerState}
use Rattle.auction_shards.specs.{Merging.{after_merge}, Shards.{at_start}}
use Rattle.closing_laws.specs.{Merging.{slices_left}, Phases.{no_receipt}}
use Rattle.phase_floor.specs.Closings.{AreReceiptsOf, HasSettled, HasReconciled}
use Rattle.phase_floor.specs.Floors.{FloorState}
use Rattle.phase_floor.specs.inner.Parts.{from_the_last, sliced_of, slices_kept}
use Rattle.phase_laws.proofs.ListLemmas.{every_from}

none_held : (slices : List (Object × Hot)) → stocks_of slices ≡ [] → slices_in slices ≡ []
none_held [] none = refl
none_held (hot ∷ slices) none = absurd (omega (arith, ap length none))

none_left : (receipts : List WorkerState) → AllByRecursion (λ receipt. stocks_of receipt.slices ≡ []) receipts → slices_left receipts ≡ []
none_left [] none = refl
none_left (receipt ∷ receipts) none = ap (λ l. l ++ slices_left receipts) (none_held receipt.slices none.0) ∙ none_left receipts none.1

each_none : (floor : FloorState) (receipts : List WorkerState) → floor.stocks ≡ [] → AreReceiptsOf floor receipts → AllByRecursion (λ receipt. stocks_of receipt.slices ≡ []) receipts
each_none floor receipts cold are =
    every_from (λ receipt. stocks_of receipt.slices ≡ []) receipts no_receipt (λ w below. (are.1 w (omega (arith, below, are.0))).stocks_are ∙ cold)

none_merged : (receipts : List WorkerState) → AllByRecursion (λ receipt. stocks_of receipt.slices ≡ []) receipts → flat_map from_the_last (map sliced_of receipts) ≡ []
none_merged [] none = refl
none_merged (receipt ∷ receipts) none =
    ap (λ (slices : List (Object × Slice)). reverse slices ++ flat_map from_the_last (map sliced_of receipts)) (none_held receipt.slices none.0) ∙ none_merged receipts none.1

-- the slices that are kept are all that there are
pub all_kept : (joined : Bool) (floor : FloorState) (receipts : List WorkerState) (slices : List (List (Object × Hot)))
    → IsEmptyIf joined floor.stocks → AreReceiptsOf floor receipts → slices ≡ slices_kept joined receipts → flat_map from_the_last slices ≡ flat_map from_the_last (map sliced_of receipts)
all_kept true floor receipts slices cold are kept = ap (flat_map from_the_last) kept ∙ sym (none_merged receipts (each_none floor receipts cold are))
all_kept false floor receipts slices cold are kept = ap (flat_map from_the_last) kept

pub has_settled : (initial : List ShardState) (floor : FloorState) (receipts : List WorkerState) (states : List ShardState) (entries : List Entry)
    → floor.stocks ≡ [] → AreReceiptsOf floor receipts → HasReconciled initial floor receipts states entries → HasSettled initial floor receipts states entries
has_settled initial floor receipts states entries cold are reconciled =
    let none : reconciled.order ≡ [] =
    nil_from_length reconciled.order (length_permutation (slices_left receipts) reconciled.order reconciled.each ∙ ap length (none_left receipts (each_none floor receipts cold are))) in record {
      given = reconciled.given;
      closed = reconciled.closed;
      states_are = reconciled.states_are ∙ ap (λ (order : List (Object × Slice)). map at_start (fold after_merge reconciled.given order)) none;
    }
