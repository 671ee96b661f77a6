-- What the receipts, the boxes and the journals of a phase come to.
use Rattle.std.proofs.Common.{◌≡◌, ℕ, suc, ◌+◌, ◌<◌, List, [], ◌∷◌, map, length, refl, sym, ap, ◌∙◌, subst, arith, ◌++◌, drop}
use Rattle.std.proofs.Math.{ListN.{get_or-map}, Seq.{drop-append_seam}}
use Rattle.std.{proofs.lemmas.List.{append-nil, length-map}, specs.List.{AllByRecursion}}
use Rattle.auction_rows.specs.declared.rows.Entry.{Entry}
use Rattle.phase_laws.specs.Order.{IsAscending, part}
use Rattle.worker_journals.specs.Journals.{JournalView, entry_number, entry_worker}
use Rattle.worker_journals.specs.Merged.{AreByWorker, added, entries_of}
use Rattle.shard_boxes.specs.{Closed.{AreClosed, AreSpent, IsSpent}, States.{ShardState}}
use Rattle.phase_transactions.specs.Workers.{WorkerState}
use Rattle.closing_laws.specs.Phases.{receipt_at, no_receipt, key_of, journal_of, HasClosed}
use Rattle.phase_floor.{proofs.Every.{at_place}, specs.Closings.{AreReceiptsOf, phase_of}}
use Rattle.phase_floor.specs.{Floors.{FloorState, IsOpen}, inner.Parts.{IsFinished}}

-- to a list that stays nothing is added
pub nothing_added : {X : Type 0} (xs : List X) → xs ≡ xs ++ added xs xs
nothing_added xs = sym (append-nil xs) ∙ ap (λ t. xs ++ t) (sym (drop-append_seam xs []) ∙ ap (drop (length xs)) (append-nil xs))

-- journals of workers that count up from a number stand in the order of the workers
all_later : (n : ℕ) (receipts : List WorkerState) (from : ℕ) → n < from → ((w : ℕ) → w < length receipts → (journal_of (receipt_at receipts w)).worker ≡ from + w)
    → AllByRecursion (λ (later : JournalView). n < later.worker) (map journal_of receipts)
all_later n [] from low h = tt
all_later n (r ∷ receipts) from low h =
    let first = h 0 (omega arith) in
    (omega (arith, first, low), all_later n receipts (from + 1) (omega (arith, low)) (λ w below. let next = h (suc w) (omega (arith, below)) in omega (arith, next)))

pub by_worker : (receipts : List WorkerState) (from : ℕ) → ((w : ℕ) → w < length receipts → (journal_of (receipt_at receipts w)).worker ≡ from + w) → AreByWorker (map journal_of receipts)
by_worker [] from h = tt
by_worker (r ∷ receipts) from h =
    let first = h 0 (omega arith) in
    let rest = λ (w : ℕ) (below : w < length receipts). let next = h (suc w) (omega (arith, below)) in let e : (journal_of (receipt_at receipts w)).worker ≡ from + 1 + w = omega (arith, next) in e in
    (all_later (journal_of r).worker receipts (from + 1) (omega (arith, first)) rest, by_worker receipts (from + 1) rest)

module _ (initial : List ShardState) (workers : ℕ) (floor : FloorState) (is_open : IsOpen initial workers floor) (receipts : List WorkerState) (are : AreReceiptsOf floor receipts)
    (all : AllByRecursion (IsFinished (length initial)) receipts) where
  pub finished : (w : ℕ) → w < length receipts → IsFinished (length initial) (receipt_at receipts w)
  finished w below = at_place (IsFinished (length initial)) receipts all w no_receipt below

  known : (w : ℕ) → w < length receipts → w < length floor.counters
  known w below = omega (arith, below, are.0)

  -- the journals stand in the order of the workers
  pub in_order : AreByWorker (map journal_of receipts)
  in_order = by_worker receipts 0 (λ w below. (finished w below).explained.worker ∙ (are.1 w (known w below)).worker_is ∙ omega arith)

  -- the keys may be given back
  pub are_spent : AreSpent floor.boxes workers (map key_of receipts)
  are_spent =
      let same : length (map key_of receipts) ≡ length receipts = simp length-map in (
        omega (arith, same, are.0, is_open.workers_are),
        λ w low.
            let below : w < length receipts = omega (arith, low, are.0, is_open.workers_are) in
            let receipt = are.1 w (known w below) in
            subst (IsSpent floor.boxes w) (sym (get_or-map key_of receipts w _))
            (record { boxes_are = receipt.boxes_are; worker_is = receipt.worker_is; idle = (finished w below).explained.idle }),
      )

  -- what the parts tell of the phase, once its boxes are closed and its journals merged
  pub has_closed : (given : List ShardState) (entries : List Entry) → AreClosed initial workers (map key_of receipts) given
      → IsAscending entry_number entry_worker entries → ((w : ℕ) → part entry_worker w entries ≡ entries_of w (map journal_of receipts))
      → HasClosed (phase_of initial floor receipts given entries)
  has_closed given entries boxes ascending parts = record {
    begun = record {
      some = is_open.kept.some_shards;
      shards = refl;
      workers = sym are.0;
      distinct = is_open.stocks_are.distinct;
      stocked = is_open.stocks_are.stocked;
      read = is_open.stocks_are.read;
    };
    receipts = λ w below.
        let receipt = are.1 w (known w below) in record {
          explained = (finished w below).explained;
          worker_is = receipt.worker_is;
          setting = (λ i. record { opening = receipt.opening_is i; shards = length initial; stocks = receipt.stocks_are i });
          begun = receipt.begun;
        };
    boxes = subst (λ n. AreClosed initial n (map key_of receipts) given) (sym is_open.workers_are ∙ sym are.0) boxes;
    merged = record { ascending = ascending; parts = parts };
  }
