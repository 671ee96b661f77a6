-- Permits whose receipts a close takes.
use Rattle.std.proofs.Common.{◌≡◌, ℕ, List, [], Option, Some, None, refl, sym, ap, ◌∙◌, subst}
use Rattle.std.specs.Prelude.{IfSome, IfNone}
use Rattle.auction_rows.specs.Replies.{row_of}
use Rattle.auction_rows.specs.declared.{requests.Request.Request, replies.Reply.Reply}
use Rattle.item_shards.specs.Writing.{writes_if}
use Rattle.shard_boxes.specs.States.{ShardState}
use Rattle.worker_slices.proofs.{Places.{stocks_of_rows}, StockLemmas.{stocks-acts}}
use Rattle.worker_slices.specs.{Slicing.{stocks_of}, Stashes.{StashState}}
use Rattle.phase_transactions.specs.Performing.{HasFailed, HasCommitted}
use Rattle.phase_permits.specs.Dealing.{HasFailedFirst, HasPerformedFirst, HasDealtWith}
use Rattle.phase_transactions.specs.Workers.{with_first_unstashed, with_try, WorkerState}
use Rattle.phase_permits.specs.declared.done.Done.TheVariants.{Committed, Stashed}
use Rattle.phase_permits.specs.declared.done.Done.{Done}
use Rattle.phase_transactions.specs.declared.fault.PermitFault.{PermitFault}
use Rattle.closing_laws.specs.Phases.{no_receipt}
use Rattle.phase_floor.specs.Closings.{IsReceipt, AreReceiptsOf}
use Rattle.phase_floor.specs.Floors.{FloorState, IsNewPermit, AreBegun}

begun_receipt : (floor : FloorState) (w quota : ℕ) (stash : StashState) (permit : WorkerState) → IsNewPermit floor w quota stash permit → IsReceipt floor w permit
begun_receipt floor w quota stash permit begun = record {
  boxes_are = begun.key.boxes_are;
  worker_is = begun.key.worker_is;
  opening_is = ap (λ (p : WorkerState). p.opening) begun.new;
  phase_is = ap (λ (p : WorkerState). p.journal.phase) begun.new;
  stocks_are = ap (λ (p : WorkerState). stocks_of p.slices) begun.new ∙ stocks_of_rows floor.stocks [];
  begun = ap (λ (p : WorkerState). p.begun) begun.new;
}

-- new permits are such
pub begun_receipts : (floor : FloorState) (quotas : List ℕ) (stashes : List StashState) (permits : List WorkerState) → AreBegun floor quotas stashes permits → AreReceiptsOf floor permits
begun_receipts floor quotas stashes permits begun = (begun.0, λ w low. begun_receipt floor w _ _ _ (begun.1 w no_receipt low))

-- a permit of the same worker, boxes and phase is such, too
still_receipt : (floor : FloorState) (w : ℕ) (old new : WorkerState) → IsReceipt floor w old → new.key.boxes ≡ old.key.boxes → new.key.worker ≡ old.key.worker
    → new.opening ≡ old.opening → new.journal.phase ≡ old.journal.phase → new.begun ≡ old.begun
    → stocks_of new.slices ≡ stocks_of old.slices → IsReceipt floor w new
still_receipt floor w old new was boxes worker opening phase begun stocks = record {
  boxes_are = boxes ∙ was.boxes_are;
  worker_is = worker ∙ was.worker_is;
  opening_is = opening ∙ was.opening_is;
  phase_is = phase ∙ was.phase_is;
  stocks_are = stocks ∙ was.stocks_are;
  begun = begun ∙ was.begun;
}

module _ (initial : List ShardState) (floor : FloorState) (w : ℕ) (old new : WorkerState) (was : IsReceipt floor w old) (request : Request) (index : ℕ) where
  pub committed : (answer : Reply) → HasCommitted initial (with_try old) new request index answer → IsReceipt floor w new
  committed answer h =
      still_receipt floor w old new was h.transacted.put.boxes h.transacted.put.worker (ap (λ (d : WorkerState). d.opening) h.worker) (ap (λ (d : WorkerState). d.journal.phase) h.worker) (ap (λ (d : WorkerState). d.begun) h.worker)
      (ap (λ (d : WorkerState). stocks_of d.slices) h.worker ∙ stocks-acts old.slices (writes_if (row_of old.journal.worker request answer)))

  pub dealt : (done : Done) → HasDealtWith initial (with_try old) new request index done → IsReceipt floor w new
  dealt (Committed answer) h = committed answer h
  dealt Stashed h =
      still_receipt floor w old new was (ap (λ (d : WorkerState). d.key.boxes) h.worker) (ap (λ (d : WorkerState). d.key.worker) h.worker) (ap (λ (d : WorkerState). d.opening) h.worker) (ap (λ (d : WorkerState). d.journal.phase) h.worker) (ap (λ (d : WorkerState). d.begun) h.worker)
      (ap (λ (d : WorkerState). stocks_of d.slices) h.worker)

-- the permit whose call failed
pub failed : {initial : List ShardState} {floor : FloorState} {w : ℕ} {old new : WorkerState} {request : Request} {fault : PermitFault} → IsReceipt floor w old
    → HasFailed initial (with_try old) new request fault → IsReceipt floor w new
failed {initial} {floor} {w} {old} {new} was is =
    still_receipt floor w old new was is.lines.boxes is.lines.worker (ap (λ (d : WorkerState). d.opening) is.worker) (ap (λ (d : WorkerState). d.journal.phase) is.worker) (ap (λ (d : WorkerState). d.begun) is.worker)
    (ap (λ (d : WorkerState). stocks_of d.slices) is.worker)

pub failed_first : {initial : List ShardState} {floor : FloorState} {w : ℕ} {old new : WorkerState} {fault : PermitFault} → IsReceipt floor w old
    → HasFailedFirst initial (with_try old) new fault → IsReceipt floor w new
failed_first was is = failed was is.failed

-- the permit that has performed what waited longest, if anything did
pub performed_first : (initial : List ShardState) (floor : FloorState) (w : ℕ) (old new : WorkerState) → IsReceipt floor w old → (answer : Option Reply)
    → IfNone answer (new ≡ with_try old) → IfSome answer (HasPerformedFirst initial (with_try old) new) → IsReceipt floor w new
performed_first initial floor w old new was None unchanged done = subst (IsReceipt floor w) (sym unchanged) (still_receipt floor w old (with_try old) was refl refl refl refl refl refl)
performed_first initial floor w old new was (Some answer) unchanged done =
    committed initial floor w (with_first_unstashed old) new (still_receipt floor w old (with_first_unstashed old) was refl refl refl refl refl refl) done.request done.index answer done.committed
