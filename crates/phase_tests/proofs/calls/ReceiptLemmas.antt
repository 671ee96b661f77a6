-- The permit and the one receipt of a phase of one worker.
use Rattle.std.proofs.Common.{◌≡◌, ℕ, zero, suc, ◌<◌, List, [], ◌∷◌, length, get_or, Result, Ok, Err, sym, subst, arith}
use Rattle.std.specs.Prelude.{IfOk, IfErr}
use Rattle.auction_rows.specs.declared.{requests.Request.Request, replies.Reply.Reply}
use Rattle.shard_boxes.specs.States.{ShardState}
use Rattle.phase_transactions.specs.Performing.{HasCommitted, HasFailed}
use Rattle.phase_permits.specs.Dealing.{HasDealtWith}
use Rattle.phase_transactions.specs.Workers.{WorkerState, with_try}
use Rattle.phase_permits.specs.declared.done.Done.{Done}
use Rattle.phase_transactions.specs.declared.fault.PermitFault.{PermitFault}
use Rattle.phase_floor.proofs.Receipts.{committed, dealt, failed}
use Rattle.phase_floor.specs.{Closings.{AreReceiptsOf, IsReceipt}, Floors.{FloorState}}

pub only_receipt : {floor : FloorState} {receipt : WorkerState} {receipts : List WorkerState} → length floor.counters ≡ 1 → receipts ≡ receipt ∷ [] → IsReceipt floor 0 receipt → AreReceiptsOf floor receipts
only_receipt {floor} {receipt} one is its = subst (AreReceiptsOf floor) (sym is) (sym one, λ w below. at _ w (subst (λ n. w < n) one below)) where
  at : (none : WorkerState) (w : ℕ) → w < 1 → IsReceipt floor w (get_or (receipt ∷ []) w none)
  at none zero less = its
  at none (suc w) less = absurd (omega (arith, less))

-- a permit is its worker's whatever it answers
module _ (initial : List ShardState) (floor : FloorState) (old new : WorkerState) (was : IsReceipt floor 0 old) (request : Request) (index : ℕ) where
  pub performed : (answer : Result Reply PermitFault) → IfOk answer (λ reply. HasCommitted initial (with_try old) new request index reply)
      → IfErr answer (HasFailed initial (with_try old) new request) → IsReceipt floor 0 new
  performed (Ok reply) done fails = committed initial floor 0 old new was request index reply done
  performed (Err fault) done fails = failed was fails

  pub dealt_with : (answer : Result Done PermitFault) → IfOk answer (HasDealtWith initial (with_try old) new request index)
      → IfErr answer (HasFailed initial (with_try old) new request) → IsReceipt floor 0 new
  dealt_with (Ok done) is fails = dealt initial floor 0 old new was request index done is
  dealt_with (Err fault) is fails = failed was fails
