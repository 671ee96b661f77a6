-- What a permit is for stays, whatever it answers.
use Rattle.std.proofs.Common.{◌≡◌, ℕ, List, Option, Some, None, Result, Ok, Err, sym, ap, subst, ◌∙◌}
use Rattle.std.specs.Prelude.{IfOk, IfErr, IfSome, IfNone}
use Rattle.auction_rows.specs.declared.{requests.Request.Request, replies.Reply.Reply}
use Rattle.phase_transactions.specs.Performing.{HasFailed, HasCommitted, HaveOpening}
use Rattle.phase_permits.specs.Dealing.{HasPerformedFirst, HasFailedFirst}
use Rattle.phase_transactions.specs.Workers.{WorkerState, with_try}
use Rattle.phase_transactions.specs.declared.fault.PermitFault.{PermitFault}
use Rattle.shard_boxes.specs.{Keys.{BoxId}, States.{ShardState}}
use Rattle.phase_tests.specs.Permits.{IsPermitFor}

-- for the same boxes, users and categories, and the same worker
abbrev pub IsStill : WorkerState → WorkerState → Type 0
IsStill old new = (new.key.boxes ≡ old.key.boxes) × (new.opening ≡ old.opening) × (new.key.worker ≡ old.key.worker)

pub still_for : {initial : List ShardState} {boxes : List BoxId} {old new : WorkerState} → IsStill old new → IsPermitFor initial boxes old → IsPermitFor initial boxes new
still_for {initial} still was = record { of = still.0 ∙ was.of; users = subst (HaveOpening initial) (sym still.1) was.users }

module _ (initial : List ShardState) (old new : WorkerState) where
  pub performed : (request : Request) (index : ℕ) (answer : Result Reply PermitFault) → IfOk answer (λ reply. HasCommitted initial (with_try old) new request index reply)
      → IfErr answer (HasFailed initial (with_try old) new request) → IsStill old new
  performed request index (Ok reply) done failed = (done.transacted.put.boxes, ap (λ (d : WorkerState). d.opening) done.worker, done.transacted.put.worker)
  performed request index (Err fault) done failed = (failed.lines.boxes, ap (λ (s : WorkerState). s.opening) failed.worker, failed.lines.worker)

  pub performed_first : (answer : Result (Option Reply) PermitFault) → IfOk answer (λ some. IfNone some (new ≡ with_try old))
      → IfOk answer (λ some. IfSome some (HasPerformedFirst initial (with_try old) new)) → IfErr answer (HasFailedFirst initial (with_try old) new) → IsStill old new
  performed_first (Ok None) none done failed = (ap (λ (p : WorkerState). p.key.boxes) none, ap (λ (p : WorkerState). p.opening) none, ap (λ (p : WorkerState). p.key.worker) none)
  performed_first (Ok (Some reply)) none done failed = (done.committed.transacted.put.boxes, ap (λ (d : WorkerState). d.opening) done.committed.worker, done.committed.transacted.put.worker)
  performed_first (Err fault) none done failed = (failed.failed.lines.boxes, ap (λ (s : WorkerState). s.opening) failed.failed.worker, failed.failed.lines.worker)

  pub stored : (request : Request) (index : ℕ) (answer : Option Reply) → IfNone answer (new ≡ old) → IfSome answer (HasCommitted initial old new request index) → IsStill old new
  stored request index None none done = (ap (λ (p : WorkerState). p.key.boxes) none, ap (λ (p : WorkerState). p.opening) none, ap (λ (p : WorkerState). p.key.worker) none)
  stored request index (Some reply) none done = (done.transacted.put.boxes, ap (λ (d : WorkerState). d.opening) done.worker, done.transacted.put.worker)
