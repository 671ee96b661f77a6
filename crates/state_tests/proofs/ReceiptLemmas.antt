-- Receipts of workers, in order.
use Rattle.std.proofs.Common.{◌≡◌, ℕ, suc, ◌+◌, ◌<◌, ◌≤◌, Bool, true, false, List, [], ◌∷◌, ◌++◌, length, Result, Ok, Err, sym, subst, arith}
use Rattle.std.specs.Prelude.{IfOk, IfErr}
use Rattle.auction_rows.specs.declared.requests.Request.{Request}
use Rattle.shard_boxes.{proofs.Each.{each_push}, specs.States.{ShardState}}
use Rattle.closing_laws.specs.Phases.{no_receipt, receipt_at}
use Rattle.phase_permits.specs.Dealing.{HasDealt}
use Rattle.phase_transactions.specs.Performing.{HasFailed}
use Rattle.phase_transactions.specs.Workers.{WorkerState, with_try}
use Rattle.phase_permits.specs.declared.done.Done.TheVariants.{Stashed}
use Rattle.phase_transactions.specs.declared.fault.PermitFault.{PermitFault}
use Rattle.phase_floor.proofs.Receipts.{committed, dealt, failed}
use Rattle.phase_floor.specs.{Closings.{IsReceipt, AreReceiptsOf}, Floors.{FloorState}}

-- the receipts that are given and the permits that are left are the workers', in order
pub record AreInTurn (floor : FloorState) (given capacity left : ℕ) (receipts permits : List WorkerState) : Type 0 where
  pub workers : given + left ≡ length floor.counters
  pub room : length floor.counters ≤ capacity
  pub first : (w : ℕ) → w < given → IsReceipt floor w (receipt_at receipts w)
  pub others : (w : ℕ) → w < left → IsReceipt floor (given + w) (receipt_at permits w)

pub none_given : {floor : FloorState} {given capacity left : ℕ} {receipts all permits : List WorkerState} → given ≡ 0 → AreReceiptsOf floor all → permits ≡ all
    → left ≡ length all → length all ≤ capacity → AreInTurn floor given capacity left receipts permits
none_given {floor} {given} {permits} none are is long room = record {
  workers = omega (arith, none, long, are.0);
  room = omega (arith, room, are.0);
  first = λ w low. absurd (omega (arith, none, low));
  others = λ w low.
      let here : w ≡ given + w = omega (arith, none) in
      subst (λ n. IsReceipt floor n (receipt_at permits w)) here
      (subst (λ ps. IsReceipt floor w (receipt_at ps w)) (sym is) (are.1 w (omega (arith, low, long, are.0))));
}

pub next_is : {floor : FloorState} {given capacity left worker : ℕ} {receipts permits others : List WorkerState} {permit : WorkerState}
    → AreInTurn floor given capacity left receipts permits → permits ≡ permit ∷ others → 0 < left → worker ≡ given → IsReceipt floor worker permit
next_is {floor} {given} {worker} {permit} are is fewer number =
    let here : given + 0 ≡ worker = omega (arith, number) in
    subst (λ n. IsReceipt floor n permit) here (subst (λ ps. IsReceipt floor (given + 0) (receipt_at ps 0)) is (are.others 0 fewer))

pub one_more_given : {floor : FloorState} {given capacity left given1 capacity1 rest worker : ℕ} {receipts permits receipts1 others : List WorkerState} {permit receipt : WorkerState}
    → AreInTurn floor given capacity left receipts permits → length receipts ≡ given → permits ≡ permit ∷ others → left ≡ suc rest → worker ≡ given → IsReceipt floor worker receipt
    → receipts1 ≡ receipts ++ receipt ∷ [] → given1 ≡ suc given → capacity1 ≡ capacity → AreInTurn floor given1 capacity1 rest receipts1 others
one_more_given {floor} {given} {given1} {receipts} {receipts1} {others} {receipt} are many is fewer number its grown more room = record {
  workers = omega (arith, more, fewer, are.workers);
  room = omega (arith, room, are.room);
  first = λ w low.
      each_push (IsReceipt floor) receipts receipts1 receipt no_receipt given many grown are.first (subst (λ n. IsReceipt floor n receipt) number its) w (omega (arith, low, more));
  others = λ w low.
      let here : given + suc w ≡ given1 + w = omega (arith, more) in
      subst (λ n. IsReceipt floor n (receipt_at others w)) here
      (subst (λ ps. IsReceipt floor (given + suc w) (receipt_at ps (suc w))) is (are.others (suc w) (omega (arith, low, fewer))));
}

-- a permit is its worker's whatever it answers
module _ (initial : List ShardState) (floor : FloorState) (w : ℕ) (old new : WorkerState) (was : IsReceipt floor w old) (request : Request) (index : ℕ) where
  pub performed : (answer : Result Bool PermitFault) → IfOk answer (HasDealt initial (with_try old) new request index)
      → IfErr answer (HasFailed initial (with_try old) new request) → IsReceipt floor w new
  performed (Ok true) done fails = committed initial floor w old new was request index done.0 done.1
  performed (Ok false) done fails = dealt initial floor w old new was request index Stashed done
  performed (Err fault) done fails = failed was fails
