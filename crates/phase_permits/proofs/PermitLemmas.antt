-- What a permit does with a request leaves it explained by its transactions.
use Rattle.std.proofs.Common.{◌≡◌, ℕ, Bool, true, false, List, [], ◌∷◌, length, Result, Ok, Err, refl, sym, ap, subst, ◌∙◌}
use Rattle.std.proofs.lemmas.Bool.{false≢true}
use Rattle.auction_rows.specs.{History.{rows_of}, Replies.{row_of}}
use Rattle.auction_rows.specs.declared.requests.Request.TheVariants.{StoreItem}
use Rattle.auction_rows.specs.declared.{requests.Object.Object, requests.Request.Request, replies.Reply.Reply}
use Rattle.item_shards.specs.{Events.{Event, Look}, Writing.{writes_if}}
use Rattle.shard_boxes.specs.States.{ShardState}
use Rattle.phase_transactions.specs.Performing.{HasCommitted, HasFailed, HasPerformed}
use Rattle.phase_transactions.specs.Txns.{Setting, is_put_off}
use Rattle.phase_transactions.specs.Workers.{WorkerState, CanStart, IsExplained, setting_of, txn_of, work_of, after_putting_off, with_first_unstashed, with_try}
use Rattle.phase_permits.specs.Kinds.{IsEmptyIf}
use Rattle.phase_transactions.specs.Works.{Work, IsWorkOf, with_txn}
use Rattle.phase_transactions.specs.declared.fault.PermitFault.{PermitFault}
use Rattle.worker_slices.proofs.StockLemmas.{stocks-acts}
use Rattle.worker_slices.specs.Slicing.{hot_objects, stocks_of, slices_of, slices_after_acts}
use Rattle.worker_slices.specs.declared.slices.Hot.{Hot}
use Rattle.phase_permits.{proofs.Keeping.{commit_keeps}, specs.inner.Permits.{IsPermit}}

-- a worker that starts has done nothing
pub start_explained : (shards : ℕ) (w : WorkerState) → CanStart w → w.begun ≡ (w.counters, w.clock) → IsExplained shards w
start_explained shards w can begun = record {
  worker = can.worker;
  idle = λ t. (can.key t).0;
  work = subst (λ (v : WorkerState). IsWorkOf (setting_of w shards) w.key.worker (work_of v)) (λ i. record w { begun = sym begun i }) (record {
    txns = [];
    explained = record {
      own = tt;
      entries = can.empty;
      lines = λ t. (can.key t).1;
      clocked = refl;
      counts = refl;
      numbered = tt;
      answered = tt;
      sliced = can.identities ∙ ap (λ entries. slices_of (stocks_of w.slices) (rows_of entries)) (sym can.empty);
    };
  });
}

-- a commit leaves it explained
pub commit_explained : (initial : List ShardState) (old new : WorkerState) (request : Request) (index : ℕ) (answer : Reply) → HasCommitted initial old new request index answer
    → IsExplained (length initial) old → IsExplained (length initial) new
commit_explained initial old new request index answer done is =
    let shards = length initial in let z = setting_of old shards in
    let txn = txn_of old done.number request index answer done.found in let work = work_of old in
    let put = done.transacted.put in
    let kept = commit_keeps z old.key.worker work txn is.work (record { own = is.worker; numbered = done.transacted.numbered; answered = done.transacted.answered }) in
    let d = sym done.worker in
    let same : with_txn z work txn ≡ work_of new = λ i. record (work_of (d i)) { lines = λ t. sym (put.lines t) i } in
    let stays : z ≡ setting_of new shards = λ i. record {
      opening = (d i).opening;
      shards = shards;
      stocks = sym (ap (λ (w : WorkerState). stocks_of w.slices) done.worker ∙ stocks-acts old.slices (writes_if (row_of old.journal.worker request answer))) i;
    } in record {
      worker = ap (λ (w : WorkerState). w.journal.worker) done.worker ∙ is.worker ∙ sym put.worker;
      idle = put.idle;
      work = subst (λ (n : ℕ). IsWorkOf (setting_of new shards) n (work_of new)) (sym put.worker)
          (subst (λ (setting : Setting). IsWorkOf setting old.key.worker (work_of new)) stays (subst (λ (did : Work). IsWorkOf z old.key.worker did) same kept));
    }

-- so does a fault
fail_explained : (initial : List ShardState) (shards : ℕ) (old new : WorkerState) (request : Request) (fault : PermitFault) → HasFailed initial old new request fault → IsExplained shards old → IsExplained shards new
fail_explained initial shards old new request fault failed is =
    let owner : old.key.worker ≡ new.key.worker = sym failed.lines.worker in
    let back : WorkerState = record old { key = new.key } in
    let same : work_of old ≡ work_of back = λ i. record (work_of old) { lines = λ t. sym (failed.lines.lines t) i } in
    subst (IsExplained shards) (sym failed.worker) (record {
      worker = is.worker ∙ owner;
      idle = failed.idle;
      work = subst (λ (n : ℕ). IsWorkOf (setting_of old shards) n (work_of back)) owner (subst (λ (did : Work). IsWorkOf (setting_of old shards) old.key.worker did) same is.work);
    })

performed_explained : (initial : List ShardState) (old new : WorkerState) (request : Request) (index : ℕ) (result : Result Unit PermitFault) → HasPerformed initial old new request index result → IsExplained (length initial) old → IsExplained (length initial) new
performed_explained initial old new request index (Ok done) performed is = commit_explained initial old new request index performed.0 performed.1 is
performed_explained initial old new request index (Err fault) failed is = fail_explained initial (length initial) old new request fault failed is

-- where nothing is hot, no request is put off, and no slice is written
pub none_put_off : (request : Request) → is_put_off [] request ≡ false
none_put_off (StoreItem facts time) = refl
none_put_off request = refl

no_slices : (acts : List Event) → slices_after_acts [] acts ≡ []
no_slices [] = refl
no_slices (Look shown ∷ acts) = no_slices acts
no_slices (act ∷ acts) = no_slices acts

kind_stays : (joined : Bool) (initial : List ShardState) (old new : WorkerState) (request : Request) (index : ℕ) (result : Result Unit PermitFault) → HasPerformed initial old new request index result → IsEmptyIf joined old.slices → IsEmptyIf joined new.slices
kind_stays false initial old new request index result performed cold = tt
kind_stays true initial old new request index (Ok done) performed cold =
    let acts = writes_if (row_of old.journal.worker request performed.0) in
    ap (λ (w : WorkerState). w.slices) performed.1.worker ∙ ap (λ hots. slices_after_acts hots acts) cold ∙ no_slices acts
kind_stays true initial old new request index (Err fault) failed cold = ap (λ (w : WorkerState). w.slices) failed.worker ∙ cold

pub not_put_off : (joined : Bool) (hots : List (Object × Hot)) (request : Request) → IsEmptyIf joined hots → joined ≡ true → is_put_off (hot_objects hots) request ≡ false
not_put_off true hots request cold is = ap (λ (hots : List (Object × Hot)). is_put_off (hot_objects hots) request) cold ∙ none_put_off request
not_put_off false hots request cold is = absurd (false≢true is)

-- so a permit stays one
module _ (joined : Bool) (shards : ℕ) (w : WorkerState) where
  pub tried_permit : IsPermit joined shards w → IsPermit joined shards (with_try w)
  tried_permit is = (is.0, record { worker = is.1.worker; idle = is.1.idle; work = is.1.work })

  pub off_permit : (index : ℕ) (request : Request) → IsPermit joined shards w → IsPermit joined shards (after_putting_off w index request)
  off_permit index request is = (is.0, record { worker = is.1.worker; idle = is.1.idle; work = is.1.work })

  pub called_permit : IsPermit joined shards w → IsPermit joined shards (with_first_unstashed w)
  called_permit is = (is.0, record { worker = is.1.worker; idle = is.1.idle; work = is.1.work })

  pub back_permit : IsPermit joined shards (with_first_unstashed w) → IsPermit joined shards w
  back_permit is = (is.0, record { worker = is.1.worker; idle = is.1.idle; work = is.1.work })

pub performed_permit : (joined : Bool) (initial : List ShardState) (old new : WorkerState) (request : Request) (index : ℕ) (result : Result Unit PermitFault) → HasPerformed initial old new request index result
    → IsPermit joined (length initial) old → IsPermit joined (length initial) new
performed_permit joined initial old new request index result performed is =
    (kind_stays joined initial old new request index result performed is.0, performed_explained initial old new request index result performed is.1)
