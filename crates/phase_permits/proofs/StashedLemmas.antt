-- The first stashed request, taken out of the stash and put back.
use Rattle.std.proofs.Common.{◌≡◌, ℕ, ◌+◌, ◌<◌, List, [], ◌∷◌, ◌++◌, Some, None, length, take, drop, refl, sym, ap, subst, ◌∙◌, arith}
use Rattle.std.{proofs.lemmas.List.{same_from_push}, specs.Prelude.{slice_get}}
use Rattle.auction_rows.specs.declared.requests.Request.{Request}
use Rattle.shard_boxes.specs.{Keys.{KeyState, seat_at}, States.{ShardState}}
use Rattle.phase_transactions.specs.Performing.{HasCommitted, HasCommittedSome, HasFailed, IsCause}
use Rattle.phase_permits.specs.Dealing.{HasFailedFirst, HasPerformedFirstSome}
use Rattle.phase_transactions.specs.Putting.{HasSameLines}
use Rattle.phase_transactions.specs.Workers.{WorkerState, IsIdle, with_first_unstashed, with_try}
use Rattle.phase_transactions.specs.declared.fault.PermitFault.{PermitFault}
use Rattle.phase_transactions.specs.declared.fault.PermitFault.TheVariants.{Memory, NumberFull}

-- where there is no first, there is none
pub no_first : {A : Type 0} (items : List A) → None ≡ slice_get items 0 → items ≡ []
no_first [] is = refl
no_first (item ∷ items) is = absurd (cc)

same_stash : (one other : List (ℕ × Request)) (done done' : List (ℕ × Request)) → 0 < length one → 0 < length other → drop 1 one ≡ drop 1 other → done ++ take 1 one ≡ done' ++ take 1 other
    → (one ≡ other) × (done ≡ done')
same_stash [] other done done' some some' rest taken = absurd (omega (arith, some))
same_stash (item ∷ items) [] done done' some some' rest taken = absurd (omega (arith, some'))
same_stash (item ∷ items) (other ∷ others) done done' some some' rest taken =
    let same = same_from_push done done' item other taken in
    (λ i. same.1 i ∷ rest i, same.0)

-- so a worker is known by what it is after its first request is taken out of the stash
before_calling : (one other : WorkerState) → 0 < length one.stash.requests → 0 < length other.stash.requests → with_first_unstashed one ≡ with_first_unstashed other → one ≡ other
before_calling one other some some' e =
    let stash = same_stash one.stash.requests other.stash.requests one.stash.done other.stash.done some some'
    (ap (λ (w : WorkerState). w.stash.requests) e) (ap (λ (w : WorkerState). w.stash.done) e) in
    let plus : one.left + 1 ≡ other.left + 1 = ap (λ (w : WorkerState). w.left) e in
    let left : one.left ≡ other.left = omega (arith, plus) in
    λ i. record (e i) { stash = record { requests = stash.0 i; done = stash.1 i; room = (e i).stash.room }; left = left i }

-- a request that was taken out of the stash, not performed and put back is the first as before
same_cause : (initial : List ShardState) (old : WorkerState) (key : KeyState) (request : Request) (fault : PermitFault) → IsCause initial (with_first_unstashed old) key request fault → IsCause initial old key request fault
same_cause initial old key request Memory is = is
same_cause initial old key request NumberFull is = is

pub failed_first : (initial : List ShardState) (old new back : WorkerState) (index : ℕ) (request : Request) (fault : PermitFault)
    → Some (index, request) ≡ slice_get old.stash.requests 0 → 0 < length old.stash.requests → HasFailed initial (with_first_unstashed old) new request fault
    → new ≡ with_first_unstashed back → 0 < length back.stash.requests → HasFailedFirst initial old back fault
failed_first initial old new back index request fault first some failed before some' =
    let same : with_first_unstashed back ≡ with_first_unstashed (record old { key = back.key }) =
    sym before ∙ failed.worker ∙ (λ i. record (with_first_unstashed old) { key = (before i).key }) in
    let is : back ≡ record old { key = back.key } = before_calling back (record old { key = back.key }) some' some same in
    let key : new.key ≡ back.key = ap (λ (w : WorkerState). w.key) before in record {
      index = index;
      request = request;
      first = sym first;
      failed = record {
        worker = is;
        lines = subst (HasSameLines old.key) key failed.lines;
        others = λ t left. ap (λ (k : KeyState). seat_at k t) (sym key) ∙ failed.others t left;
        idle = subst IsIdle key failed.idle;
        not_put_off = failed.not_put_off;
        cause = subst (λ (k : KeyState). IsCause initial old k request fault) key (same_cause initial old new.key request fault failed.cause);
      };
    }

-- and one that was performed was the first
pub performed_first : (initial : List ShardState) (old called new : WorkerState) (index : ℕ) (request : Request) → Some (index, request) ≡ slice_get old.stash.requests 0 → called ≡ with_first_unstashed old
    → HasCommittedSome initial (with_try called) new request index → HasPerformedFirstSome initial (with_try old) new
performed_first initial old called new index request first is done = (
  done.0,
  record {
    index = index;
    request = request;
    first = sym first;
    committed = subst (λ (w : WorkerState). HasCommitted initial (with_try w) new request index done.0) is done.1;
  },
)
