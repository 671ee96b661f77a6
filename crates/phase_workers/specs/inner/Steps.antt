-- What one call of a worker leaves of its permit.
use Rattle.std.specs.Prelude.{ℕ, ◌≡◌, ◌≤◌, ◌+◌, ◌-◌, Bool, [], ◌∷◌, ◌++◌, take, drop}
use Rattle.auction_rows.specs.declared.requests.Request.{Request}
use Rattle.phase_transactions.specs.Workers.{WorkerState}
use Rattle.phase_workers.specs.Working.{committed, stashed, taken, still_waiting, hot_for, put_off, not_put_off, IsSamePermit}

-- Of what is taken of the stash the call that waited longest, if any, is committed: it is not to be
-- put off.
pub record HasPerformedWaiting (takes : Bool) (old new : WorkerState) : Type 0 where
  pub same : IsSamePermit old new
  pub goes : put_off (hot_for old) (take 1 (taken takes old)) ≡ []
  pub calls : committed new ≡ committed old ++ take 1 (taken takes old)
  pub stash : stashed new ≡ still_waiting takes old ++ drop 1 (taken takes old)
  pub left : new.left ≡ old.left
  pub tries : new.tries ≤ old.tries + 1

-- The next call of the quota is committed, or waits behind the others where it is put off.
pub record HasDealtWithNext (call : ℕ × Request) (old new : WorkerState) : Type 0 where
  pub same : IsSamePermit old new
  pub calls : committed new ≡ committed old ++ not_put_off (hot_for old) (call ∷ [])
  pub stash : stashed new ≡ stashed old ++ put_off (hot_for old) (call ∷ [])
  pub left : new.left ≡ old.left - 1
  pub tries : new.tries ≡ old.tries + 1
