-- What a worker does in a phase: which calls its permit has committed, and which wait.
use Rattle.std.specs.List.{filter, AllByRecursion}
use Rattle.std.specs.Prelude.{ℕ, suc, ◌≡◌, ◌≤◌, ◌+◌, Bool, cond, not, List, [], ◌∷◌, ◌++◌, length, map, take, drop, ⊤}
use Rattle.auction_rows.specs.Phases.{is_put_off}
use Rattle.auction_rows.specs.declared.requests.{Object.Object, Request.Request}
use Rattle.shard_boxes.specs.States.{ShardState}
use Rattle.worker_slices.specs.Slicing.{hot_objects, stocks_of}
use Rattle.phase_transactions.specs.{Performing.{IsCause}, Workers.{WorkerState}}
use Rattle.phase_transactions.specs.declared.fault.PermitFault.{PermitFault}
use Rattle.run_laws.specs.{Serving.{call_of}, Turns.{numbered}}

-- so many calls of a script, from an index on
abbrev pub calls_from : ℕ → ℕ → List Request → List (ℕ × Request)
calls_from first count script = take count (drop first (numbered 0 script))

-- the calls that a permit has committed
abbrev pub committed : WorkerState → List (ℕ × Request)
committed permit = map call_of permit.journal.entries

-- the calls that wait in its stash
abbrev pub stashed : WorkerState → List (ℕ × Request)
stashed permit = permit.stash.requests

-- what of its stash is performed in a phase: all, if the phase takes stashes
abbrev pub taken : Bool → WorkerState → List (ℕ × Request)
taken takes permit = cond takes (stashed permit) []

-- what of its stash is not performed in a phase
abbrev pub still_waiting : Bool → WorkerState → List (ℕ × Request)
still_waiting takes permit = cond takes [] (stashed permit)

-- the objects that are hot for it
abbrev pub hot_for : WorkerState → List Object
hot_for permit = hot_objects permit.slices

-- of these calls the ones that are put off while these objects are hot
abbrev pub put_off : List Object → List (ℕ × Request) → List (ℕ × Request)
put_off hot calls = filter (λ call. is_put_off hot call.1) calls

-- of these calls the ones that are not put off
abbrev pub not_put_off : List Object → List (ℕ × Request) → List (ℕ × Request)
not_put_off hot calls = filter (λ call. not (is_put_off hot call.1)) calls

-- the permit is of this phase and this worker
pub record IsPermitOf (phase worker : ℕ) (permit : WorkerState) : Type 0 where
  pub phase_is : permit.journal.phase ≡ phase
  pub worker_is : permit.key.worker ≡ worker

-- permits of this phase, of the workers from this one on
abbrev pub ArePermitsOf : ℕ → ℕ → List WorkerState → Type 0
ArePermitsOf phase worker [] = ⊤
ArePermitsOf phase worker (permit ∷ more) =
    IsPermitOf phase worker permit × ArePermitsOf phase (suc worker) more

-- a permit's entries are of its journal's phase
abbrev pub AreOfPhase : WorkerState → Type 0
AreOfPhase permit = AllByRecursion (λ e. e.phase ≡ permit.journal.phase) permit.journal.entries

-- What a permit is of (boxes, worker, phase, users and categories, hot objects) is unchanged, as is
-- its journal's room, and entries that are added are of its phase.
pub record IsSamePermit (old new : WorkerState) : Type 0 where
  pub boxes : new.key.boxes ≡ old.key.boxes
  pub worker : new.key.worker ≡ old.key.worker
  pub opening : new.opening ≡ old.opening
  pub begun : new.begun ≡ old.begun
  pub phase : new.journal.phase ≡ old.journal.phase
  pub writer : new.journal.worker ≡ old.journal.worker
  pub room : new.journal.room ≡ old.journal.room
  pub hot : hot_for new ≡ hot_for old
  pub stocks : stocks_of new.slices ≡ stocks_of old.slices
  pub own : AreOfPhase old → AreOfPhase new

-- What a phase takes of the stash is committed, the call that waited longest first: it is not to be
-- put off.
pub record HasPerformedStash (takes : Bool) (old new : WorkerState) : Type 0 where
  -- what the permit is of is unchanged
  pub same : IsSamePermit old new
  -- none of what was taken is to be put off
  pub go : put_off (hot_for old) (taken takes old) ≡ []
  -- it was committed, in its order
  pub calls : committed new ≡ committed old ++ taken takes old
  -- what was not taken waits
  pub stash : stashed new ≡ still_waiting takes old
  -- the quota is as it was
  pub left : new.left ≡ old.left
  -- each call took one try at most
  pub tries : new.tries ≤ old.tries + length (taken takes old)

-- A permit has stopped at one of these calls, of which the first are those that are taken of its
-- stash, by its fault: of those before it, the ones that are not put off are committed, and the
-- others wait behind what it did not take of the stash or did not reach.
pub record HasStopped (takes : Bool) (initial : List ShardState) (calls : List (ℕ × Request))
    (old new : WorkerState) (fault : PermitFault) : Type 0 where
  -- what the permit is of is unchanged
  pub same : IsSamePermit old new
  -- the calls that were dealt with
  pub before : List (ℕ × Request)
  -- the one at which it stopped
  pub call : ℕ × Request
  -- those after it
  pub left : List (ℕ × Request)
  pub calls_are : calls ≡ before ++ call ∷ left
  -- of those before, what is not put off is committed
  pub done : committed new ≡ committed old ++ not_put_off (hot_for old) before
  -- in the stash waits what was not taken of it or not reached, and then what is put off
  pub waits : stashed new
      ≡ still_waiting takes old ++ drop (length before) (taken takes old)
      ++ put_off (hot_for old) before
  -- the fault has its cause at the call
  pub cause : IsCause initial new new.key call.1 fault
