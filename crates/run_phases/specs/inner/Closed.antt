-- What a phase of a run leaves.
use Rattle.std.specs.Prelude.{◌≡◌, ℕ, suc, ◌+◌, ◌<◌, List, ◌++◌, length}
use Rattle.auction_rows.specs.Phases.{IsNumbered}
use Rattle.auction_rows.specs.declared.{limits.Policy.Policy, requests.Object.Object, requests.Request.Request, rows.Entry.Entry}
use Rattle.worker_slices.specs.Stashes.{StashState}
use Rattle.closing_laws.specs.Standing.{counters_at}
use Rattle.phase_floor.specs.States.{JoinedState, StandsFor}
use Rattle.worker_journals.specs.Merged.{added, merged}
use Rattle.run_laws.specs.{Books.{ReplaysOn}, Run.{IsPhasePerformed, calls_of}}
use Rattle.run_phases.specs.{declared.phase.Running.{Running}, inner.Plans.{waiting_in}}

-- The next phase of a state was performed, with these stashes and hot objects, and has closed with
-- these entries: it leaves the next state, and these stashes.
pub record HasClosedPhase (policy : Policy) (scripts : List (List Request)) (state : JoinedState)
    (stashes : List StashState) (hot : List Object) (entries : List Entry) (next : JoinedState)
    (left : List StashState) : Type 0 where
  -- each worker has performed what it was given, and what waits is in the stashes left
  pub performed : IsPhasePerformed policy scripts state.phase hot (waiting_in stashes)
      (waiting_in left) entries
  -- the entries are numbered
  pub numbered : IsNumbered state.opening policy.shards hot entries
  -- they replay from each book for which the state stood
  pub replays : ReplaysOn state.opening entries (StandsFor state) (StandsFor next)
  -- what is left is the next phase's
  pub phase_is : next.phase ≡ suc state.phase
  pub opening_is : next.opening ≡ state.opening
  pub limit_is : next.limit ≡ state.limit
  pub shards_are : length next.shards ≡ length state.shards
  pub workers_are : length next.counters ≡ length state.counters
  pub stashes_are : length left ≡ length state.counters
  -- each worker committed as much more as it has entries
  pub commits : (worker : ℕ) → worker < length state.counters →
      (counters_at next.counters worker).commits
      ≡ (counters_at state.counters worker).commits + length (calls_of worker entries)

-- The next phase of a run was performed, with these hot objects: what the run knows before it, and
-- then.
pub record HasPerformedPhase (policy : Policy) (scripts : List (List Request)) (hot : List Object)
    (old new : Running) : Type 0 where
  -- entries were added at the end of the history
  pub history : new.history.entries
      ≡ old.history.entries ++ added old.history.entries new.history.entries
  -- they are all that its journals have, merged
  pub last : merged new.history.last ≡ added old.history.entries new.history.entries
  -- with them the phase has closed
  pub closed : HasClosedPhase policy scripts old.state old.stashes.items hot
      (added old.history.entries new.history.entries) new.state new.stashes.items
  -- the hot sets are those of the phases before
  pub sets_are : new.hot.items ≡ old.hot.items
