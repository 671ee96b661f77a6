-- What a run knows between two phases.
use Rattle.std.specs.Prelude.{ℕ, suc, ◌+◌, ◌-◌, ◌<◌, ◌≤◌, ◌≡◌, ◌^◌, ◌++◌, min, List, length, drop}
use Rattle.auction_rows.specs.{Book.{Book}, History.{IsBook}}
use Rattle.auction_rows.specs.declared.{limits.Policy.Policy, values.Opening.Opening, requests.Request.Request}
use Rattle.item_shards.specs.OpeningRows.{rows_by}
use Rattle.closing_laws.specs.Standing.{counters_at}
use Rattle.phase_floor.specs.States.{StandsFor}
use Rattle.worker_journals.specs.Merged.{merged}
use Rattle.run_laws.specs.{Books.{HasReplayed}, Run.{HasRun, HasLeft, AreChosen, first_index}}
use Rattle.run_laws.specs.Serving.{script_of, segment_of, AreNumbered}
use Rattle.run_phases.specs.{Beginning.{AreShortFor, HasShards}, Phases.{hot_sets}}
use Rattle.run_phases.specs.{declared.phase.Running.{Running}, inner.Plans.{waiting_in, AreAsked}}

-- What a run from an opening book knows before a phase.
pub record IsRunning (opening : Opening) (rows : Book) (policy : Policy)
    (scripts : List (List Request)) (phase : ℕ) (running : Running) : Type 0 where
  -- the phases before this one are done
  pub run : HasRun policy scripts phase (hot_sets running.hot.items) running.history.entries
      (waiting_in running.stashes.items)
  -- their hot sets are the chosen ones
  pub chosen : AreChosen policy (hot_sets running.hot.items) running.history.entries
  -- the entries of each are numbered
  pub numbers : AreNumbered opening policy (hot_sets running.hot.items) running.history.entries
  -- the history replays, and the state stands for the book at its end
  pub replayed : HasReplayed opening rows running.history.entries (StandsFor running.state)
  -- state and stashes are this run's
  pub opening_is : running.state.opening ≡ opening
  pub phase_is : running.state.phase ≡ phase
  pub shards_are : length running.state.shards ≡ policy.shards
  pub workers_are : length running.state.counters ≡ length scripts
  pub stashes_are : length running.stashes.items ≡ length scripts
  -- what a worker committed and what waits are no more than its rows and what it was given of its
  -- script
  pub counted : (worker : ℕ) → worker < length scripts →
      (counters_at running.state.counters worker).commits
      + length (waiting_in running.stashes.items worker)
      ≤ rows_by rows worker + min (first_index policy phase) (length (script_of scripts worker))
  -- the entries of the phase before are the last of the history
  pub from : ℕ
  pub last_within : from ≤ length running.history.entries
  pub last_entries : drop from running.history.entries ≡ merged running.history.last
  pub last : drop from running.history.entries ≡ segment_of (phase - 1) running.history.entries

-- A run that can go on: it runs from some book, which is short together with the scripts.
pub record CanGoOn (policy : Policy) (scripts : List (List Request)) (running : Running)
    : Type 0 where
  pub opening : Opening
  pub rows : Book
  pub is_book : IsBook opening rows
  pub short : AreShortFor running.state.limit rows scripts
  pub running_is : IsRunning opening rows policy scripts running.state.phase running

-- A run of these scripts that has something left can perform its next phase.
pub record CanPerformNext (policy : Policy) (scripts : List (List Request)) (running : Running)
    : Type 0 where
  pub shards : HasShards policy
  pub quotas : 0 < policy.joined_quota + policy.split_quota
  pub counted : running.state.phase + 1 < 2 ^ 64
  pub goes_on : ¬ ¬ CanGoOn policy scripts running
  pub asked : AreAsked scripts running.stashes.items
  pub left : (worker : ℕ)
      × HasLeft policy scripts running.state.phase (waiting_in running.stashes.items) worker

-- It has performed one.
pub record HasPerformedNext (policy : Policy) (scripts : List (List Request))
    (running next : Running) : Type 0 where
  -- from whatever book it runs
  pub runs : (opening : Opening) (rows : Book) → IsBook opening rows →
      IsRunning opening rows policy scripts running.state.phase running →
      IsRunning opening rows policy scripts (suc running.state.phase) next
  -- its history has the entries of the phase at its end
  pub grown : next.history.entries ≡ running.history.entries ++ merged next.history.last
  -- what waits is still of the scripts
  pub asked : AreAsked scripts next.stashes.items
  pub limit : next.state.limit ≡ running.state.limit
