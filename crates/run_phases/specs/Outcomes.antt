-- The outcome of a run, and what its board has if it ends with a fault.
use Rattle.std.specs.Prelude.{ℕ, ◌≡◌, ◌-◌, ◌⊎◌, List, length}
use Rattle.auction_rows.specs.{Book.{Book}, History.{ReplaysFrom, book_after}}
use Rattle.auction_rows.specs.declared.{limits.Policy.Policy, values.Opening.Opening, requests.Object.Object, requests.Request.Request, rows.Row.Row, rows.Entry.Entry}
use Rattle.phase_floor.specs.States.{StandsFor}
use Rattle.run_laws.specs.{Run.{AreChosen, HasRun}, Serving.{AreNumbered, Serves, segment_of}}
use Rattle.worker_journals.specs.Merged.{merged}
use Rattle.phase_boards.specs.Boards.{book_of}
use Rattle.run_phases.specs.{Boards.{HasShownAfter}, Phases.{hot_sets}}
use Rattle.run_phases.specs.declared.{course.Outcome.{Outcome}, faults.RunFault.{RunFault}}
use Rattle.run_phases.specs.declared.faults.RunFault.TheVariants.{Memory}

-- The outcome of a run of these scripts, from an opening book on.
pub record IsOutcome (opening : Opening) (rows : Book) (policy : Policy)
    (scripts : List (List Request)) (outcome : Outcome) : Type 0 where
  -- its history holds every request of every script exactly once, each worker's commits in commit
  -- order and none before an earlier splittable store of its script
  pub serves : Serves opening policy scripts (hot_sets outcome.hot.items) outcome.history.entries
  -- what was hot in a split phase is what the entries of the phase before choose
  pub chosen : AreChosen policy (hot_sets outcome.hot.items) outcome.history.entries
  -- it replays on an auction of one thread: each reply, every highest bid, bidder, count, rating
  -- and top list in it, is the one computed afresh from the rows committed before it
  pub replays : ReplaysFrom opening rows outcome.history.entries
  -- the journals of its last phase have the entries of that phase
  pub last : merged outcome.history.last
      ≡ segment_of (length outcome.hot.items - 1) outcome.history.entries
  -- the state left is that of the rows at the end
  pub stands : StandsFor outcome.state (book_after opening rows outcome.history.entries)
  -- it is of the same users and categories
  pub opening_is : outcome.state.opening ≡ opening
  -- its number is that of the phases, each of which has a hot set
  pub phases : outcome.state.phase ≡ length outcome.hot.items
  -- it has the policy's shards
  pub shards : length outcome.state.shards ≡ policy.shards
  -- and counters for each script
  pub counters : length outcome.state.counters ≡ length scripts

-- A board that had these phases before a run of these scripts has the first phases of the run after
-- them, and the run ends with this fault. They are all that it was given; or, if no memory was left,
-- it has them and has refused the next.
pub record HasShownFirstAfter {B : Type 0}
    (has has_refused : B → Opening → Book → List (List Row) → Type 0) (opening : Opening)
    (rows : Book) (before : List (List Row)) (policy : Policy) (scripts : List (List Request))
    (board : B) (fault : RunFault) : Type 0 where
  -- so many phases are done, with these hot sets, entries and stashes
  pub phase : ℕ
  pub hot : List (List Object)
  pub history : List Entry
  pub stashes : ℕ → List (ℕ × Request)
  pub run : HasRun policy scripts phase hot history stashes
  -- hot sets, numbers and replies are as those of an outcome
  pub chosen : AreChosen policy hot history
  pub numbers : AreNumbered opening policy hot history
  pub replays : ReplaysFrom opening (book_of rows before) history
  -- their rows are what the board has
  pub shown : HasShownAfter has opening rows before phase history board
      ⊎ ((fault ≡ Memory) × HasShownAfter has_refused opening rows before phase history board)
