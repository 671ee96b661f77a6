-- What has been done of a run's scripts before a phase, and what a phase does.
use Rattle.std.specs.List.{filter, AllByRecursion}
use Rattle.std.specs.Prelude.{ℕ, ◌-◌, ◌<◌, ◌≤◌, ◌≡◌, ◌⊎◌, not, true, false, List, [], ◌++◌, length, map}
use Rattle.auction_rows.specs.{Choosing.{choose}, Phases.{is_put_off}}
use Rattle.auction_rows.specs.declared.{limits.Policy.Policy, requests.Object.Object, requests.Request.Request, rows.Entry.Entry}
use Rattle.phase_laws.specs.Order.{IsOrderedBy, part}
use Rattle.run_laws.specs.Phases.{is_split, first_of}
use Rattle.run_laws.specs.Serving.{call_of, script_of, hot_in, segment_of, phase_reached, commit_phase}
use Rattle.run_laws.specs.Turns.{call_request, numbered, given, turns, waiting}

-- a worker's calls in a list of entries
abbrev pub calls_of : ℕ → List Entry → List (ℕ × Request)
calls_of worker entries = map call_of (part (λ e. e.worker) worker entries)

-- the first index that reaches a phase
abbrev pub first_index : Policy → ℕ → ℕ
first_index policy phase = first_of policy.joined_quota policy.split_quota phase

-- the calls of a script that its worker is given in a phase
abbrev pub calls_given : Policy → ℕ → List Request → List (ℕ × Request)
calls_given policy phase script = given policy.joined_quota policy.split_quota phase script

-- the phases before this one are done
pub record HasRun (policy : Policy) (scripts : List (List Request)) (phase : ℕ)
    (hot : List (List Object)) (history : List Entry)
    (stashes : ℕ → List (ℕ × Request)) : Type 0 where
  -- there is a hot set for each phase
  pub phase_count : length hot ≡ phase
  -- each worker's calls so far are its script's calls of those phases, phase by phase
  pub done : (worker : ℕ) →
      calls_of worker history ≡ turns (commit_phase policy hot) phase (script_of scripts worker)
  -- each worker's stash is what was put off to this phase
  pub stashed : (worker : ℕ) → stashes worker
      ≡ waiting (phase_reached policy) (commit_phase policy hot) phase (script_of scripts worker)
  -- each entry is in the phase in which its call commits
  pub phases : AllByRecursion (λ e. e.phase ≡ commit_phase policy hot (call_of e)) history
  -- each entry is in a phase before this one
  pub phases_before : AllByRecursion (λ e. e.phase < phase) history
  -- phases don't fall
  pub phases_rise : IsOrderedBy (λ d e. d.phase ≤ e.phase) history
  -- no phase was one too many: if all calls commit before a phase, that phase is not begun
  pub needed : (n : ℕ) → ((worker : ℕ) → AllByRecursion (λ call. commit_phase policy hot call < n)
      (numbered 0 (script_of scripts worker))) → phase ≤ n

-- a closed phase: which calls each worker's entries are, and what its stash is after the phase
pub record IsPhasePerformed (policy : Policy) (scripts : List (List Request)) (phase : ℕ)
    (hot : List Object) (stashes after : ℕ → List (ℕ × Request))
    (segment : List Entry) : Type 0 where
  -- the entries are of this phase
  pub phases : AllByRecursion (λ e. e.phase ≡ phase) segment
  -- a joined phase performs the stash, then what is given
  pub joined_calls : is_split phase ≡ false → (worker : ℕ) → calls_of worker segment
      ≡ stashes worker ++ calls_given policy phase (script_of scripts worker)
  -- a joined phase leaves no stash
  pub joined_stash : is_split phase ≡ false → (worker : ℕ) → after worker ≡ []
  -- a split phase performs what is given, but for what it puts off
  pub split_calls : is_split phase ≡ true → (worker : ℕ) → calls_of worker segment
      ≡ filter (λ call. not (is_put_off hot (call_request call)))
      (calls_given policy phase (script_of scripts worker))
  -- a split phase leaves what it puts off as the stash
  pub split_stash : is_split phase ≡ true → (worker : ℕ) → after worker
      ≡ filter (λ call. is_put_off hot (call_request call))
      (calls_given policy phase (script_of scripts worker))

-- a worker still has a request to perform, or a stash
abbrev pub HasLeft : Policy → List (List Request) → ℕ → (ℕ → List (ℕ × Request)) → ℕ → Type 0
HasLeft policy scripts phase stashes worker =
    (first_index policy phase < length (script_of scripts worker)) ⊎ (0 < length (stashes worker))

-- nobody has anything left
abbrev pub IsDone : Policy → List (List Request) → ℕ → (ℕ → List (ℕ × Request)) → Type 0
IsDone policy scripts phase stashes = (worker : ℕ) →
    (length (script_of scripts worker) ≤ first_index policy phase) × (length (stashes worker) ≡ 0)

-- the hot sets are those that are chosen for the phases so far
pub record AreChosen (policy : Policy) (hot : List (List Object))
    (history : List Entry) : Type 0 where
  -- nothing is hot in a joined phase
  pub joined : (phase : ℕ) → phase < length hot → is_split phase ≡ false → hot_in hot phase ≡ []
  -- what the accepted stores of the phase before write most is hot in a split phase
  pub split : (phase : ℕ) → phase < length hot → is_split phase ≡ true →
      hot_in hot phase ≡ choose (segment_of (phase - 1) history) policy.threshold policy.hot_max
