-- What it means that a history serves scripts.
use Rattle.std.specs.List.{filter, AllByRecursion}
use Rattle.std.specs.Prelude.{ℕ, suc, ◌<◌, ◌≤◌, ◌≡◌, ◌==◌, ◌&&◌, nat_lt, true, if◌then◌else◌, List, [], length, map, slice_get, unwrap_or, count_by, Some, Vec}
use Rattle.std.specs.declared.alloc.Global.{Global}
use Rattle.auction_rows.specs.{Phases.{is_put_off, IsNumbered}, Requests.{is_splittable}}
use Rattle.auction_rows.specs.declared.{limits.Policy.Policy, values.Opening.Opening, requests.Object.Object, requests.Request.Request, rows.Entry.Entry}
use Rattle.phase_laws.specs.{Numbers.{greatest_by}, Order.{IsOrderedBy}}
use Rattle.run_laws.specs.{Phases.{reach}, Turns.{commits_in}}

-- an entry's call: its index and its request
abbrev pub call_of : Entry → ℕ × Request
call_of e = (e.index, e.request)

-- the lists in a list of vectors
abbrev pub lists : {X : Type 0} → List (Vec X Global) → List (List X)
lists vectors = map (λ v. v.items) vectors

-- a worker's script, empty for a worker that there isn't
abbrev pub script_of : List (List Request) → ℕ → List Request
script_of scripts worker = unwrap_or (slice_get scripts worker) []

-- the hot set of a phase, from a list with one for each phase
abbrev pub hot_in : List (List Object) → ℕ → List Object
hot_in hot phase = unwrap_or (slice_get hot phase) []

-- the entries of a phase
abbrev pub segment_of : ℕ → List Entry → List Entry
segment_of phase history = filter (λ e. e.phase == phase) history

-- the phase that an index reaches
abbrev pub phase_reached : Policy → ℕ → ℕ
phase_reached policy index = reach policy.joined_quota policy.split_quota index

-- the phase in which a call commits: the one that it reaches, or the next if that one is split and puts it off
abbrev pub commit_phase : Policy → List (List Object) → ℕ × Request → ℕ
commit_phase policy hot =
    commits_in (phase_reached policy) (λ phase request. is_put_off (hot_in hot phase) request)

-- each phase's entries are numbered
abbrev pub AreNumbered : Opening → Policy → List (List Object) → List Entry → Type 0
AreNumbered opening policy hot history = (phase : ℕ) →
    IsNumbered opening policy.shards (hot_in hot phase) (segment_of phase history)

-- a history serves scripts, with a hot set for each phase
pub record Serves (opening : Opening) (policy : Policy) (scripts : List (List Request))
    (hot : List (List Object)) (history : List Entry) : Type 0 where
  -- each index of each script occurs exactly once, and no other
  pub once : (worker index : ℕ) →
      count_by (λ e. (e.worker == worker) && (e.index == index)) history
      ≡ (if nat_lt index (length (script_of scripts worker)) then 1 else 0)
  -- each entry has the request of its index
  pub requests : AllByRecursion
      (λ e. slice_get (script_of scripts e.worker) e.index ≡ Some e.request) history
  -- each entry is in the phase in which its call commits
  pub phases : AllByRecursion (λ e. e.phase ≡ commit_phase policy hot (call_of e)) history
  -- phases don't fall
  pub phases_rise : IsOrderedBy (λ d e. d.phase ≤ e.phase) history
  -- one worker's entries of one phase are in the order of their indexes
  pub indexes_rise : IsOrderedBy
      (λ d e. d.worker ≡ e.worker → d.phase ≡ e.phase → d.index < e.index) history
  -- no entry comes before a splittable store of its own script that has a smaller index
  pub stores_first : IsOrderedBy
      (λ d e. d.worker ≡ e.worker → is_splittable e.request ≡ true → d.index < e.index) history
  -- there is one phase more than the greatest phase of an entry, and none without entries
  pub phase_count : length hot ≡ greatest_by (λ e. suc e.phase) history
  -- each number is 1 + the greatest earlier one of its phase with which it shares something
  pub numbers : AreNumbered opening policy hot history
