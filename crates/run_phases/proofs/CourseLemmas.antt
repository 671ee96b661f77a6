-- What is so of a run from a state, whatever book it begins from.
use Rattle.std.proofs.Common.{◌≡◌, ℕ, ◌+◌, ◌<◌, ◌≤◌, List, length, subst, sym}
use Rattle.auction_rows.specs.Book.{Book}
use Rattle.auction_rows.specs.declared.{limits.Policy.Policy, requests.Request.Request}
use Rattle.phase_floor.specs.States.{JoinedState}
use Rattle.run_phases.proofs.{RunLemmas.{few_phases_so_far, goes_on}, StableLemmas.{at_most, same}}
use Rattle.run_phases.specs.Beginning.{AreShortFor, BeginsWith, CannotBegin}
use Rattle.run_phases.specs.{declared.phase.Running.{Running}, inner.Running.{IsRunning, CanGoOn}}

-- ---- what is so of a run from whatever book

module _ (state : JoinedState) (policy : Policy) (scripts : List (List Request)) (begins : ¬ CannotBegin state policy scripts) (p : ℕ) (running : Running)
    (runs : (rows : Book) → BeginsWith state rows policy scripts → IsRunning state.opening rows policy scripts p running) where
  pub phase_now : running.state.phase ≡ p
  phase_now = same running.state.phase p (λ never. begins (λ rows from. never (runs rows from).phase_is))

  pub stashes_now : length running.stashes.items ≡ length scripts
  stashes_now = same (length running.stashes.items) (length scripts) (λ never. begins (λ rows from. never (runs rows from).stashes_are))

  pub few_phases_now : 0 < policy.joined_quota + policy.split_quota → p ≤ 2000002
  few_phases_now some = at_most p 2000002 (λ never. begins (λ rows from. never (few_phases_so_far state.opening rows policy some scripts state.limit from.short p running (runs rows from))))

  pub still_goes_on : running.state.limit ≡ state.limit → {own_policy : Policy} → own_policy ≡ policy → {own_scripts : List (List Request)} → own_scripts ≡ scripts → ¬ ¬ CanGoOn own_policy own_scripts running
  still_goes_on lasts same_policy same_scripts = λ never. begins (λ rows from.
      never (goes_on from.is_book same_policy same_scripts (subst (λ limit. AreShortFor limit rows scripts) (sym lasts) from.short) (runs rows from)))
