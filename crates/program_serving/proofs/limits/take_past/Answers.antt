use Rattle.std.proofs.Common.{◌≡◌, ◌∙◌, ℕ, List, subst, sym}
use Rattle.auction_rows.specs.declared.requests.Request.{Request}
use Rattle.auction_run.specs.GoingOn.{AreShortOn, HasScripts}
use Rattle.phase_floor.specs.States.{JoinedState}
use Rattle.program_serving.{proofs.PastLimits.{blank_short}, specs.inner.Parts.{IsPastOn}}
use Rattle.program_serving.proofs.limits.take_past.Goals as goal

-- what holds of the scripts that are looked at holds of the part's, if they are the same
its_worker : (auction : JoinedState) (seen scripts : List (List Request)) (worker : ℕ) → IsPastOn auction seen worker → seen ≡ scripts → IsPastOn auction scripts worker
its_worker auction seen scripts worker past same = subst (λ (all : List (List Request)). IsPastOn auction all worker) same past

its_scripts : (auction : JoinedState) (seen scripts : List (List Request)) → (HasScripts auction seen → AreShortOn auction seen) → seen ≡ scripts → HasScripts auction scripts → AreShortOn auction scripts
its_scripts auction seen scripts short same = subst (λ (all : List (List Request)). HasScripts auction all → AreShortOn auction all) same short

pub returns-clause-some : goal.returns-clause-some
returns-clause-some c = (sym c.ends_at_fault.ensures ∙ c.if-ends_at_fault.false, (its_worker _ _ _ _ c.in_ok-worker.ensures.some cc, c.clear.ensures))

pub returns-clause-short : goal.returns-clause-short
returns-clause-short c = λ goes_on lasts has.
    subst (AreShortOn c.args.auction.now) (sym c.clear.ensures) (blank_short c.args.auction.now c.args.scripts.now.items (c.past_worker.ensures.within lasts) has)

pub returns-in_err-worker-clause-short : goal.returns-in_err-worker-clause-short
returns-in_err-worker-clause-short c = λ goes_on lasts.
    its_scripts c.args.auction.now _ c.args.scripts.now.items (c.in_err-worker.ensures.none (c.past_worker.ensures.within lasts)) cc
