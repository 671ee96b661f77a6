-- What a run answers, by what it met.
use Rattle.std.proofs.{Common.{◌≡◌, List, refl, subst, sym}, lemmas.Result.{IfOk-weaker}}
use Rattle.std.specs.Prelude.{◌↔◌, Result, Ok, Err, IsErrAnd, IsErrOf, IfErr, IfOk, OnOk}
use Rattle.auction_rows.specs.{Book.{Book}, History.{IsBook, book_after}}
use Rattle.auction_rows.specs.declared.limits.TheConstants.{MOST_OF_A_WORKER}
use Rattle.auction_rows.specs.declared.{limits.Policy.Policy, values.Opening.Opening, requests.Request.Request}
use Rattle.phase_floor.specs.States.{JoinedState, IsBookOf}
use Rattle.run_phases.specs.Beginning.{AreShort, HasQuotas, HasShards, HaveWorkers}
use Rattle.run_phases.specs.{Outcomes.{IsOutcome}, Phases.{IsMet}}
use Rattle.run_phases.specs.declared.{course.Outcome.{Outcome}, faults.RunFault.{RunFault}}
use Rattle.run_phases.specs.declared.faults.RunFault.TheVariants.{Workers, Shards, Quota, TooLong, Spawn, Memory, NumberFull}
use Rattle.auction_run.proofs.GoingOnLemmas.{left_book}
use Rattle.auction_run.specs.Checks.{IsFirstToFail, IsFoundFirst, IsRefusedInOrder}
use Rattle.auction_run.specs.GoingOn.{AnswersNextRun, GivesBack, IsCheckedOn, IsReadyFor, IsStopped}
use Rattle.auction_run.specs.{Runs.{AnswersRun}, declared.checks.Stopped.{Stopped}}
use Rattle.auction_run.specs.declared.checks.Stopped.TheVariants.{Failed, Refused}
use Rattle.item_shards.proofs.OpeningBookLemmas.{neither}

-- two facts that are both so, or neither
both : {P Q : Type 0} → P → Q → P ↔ Q
both p q = ((λ _. q), λ _. p)

-- nothing is said of an outcome where there is none
pub no_outcome : {T E : Type 0} (result : Result T E) (Q : E → Type 0) (P : T → Type 0) → IsErrAnd result Q → IfOk result P
no_outcome (Ok done) Q P is = absurd is
no_outcome (Err fault) Q P is = tt

on_ok : {T : Type 0} (result : Result T RunFault) {P : Type 0} → P → OnOk result P
on_ok (Ok done) p = p
on_ok (Err fault) p = tt

module _ (opening : Opening) (rows : Book) (policy : Policy) (scripts : List (List Request)) where
  -- the four hold that are checked
  abbrev all : Type 0
  all = HaveWorkers rows scripts × (HasShards policy × (HasQuotas policy × AreShort rows scripts))

  -- the fault is that of the first of the four that doesn't hold
  abbrev first : RunFault → Type 0
  first fault = IsFirstToFail {T = Unit {0}} (Err fault) (HaveWorkers rows scripts) (HasShards policy) (HasQuotas policy) (AreShort rows scripts)

  refused_first : (fault : RunFault) → first fault → IsRefusedInOrder {T = Outcome} (Err fault) policy rows scripts
  refused_first Workers is = record {
    ready = tt;
    workers = both refl is;
    shards = neither (λ told. cc told) (λ some. is some.0);
    quota = neither (λ told. cc told) (λ some. is some.0);
    too_long = neither (λ told. cc told) (λ some. is some.0);
  }
  refused_first Shards is = record {
    ready = tt;
    workers = neither (λ told. cc told) (λ no. no is.0);
    shards = both refl is;
    quota = neither (λ told. cc told) (λ some. is.1 some.1.0);
    too_long = neither (λ told. cc told) (λ some. is.1 some.1.0);
  }
  refused_first Quota is = record {
    ready = tt;
    workers = neither (λ told. cc told) (λ no. no is.0);
    shards = neither (λ told. cc told) (λ no. no.1 is.1.0);
    quota = both refl is;
    too_long = neither (λ told. cc told) (λ some. is.1.1 some.1.1.0);
  }
  refused_first TooLong is = record {
    ready = tt;
    workers = neither (λ told. cc told) (λ no. no is.0);
    shards = neither (λ told. cc told) (λ no. no.1 is.1.0);
    quota = neither (λ told. cc told) (λ no. no.1.1 is.1.1.0);
    too_long = both refl is;
  }
  refused_first fault is = absurd is

  -- what is told is what was met
  told_met : (result : Result Outcome RunFault) → IfErr result (IsMet scripts) → (fault : RunFault) → IsErrOf result fault → IsMet scripts fault
  told_met (Ok outcome) met fault told = absurd (cc told)
  told_met (Err other) met fault told = let same : other ≡ fault = cc told in subst (IsMet scripts) same met

  -- a run of what was checked gives an outcome, or met a fault in a phase
  pub answered : IsBook opening rows → all → (result : Result Outcome RunFault) → IfOk result (IsOutcome opening rows policy scripts) →
      IfOk result (λ outcome. outcome.state.limit ≡ MOST_OF_A_WORKER) → IfErr result (IsMet scripts) →
      AnswersRun opening rows policy scripts result
  answered is_book have result is limit met = record {
    outcome = is;
    left = IfOk-weaker result (IsOutcome opening rows policy scripts) (λ outcome. IsBookOf outcome.state (book_after opening rows outcome.history.entries))
        (left_book opening rows policy scripts is_book have.0.own) is;
    limit = limit;
    refused = record {
      ready = on_ok result have;
      workers = neither (told_met result met Workers) (λ no. no have.0);
      shards = neither (told_met result met Shards) (λ no. no.1 have.1.0);
      quota = neither (told_met result met Quota) (λ no. no.1.1 have.1.1.0);
      too_long = neither (told_met result met TooLong) (λ no. no.1.1.1 have.1.1.1);
    };
    spawn = told_met result met Spawn;
    numbers = told_met result met NumberFull;
  }

  -- or no memory was left before the first
  pub answered_memory : IsBook opening rows → all → (result : Result Outcome RunFault) → IsErrAnd result (λ fault. fault ≡ Memory) → AnswersRun opening rows policy scripts result
  answered_memory is_book have (Ok outcome) is = absurd is
  answered_memory is_book have (Err fault) is = answered is_book have (Err fault) tt tt (subst (IsMet scripts) (sym is) tt)

  -- what is checked refuses a run
  pub answered_first : (result : Result Outcome RunFault) (fault : RunFault) → IsErrAnd result (λ other. other ≡ fault) → first fault → AnswersRun opening rows policy scripts result
  answered_first (Ok outcome) fault is cause = absurd is
  answered_first (Err other) fault is cause =
      let own : first other = subst first (sym is) cause in record {
        outcome = tt;
        left = tt;
        limit = tt;
        refused = refused_first other own;
        spawn = λ told. let same : other ≡ Spawn = cc told in absurd (subst first same own);
        numbers = λ told. let same : other ≡ NumberFull = cc told in subst first same own;
      }

  -- a run of what was checked is not refused for it
  pub not_first : all → (result : Result Outcome RunFault) → AnswersRun opening rows policy scripts result → (P : Type 0) → IfErr result (λ fault. IsFoundFirst fault → P)
  not_first have (Ok outcome) answers P = tt
  not_first have (Err Workers) answers P = λ is. absurd (answers.refused.workers.0 refl have.0)
  not_first have (Err Shards) answers P = λ is. absurd ((answers.refused.shards.0 refl).1 have.1.0)
  not_first have (Err Quota) answers P = λ is. absurd ((answers.refused.quota.0 refl).1.1 have.1.1.0)
  not_first have (Err TooLong) answers P = λ is. absurd ((answers.refused.too_long.0 refl).1.1.1 have.1.1.1)
  not_first have result answers P = λ is. absurd is

-- a run that goes on says why it stopped
pub answered_stopped : (state : JoinedState) (policy : Policy) (scripts : List (List Request)) (result : Result Outcome Stopped) (why : Stopped) → IsErrAnd result (λ stopped. stopped ≡ why) →
    IsStopped state policy scripts why → AnswersNextRun state policy scripts result
answered_stopped state policy scripts (Ok outcome) why is so = absurd is
answered_stopped state policy scripts (Err stopped) why is so = record { ready = tt; outcome = tt; left = tt; limit = tt; stopped = subst (IsStopped state policy scripts) (sym is) so }

-- a run that goes on from what was checked gives no state back
pub not_given_back : (state : JoinedState) (policy : Policy) (scripts : List (List Request)) → IsReadyFor state policy scripts → (result : Result Outcome Stopped) →
    AnswersNextRun state policy scripts result → (P : Type 0) → IfErr result (λ stopped. GivesBack stopped → P)
not_given_back state policy scripts ready (Ok outcome) answers P = tt
not_given_back state policy scripts ready (Err (Failed fault)) answers P = λ is. absurd is
not_given_back state policy scripts ready (Err (Refused back fault)) answers P = λ is. absurd (at fault answers.stopped.1) where
  at : (fault : RunFault) → IsCheckedOn {T = Unit {0}} (Err fault) state policy scripts → ⊥
  at Workers bad = bad ready.0
  at Shards bad = bad.1 ready.1.0
  at Quota bad = bad.1.1 ready.1.1.0
  at TooLong bad = bad.1.1.1 ready.1.1.1
  at fault bad = bad
