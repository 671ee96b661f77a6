-- What cannot be otherwise is so.
use Rattle.std.proofs.Common.{◌≡◌, ℕ, ◌+◌, ◌<◌, ◌≤◌, ◌^◌, ◌⊎◌, false, List, [], ◌∷◌, Option, Some, None, length, refl, inl, inr, arith}
use Rattle.std.{proofs.lemmas.Bool.{cases_lt, false≢true}, specs.Prelude.{IsSome}}
use Rattle.auction_rows.specs.declared.requests.Object.TheVariants.{Item, User, Category}
use Rattle.auction_rows.specs.declared.{limits.Policy.Policy, values.Opening.Opening, requests.Object.Object, requests.Request.Request}
use Rattle.item_shards.specs.Values.{stock}
use Rattle.closing_laws.specs.{Phases.{value_on}, Standing.{counters_at}}
use Rattle.worker_slices.specs.Stashes.{StashState}
use Rattle.phase_floor.specs.States.{JoinedState, states_of, DoesExist, DoAllExist}
use Rattle.run_laws.specs.{Phases.{is_split}, Serving.{script_of}}
use Rattle.shard_boxes.specs.States.{ShardState}
use Rattle.run_phases.specs.inner.Plans.{waiting_in, quota_of, AreAsked, MayPerform}

pub at_most : (a b : ℕ) → ¬ ¬ (a ≤ b) → a ≤ b
at_most a b never = at (cases_lt b a) where
  at : (b < a) ⊎ (a ≤ b) → a ≤ b
  at (inl more) = absurd (never (λ least. omega (arith, least, more)))
  at (inr least) = least

pub same : (a b : ℕ) → ¬ ¬ (a ≡ b) → a ≡ b
same a b never =
    let one : a ≤ b = at_most a b (λ n. never (λ e. n (omega (arith, e)))) in
    let other : b ≤ a = at_most b a (λ n. never (λ e. n (omega (arith, e)))) in
    omega (arith, one, other)

below : (a b : ℕ) → ¬ ¬ (a < b) → a < b
below a b never =
    let least : a + 1 ≤ b = at_most (a + 1) b (λ n. never (λ less. n (omega (arith, less)))) in omega (arith, least)

nothing : {X : Type 0} (xs : List X) → ¬ ¬ (xs ≡ []) → xs ≡ []
nothing [] never = refl
nothing (x ∷ xs) never = absurd (never (λ e. cc e))

some : {X : Type 0} (o : Option X) → ¬ ¬ IsSome o → IsSome o
some None never = absurd (never false≢true)
some (Some x) never = refl

module _ (opening : Opening) (states : List ShardState) where
  exists : (object : Object) → ¬ ¬ DoesExist opening states object → DoesExist opening states object
  exists (Item id) never = some (stock (value_on states (Item id))) never
  exists (User user) never = below user opening.users never
  exists (Category category) never = below category opening.categories never

  all_exist : (objects : List Object) → ¬ ¬ DoAllExist opening states objects → DoAllExist opening states objects
  all_exist [] never = tt
  all_exist (o ∷ os) never = (exists o (λ n. never (λ all. n all.0)), all_exist os (λ n. never (λ all. n all.1)))

-- a run may perform the next phase of a state where it cannot be that it may not
pub may_still : (policy : Policy) (scripts : List (List Request)) (state : JoinedState) (stashes : List StashState) (hot : List Object) → state.phase + 1 < 2 ^ 64 →
    AreAsked scripts stashes → (is_split state.phase ≡ false → hot ≡ []) → ¬ ¬ MayPerform policy scripts state stashes hot → MayPerform policy scripts state stashes hot
may_still policy scripts state stashes hot counted asked joined never = record {
  counted = counted;
  scripts_are = same (length scripts) (length state.counters) (λ n. never (λ may. n may.scripts_are));
  stashes_are = same (length stashes) (length state.counters) (λ n. never (λ may. n may.stashes_are));
  shards_are = same (length state.shards) policy.shards (λ n. never (λ may. n may.shards_are));
  short = λ w. at_most (length (script_of scripts w)) 1000000 (λ n. never (λ may. n (may.short w)));
  asked = asked;
  waits = λ w. at_most (length (waiting_in stashes w)) 1000000 (λ n. never (λ may. n (may.waits w)));
  room = λ w known. at_most ((counters_at state.counters w).commits + length (waiting_in stashes w) + quota_of policy state.phase (script_of scripts w)) state.limit
      (λ n. never (λ may. n (may.room w known)));
  joined = joined;
  exist = all_exist state.opening (states_of state) hot (λ n. never (λ may. n may.exist));
  split = λ split w. nothing (waiting_in stashes w) (λ n. never (λ may. n (may.split split w)));
}
