use Rattle.std.proofs.Common.{◌≡◌, ℕ, ◌<◌, ◌≤◌, ◌↔◌, Bool, true, false, List, length, MatchBool, IsTrue, refl, subst, arith, rules, tests, get_or}
use Rattle.std.proofs.lemmas.{Bool.{false≢true}, Iterator.{cases_from_any, YieldsList-from_slice}}
use Rattle.std.specs.List.{HoldsAt, AllWithin}
use Rattle.auction_rows.specs.declared.requests.Opened.{Opened}
use Rattle.item_shards.specs.OpeningRows.{asked_by, IsTooLong}
use Rattle.item_shards.proofs.openings.is_too_long.Goals as goal

-- some count is above 1,000,000
abbrev HasMany : List ℕ → Type 0
HasMany counts = (worker : ℕ) × (worker < length counts) × HoldsAt (λ n. 1000000 < n) counts worker

is_too_long : (r : Bool) (counts : List ℕ) (all : List Opened) → length counts ≡ 16 → ((worker : ℕ) → worker < 16 → get_or counts worker 0 ≡ asked_by all worker)
    → MatchBool r (HasMany counts) (AllWithin (λ n. n ≤ 1000000) counts 0 (length counts)) → IsTrue r ↔ IsTooLong all
is_too_long true counts all sixteen are many =
    (λ _. (many.0, omega (arith, many.1, sixteen), subst (λ n. 1000000 < n) (are many.0 (omega (arith, many.1, sixteen))) (many.2 0)), λ _. refl)
is_too_long false counts all sixteen are few =
    (λ e. absurd (false≢true e), λ long. absurd (omega (arith, long.2, are long.0 long.1, few long.0 0 (omega arith) (omega (arith, long.1, sixteen)))))

pub returns : goal.returns
returns c =
    let counts = c.asked_by_each-counts.result in
    let by_call = cases_from_any _ _ _ (λ x. 1000000 < x) (λ x. x ≤ 1000000) c.any.ensures.ran (YieldsList-from_slice counts cc) (λ x q k. search (rules, tests)) (λ x q k. search (rules, tests)) in
    is_too_long c.any.result counts c.args.rows.now (search rules) c.asked_by_each-counts.ensures by_call
