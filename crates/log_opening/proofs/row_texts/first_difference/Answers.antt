use Rattle.std.proofs.Common.{arith, rules, ◌≡◌, ◌≢◌, ◌≤◌, ℕ, length, subst, take}
use Rattle.log_opening.proofs.DifferenceLemmas.{differs_at, shorter_ends}
use Rattle.log_opening.proofs.row_texts.first_difference.Goals as goal

pub returns-clause-first : goal.returns-clause-first
returns-clause-first c =
    let xs = c.args.text.now in let ys = c.args.other.now in let n = c.min-shorter.result in
    let end : c.loop-at.at ≡ n = omega arith in
    let same : take n xs ≡ take n ys = subst (λ (i : ℕ). take i xs ≡ take i ys) end c.loop-at.invariant in
    let others : xs ≢ ys = search rules in
    let in_xs : n ≤ length xs = omega (arith, c.min-shorter.ensures) in
    let in_ys : n ≤ length ys = omega (arith, c.min-shorter.ensures) in record {
      within = in_xs;
      same = same;
      differs = differs_at xs ys n others same in_xs in_ys (λ x y. absurd (shorter_ends (length xs) (length ys) n c.min-shorter.ensures x y));
    }
