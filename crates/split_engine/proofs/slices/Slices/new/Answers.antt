use Rattle.std.proofs.Common.{◌≡◌, ap, length, replicate, ◌∙◌, arith}
use Rattle.split_engine.proofs.KeptSlices.{none_kept, spread_none}
use Rattle.split_engine.proofs.slices.Slices.new.Goals.{then-len-size, else-len-size+in_ok-guesses}
use Rattle.split_engine.specs.inner.Kept.{spread}
use Rattle.split_engine.proofs.slices.Slices.new.Goals as goal

-- whichever guesses there are, nothing is kept
pub invariant_of-result : goal.invariant_of-result
invariant_of-result g c = rw (c.in_ok-keys.ensures.items, c.in_ok-slices.ensures.items) (none_kept _)

pub returns : goal.returns
returns g c =
    let rules = g.A.Application.rules in let guesses = c.if-len-size.guesses2 in
    let long : length guesses.items ≡ c.args.size =
    elim c.if-len-size.branch [
      | then-len-size w ↦ ap (λ v. length v.items) w.guesses2-is ∙ omega (arith, c.len.ensures, c.args.guesses.ok.0, w.if-len-size.true)
      | else-len-size+in_ok-guesses w ↦ ap (λ v. length v.items) w.guesses2-is ∙ omega (arith, w.in_ok-guesses.ensures.len, w.in_ok-guesses.guesses.ok.0)
    ] in
    (λ i. spread rules guesses.items (c.in_ok-keys.ensures.items i) (c.in_ok-slices.ensures.items i)) ∙ spread_none rules guesses.items ∙ ap (λ n. replicate n rules.empty) long
