use Rattle.std.proofs.Common.{Option, List, ℕ, inl, refl, subst, true}
use Rattle.std.specs.Cmp.Lexicographic.{same_text}
use Rattle.program_opening.specs.Words.{SaysEnd}
use Rattle.program_opening.proofs.options.is_end.Goals as goal

pub returns-then-eq-clause-said : goal.returns-then-eq-clause-said
returns-then-eq-clause-said c = subst (λ (said : Option (List ℕ)). SaysEnd said c.args.live true) c.in-Some.ensures (inl (same_text _ _ c.if-eq.ensures, refl))
