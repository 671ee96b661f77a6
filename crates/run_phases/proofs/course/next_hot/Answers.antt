use Rattle.std.proofs.{Common.{sym, ◌∙◌}, lemmas.Bool.{false≢true}}
use Rattle.run_phases.proofs.PhaseLemmas.{even_joined}
use Rattle.run_phases.proofs.course.next_hot.Goals as goal

pub returns-then-phase-eq0-clause-split : goal.returns-then-phase-eq0-clause-split
returns-then-phase-eq0-clause-split c = λ split. absurd (false≢true (sym (even_joined c.phase.ensures c.if-phase-eq0.true) ∙ split))
