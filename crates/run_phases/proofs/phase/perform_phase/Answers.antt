use Rattle.run_phases.proofs.PhaseLemmas.{even_joined, odd_split}
use Rattle.run_phases.proofs.phase.perform_phase.Goals as goal

pub perform_kind-requires-clause-kind : goal.perform_kind-requires-clause-kind
perform_kind-requires-clause-kind g c κs within = even_joined c.phase.ensures c.if-phase-eq0.true

pub perform_kind-requires-2-clause-kind : goal.perform_kind-requires-2-clause-kind
perform_kind-requires-2-clause-kind g c κs within = odd_split c.phase.ensures c.if-phase-eq0.false
