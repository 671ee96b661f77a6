use Rattle.closing_laws.proofs.ExampleLemmas.{has_closed, has_stood}
use Rattle.closing_laws.proofs.a_phase_closes.Goals as goal

pub returns-clause-closed : goal.returns-clause-closed
returns-clause-closed c = has_closed

pub returns-clause-stood : goal.returns-clause-stood
returns-clause-stood c = has_stood
