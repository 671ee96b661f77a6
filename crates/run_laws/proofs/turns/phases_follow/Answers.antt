use Rattle.run_laws.proofs.ReachLemmas.{first_next}
use Rattle.run_laws.proofs.turns.phases_follow.Goals as goal

pub returns : goal.returns
returns c = λ joined split phase some. first_next joined split some phase
