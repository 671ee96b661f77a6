use Rattle.run_laws.proofs.ReachLemmas.{reach_from, first_until, reach_rises, reach_most}
use Rattle.run_laws.proofs.turns.phases_reached.Goals as goal

pub returns : goal.returns
returns c = record {
  from_its_first = λ joined split phase index some. (first_until joined split some phase index, reach_from joined split some phase index);
  rises = λ joined split earlier later some. reach_rises joined split some earlier later;
  at_most = λ joined split index some. reach_most joined split some index;
}
