use Rattle.std.proofs.Common.{sym, ◌∙◌, ◌==◌}
use Rattle.run_laws.proofs.CallLemmas.{once_in_turns, requests_in_turns}
use Rattle.run_laws.{proofs.CountLemmas.{how_many-is}, specs.Turns.{turns}}
use Rattle.run_laws.proofs.turns.turns_are_whole.Goals as goal

pub returns : goal.returns
returns g c = record {
  once = λ commit phases index script all. sym (how_many-is (λ call. call.0 == index) (turns commit phases script)) ∙ once_in_turns commit phases index script all;
  requests = requests_in_turns;
}
