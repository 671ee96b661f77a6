use Rattle.run_laws.proofs.TurnLemmas.{split_turn, waiting_next, joined_turn, waiting_none}
use Rattle.run_laws.proofs.turns.phases_take.Goals as goal

pub returns : goal.returns
returns g c = record {
  split = λ reach puts_off phase script split. split_turn reach puts_off phase split script;
  put_off = λ reach puts_off phase script split. waiting_next reach puts_off phase split script;
  joined = λ reach puts_off phase script rises joined. joined_turn reach puts_off phase rises joined script;
  none_waits = λ reach puts_off phase script joined. waiting_none reach puts_off phase joined script;
}
