use Rattle.run_laws.proofs.QuotaLemmas.{given_reaches, given_length, given_next}
use Rattle.run_laws.proofs.turns.quotas_give.Goals as goal

pub returns : goal.returns
returns g c = record {
  reaching = λ joined split phase script some. given_reaches joined split some phase script;
  count = given_length;
  next = given_next;
}
