use Rattle.log_opening.proofs.TailLemmas.{tail_of_text}
use Rattle.log_opening.proofs.laws.a_tail_is_a_cut_row.Goals as goal

pub returns : goal.returns
returns c = tail_of_text
