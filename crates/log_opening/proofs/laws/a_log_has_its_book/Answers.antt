use Rattle.log_opening.proofs.AcceptedLemmas.{log_bytes}
use Rattle.log_opening.proofs.laws.a_log_has_its_book.Goals as goal

pub returns : goal.returns
returns c = log_bytes
