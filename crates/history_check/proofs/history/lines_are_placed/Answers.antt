use Rattle.history_check.proofs.LineLemmas.{entry_line}
use Rattle.history_check.proofs.history.lines_are_placed.Goals as goal

pub returns : goal.returns
returns c = λ e. entry_line e
