use Rattle.history_check.proofs.TextLemmas.{text_is, lines_are}
use Rattle.history_check.proofs.history.texts_are_lines.Goals as goal

pub returns-clause-text : goal.returns-clause-text
returns-clause-text c = text_is

pub returns-clause-lines : goal.returns-clause-lines
returns-clause-lines c = lines_are
