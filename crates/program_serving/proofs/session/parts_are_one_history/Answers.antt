use Rattle.std.proofs.Common.{false, subst}
use Rattle.program_serving.proofs.OneHistory.{one_history, one_text}
use Rattle.program_serving.proofs.RowsBefore.{HasNoLateRow, lines_have_no_late_row, rows_first}
use Rattle.program_serving.proofs.session.parts_are_one_history.Goals as goal

pub returns-clause-first : goal.returns-clause-first
returns-clause-first c = λ options book input steps rest served. rows_first options book steps rest served.runs
    (subst HasNoLateRow served.all_is (lines_have_no_late_row options.workers 1 false _))

pub returns-clause-replays : goal.returns-clause-replays
returns-clause-replays c = λ options gone book steps are first. one_history options gone book steps are first

pub returns-clause-text : goal.returns-clause-text
returns-clause-text c = λ options gone steps no yes. one_text options gone steps no yes
