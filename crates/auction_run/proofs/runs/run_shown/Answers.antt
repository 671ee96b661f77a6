use Rattle.std.{proofs.Common.{◌≡◌, [], subst, sym}, specs.Prelude.{IfErr}}
use Rattle.item_shards.specs.OpeningBooks.{opening_of, rows_of_book}
use Rattle.job_threads.proofs.ThreadLemmas.{err_as}
use Rattle.run_phases.{proofs.BoardLemmas.{none_shown}, specs.Beginning.{AreShort, HaveWorkers}}
use Rattle.run_phases.specs.declared.faults.RunFault.TheVariants.{Memory}
use Rattle.auction_run.proofs.AnswerLemmas.{answered_first, answered_memory, not_first}
use Rattle.auction_run.specs.Runs.{AnswersRun, HasShownFirst}
use Rattle.auction_run.proofs.runs.run_shown.Goals as goal

pub run_checked-requires-clause-workers : goal.run_checked-requires-clause-workers
run_checked-requires-clause-workers g c κs within =
    subst (HaveWorkers (rows_of_book c.args.book.now)) (sym c.in_ok-compact.ensures) c.in_ok-check.ensures.0

pub run_checked-requires-clause-shards : goal.run_checked-requires-clause-shards
run_checked-requires-clause-shards g c κs within = c.in_ok-check.ensures.1.0

pub run_checked-requires-clause-quotas : goal.run_checked-requires-clause-quotas
run_checked-requires-clause-quotas g c κs within = c.in_ok-check.ensures.1.1.0

pub run_checked-requires-clause-short : goal.run_checked-requires-clause-short
run_checked-requires-clause-short g c κs within =
    subst (AreShort (rows_of_book c.args.book.now)) (sym c.in_ok-compact.ensures) c.in_ok-check.ensures.1.1.1

pub run_checked-requires-clause-board : goal.run_checked-requires-clause-board
run_checked-requires-clause-board g c κs within = c.requires

pub returns-clause-answer : goal.returns-clause-answer
returns-clause-answer g c =
    let book = c.args.book.now in
    subst (λ scripts. AnswersRun (opening_of book) (rows_of_book book) c.args.policy scripts c.run_checked.result)
    c.in_ok-compact.ensures c.run_checked.ensures.answer

pub returns-clause-board_after_fault : goal.returns-clause-board_after_fault
returns-clause-board_after_fault g c =
    let B = g.B.Board in let book = c.args.book.now in
    subst (λ scripts. IfErr c.run_checked.result (HasShownFirst B.has B.has_refused (opening_of book) (rows_of_book book) c.args.policy scripts c.run_checked.new.board))
    c.in_ok-compact.ensures c.run_checked.ensures.board_after_fault

pub returns-clause-board : goal.returns-clause-board
returns-clause-board g c = c.run_checked.ensures.board

pub returns-clause-up_to_date : goal.returns-clause-up_to_date
returns-clause-up_to_date g c = c.run_checked.ensures.up_to_date

pub returns-in_err-check-clause-answer : goal.returns-in_err-check-clause-answer
returns-in_err-check-clause-answer g c =
    let book = c.args.book.now in
    answered_first (opening_of book) (rows_of_book book) c.args.policy (g.S.Scripts.asked c.args.scripts) c.from_residual.result c.in_err-check.field-0.0 c.from_residual.ensures.1 c.in_err-check.ensures

pub returns-in_err-check-clause-board_after_fault : goal.returns-in_err-check-clause-board_after_fault
returns-in_err-check-clause-board_after_fault g c =
    let B = g.B.Board in let book = c.args.book.now in
    let scripts = g.S.Scripts.asked c.args.scripts in let fault = c.in_err-check.field-0.0 in
    err_as c.from_residual.result fault (HasShownFirst B.has B.has_refused (opening_of book) (rows_of_book book) c.args.policy scripts c.args.board.now) c.from_residual.ensures.1
    (none_shown B.has B.has_refused (opening_of book) (rows_of_book book) [] c.args.policy scripts c.args.board.now c.requires fault)

pub returns-in_err-compact-clause-answer : goal.returns-in_err-compact-clause-answer
returns-in_err-compact-clause-answer g c =
    let book = c.args.book.now in let failed = c.from_residual-in_err-compact in
    answered_memory (opening_of book) (rows_of_book book) c.args.policy (g.S.Scripts.asked c.args.scripts) book.is_book c.in_ok-check.ensures failed.result failed.ensures.1

pub returns-in_err-compact-clause-board_after_fault : goal.returns-in_err-compact-clause-board_after_fault
returns-in_err-compact-clause-board_after_fault g c =
    let B = g.B.Board in let book = c.args.book.now in
    let scripts = g.S.Scripts.asked c.args.scripts in
    err_as c.from_residual-in_err-compact.result Memory (HasShownFirst B.has B.has_refused (opening_of book) (rows_of_book book) c.args.policy scripts c.args.board.now)
    c.from_residual-in_err-compact.ensures.1
    (none_shown B.has B.has_refused (opening_of book) (rows_of_book book) [] c.args.policy scripts c.args.board.now c.requires Memory)

pub returns-clause-untouched : goal.returns-clause-untouched
returns-clause-untouched g c =
    let book = c.args.book.now in
    not_first (opening_of book) (rows_of_book book) c.args.policy (g.S.Scripts.asked c.args.scripts) c.in_ok-check.ensures
    c.run_checked.result (returns-clause-answer g c) (c.run_checked.new.board ≡ c.args.board.now)
