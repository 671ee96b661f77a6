use Rattle.std.proofs.{Common.{arith}, lemmas.Result.{IfOk-at_ok}}
use Rattle.item_shards.specs.OpeningBooks.{opening_of, rows_of_book}
use Rattle.engine_tests.proofs.RowLemmas.{run_rows}
use Rattle.engine_tests.proofs.view_tests.two_commits.Goals as goal

pub returns-clause-rows : goal.returns-clause-rows
returns-clause-rows g c =
    let book = c.empty-book in let outcome = c.in-Ok.outcome in let answers = c.in-Ok.ensures in
    run_rows (opening_of book.result) (record { users = 10; categories = 2 }) (rows_of_book book.result) outcome.history.entries c.expect-commits.result.items outcome.state
    book.ensures.opening book.ensures.rows (IfOk-at_ok _ c.expect-commits.ensures c.to_entries.ensures) answers.outcome.replays answers.left
    (omega (arith, answers.outcome.counters, answers.refused.ready.0.few)) (omega (arith, c.if-len-ne2.false, c.len.ensures, c.expect-commits.result.ok.0))
