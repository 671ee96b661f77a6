use Rattle.closing_laws.proofs.CommitLemmas.{book_left, workers_go_on}
use Rattle.closing_laws.proofs.books_go_on.Goals as goal

pub returns-clause-books : goal.returns-clause-books
returns-clause-books c = book_left

pub returns-clause-workers : goal.returns-clause-workers
returns-clause-workers c = workers_go_on
