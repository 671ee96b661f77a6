use Rattle.worker_slices.proofs.RowSlices.{row_more, few_rows}
use Rattle.closing_laws.proofs.commits.slices_of_rows.Goals as goal

pub returns-clause-one_more : goal.returns-clause-one_more
returns-clause-one_more c = row_more

pub returns-clause-few : goal.returns-clause-few
returns-clause-few c = few_rows
