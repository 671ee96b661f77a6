use Rattle.auction_reading.{proofs.RowsFirst.{rows_first}, specs.Scripts.{records_of}}
use Rattle.auction_reading.proofs.laws.rows_come_first.Goals as goal

pub returns : goal.returns
returns c = λ workers text all e. rows_first workers 1 (records_of text) all e
