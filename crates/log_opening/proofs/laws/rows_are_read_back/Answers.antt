use Rattle.std.proofs.lemmas.List.Elements.{recursion_from_All}
use Rattle.log_opening.{proofs.BookReadLemmas.{book_read}, specs.ReadBack.{IsWritten}}
use Rattle.log_opening.proofs.laws.rows_are_read_back.Goals as goal

pub returns : goal.returns
returns c = λ workers book few all short. book_read workers book few (recursion_from_All (IsWritten workers) book all) short
