use Rattle.std.proofs.Math.Logic.{∥∥₁_elim}
use Rattle.item_shards.{proofs.OneProof.{IsWithinLimits-prop}, specs.OpeningBooks.{rows_of_book}}
use Rattle.item_shards.proofs.openings.OpeningBook.rows.Goals as goal

pub returns-in-Some-clause-limits : goal.returns-in-Some-clause-limits
returns-in-Some-clause-limits c = ∥∥₁_elim c.args.self.now.within (IsWithinLimits-prop (rows_of_book c.args.self.now)) (λ known. known)
