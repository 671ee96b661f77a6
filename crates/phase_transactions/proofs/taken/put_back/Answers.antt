use Rattle.phase_transactions.proofs.PutAllLemmas.{none_back, back_more}
use Rattle.phase_transactions.proofs.taken.put_back.Goals as goal

pub returns-in-One : goal.returns-in-One
returns-in-One g c = back_more c.put.new.key (rw c.in-One.is at c.requires) c.put.ensures (λ none. none_back _ none.holds)

pub returns-in-Two : goal.returns-in-Two
returns-in-Two g c = back_more _ (rw c.in-Two.is at c.requires) c.put-in-Two.ensures (λ more. back_more _ more c.put-in-Two-2.ensures (λ none. none_back _ none.holds))
