use Rattle.phase_transactions.proofs.PutAllLemmas.{none_put, put_more}
use Rattle.phase_transactions.proofs.taken.put_all.Goals as goal

pub returns-in-One : goal.returns-in-One
returns-in-One g c = rw c.in-One.is (put_more _ (rw c.in-One.is at c.requires.held) c.put_acts.ensures (λ none. none_put _ _ none.holds))

pub returns-in-Two : goal.returns-in-Two
returns-in-Two g c =
    rw c.in-Two.is
    (put_more _ (rw c.in-Two.is at c.requires.held) c.put_acts-in-Two.ensures (λ more. put_more _ more c.put_acts-in-Two-2.ensures (λ none. none_put _ _ none.holds)))
