use Rattle.std.proofs.Common.{refl}
use Rattle.phase_transactions.proofs.TakeLemmas.{taken_none, taken_more}
use Rattle.phase_transactions.proofs.taken.take_one.Goals as goal

pub returns : goal.returns
returns g c =
    let took = c.take.ensures in
    taken_more _ _ (taken_none _ _ _ c.requires.ready.idle) refl took.seats took.key took.later took.number took.history
