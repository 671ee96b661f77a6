use Rattle.phase_tests.proofs.permits.AnswerLemmas.{stored}
use Rattle.phase_tests.proofs.permits.split.bid.Goals as goal

pub returns-clause-users : goal.returns-clause-users
returns-clause-users g c =
    let done = c.bid_hot.ensures in
    (stored g.N.PhaseName.initial c.args.permit.now c.bid_hot.new.self _ c.args.index c.bid_hot.result done.unchanged done.committed).1
