use Rattle.phase_tests.proofs.calls.ReceiptLemmas.{dealt_with}
use Rattle.phase_tests.proofs.calls.phases.SplitPhasePerforms.perform.Goals as goal

pub returns : goal.returns
returns g c =
    let answer = c.perform in
    dealt_with g.N.PhaseName.initial c.args.floor.now c.args.permit.now answer.new.self c.requires.receipt c.args.request.now c.args.index answer.result answer.ensures.dealt answer.ensures.failed
