use Rattle.phase_tests.proofs.calls.ReceiptLemmas.{performed}
use Rattle.phase_tests.proofs.calls.phases.JoinedPhasePerforms.perform.Goals as goal

pub returns : goal.returns
returns g c =
    let answer = c.perform in
    performed g.N.PhaseName.initial c.args.floor.now c.args.permit.now answer.new.self c.requires.receipt c.args.request.now c.args.index answer.result answer.ensures.committed answer.ensures.failed
