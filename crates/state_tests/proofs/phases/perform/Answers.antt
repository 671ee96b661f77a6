use Rattle.state_tests.proofs.ReceiptLemmas.{performed}
use Rattle.state_tests.proofs.phases.perform.Goals as goal

pub returns : goal.returns
returns g c =
    let answer = c.commit-committed in
    performed g.N.PhaseName.initial c.args.floor.now c.args.worker c.args.permit.now answer.new.self c.requires c.args.request.now _ answer.result answer.ensures.dealt answer.ensures.failed
