use Rattle.phase_tests.proofs.permits.AnswerLemmas.{performed, still_for}
use Rattle.phase_tests.proofs.permits.joined.perform.Goals as goal

pub returns : goal.returns
returns g c =
    let still = performed g.N.PhaseName.initial c.args.permit.now c.perform.new.self c.args.request.now c.args.index c.perform.result c.perform.ensures.committed c.perform.ensures.failed in
    record { permit = still_for still c.requires; worker = still.2 }
