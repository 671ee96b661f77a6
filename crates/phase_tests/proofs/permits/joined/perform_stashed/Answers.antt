use Rattle.phase_tests.proofs.permits.AnswerLemmas.{performed_first, still_for}
use Rattle.phase_tests.proofs.permits.joined.perform_stashed.Goals as goal

pub returns : goal.returns
returns g c =
    let done = c.perform_stashed.ensures in
    still_for (performed_first g.N.PhaseName.initial c.args.permit.now c.perform_stashed.new.self c.perform_stashed.result done.unchanged done.performed done.failed) c.requires
