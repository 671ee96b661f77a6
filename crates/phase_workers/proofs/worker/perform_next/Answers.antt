use Rattle.request_scripts.specs.Scripts.{request_of}
use Rattle.phase_workers.proofs.WorkLemmas.{dealt_found, failed_found}
use Rattle.phase_workers.proofs.worker.perform_next.Goals.{in-Some, in-None}
use Rattle.phase_workers.proofs.worker.perform_next.Goals as goal

pub returns-clause-dealt : goal.returns-clause-dealt
returns-clause-dealt g c request at =
    let initial = g.N.PhaseName.initial in let old = c.args.permit.now in
    elim c.match-bid.branch [
      | in-Some w ↦ dealt_found initial old c.match-bid.permit w.commit_bid-done.new.self c.args.script.now c.args.place (request_of w.in-Some.bid) request c.match-bid.done w.commit_bid-done.result
          at w.in-Some.ensures.bid w.permit-is w.done-is c.in_ok-done.field-0 c.in_ok-done.was w.commit_bid-done.ensures.dealt
      | in-None w ↦ dealt_found initial old c.match-bid.permit w.commit-done.new.self c.args.script.now c.args.place w.request.result request c.match-bid.done w.commit-done.result
          at w.request.ensures w.permit-is w.done-is c.in_ok-done.field-0 c.in_ok-done.was w.commit-done.ensures.dealt
    ]

pub returns-in_err-done-clause-failed : goal.returns-in_err-done-clause-failed
returns-in_err-done-clause-failed g c request at =
    let initial = g.N.PhaseName.initial in let old = c.args.permit.now in
    elim c.match-bid.branch [
      | in-Some w ↦ failed_found initial old c.match-bid.permit w.commit_bid-done.new.self c.args.script.now c.args.place (request_of w.in-Some.bid) request c.match-bid.done w.commit_bid-done.result
          at w.in-Some.ensures.bid w.permit-is w.done-is c.from_residual.result c.in_err-done.field-0.0 c.in_err-done.was c.from_residual.ensures.1 w.commit_bid-done.ensures.failed
      | in-None w ↦ failed_found initial old c.match-bid.permit w.commit-done.new.self c.args.script.now c.args.place w.request.result request c.match-bid.done w.commit-done.result
          at w.request.ensures w.permit-is w.done-is c.from_residual.result c.in_err-done.field-0.0 c.in_err-done.was c.from_residual.ensures.1 w.commit-done.ensures.failed
    ]
