use Rattle.std.proofs.Common.{◌≡◌, ◌≤◌, suc, subst}
use Rattle.item_shards.specs.CommitNumbers.{last_number}
use Rattle.phase_transactions.proofs.AnswerLemmas.{refusal_stored, full_stored}
use Rattle.phase_transactions.specs.Workers.{WorkerState}
use Rattle.phase_transactions.proofs.worker.Worker.refuse.Goals as goal

pub returns : goal.returns
returns g c =
    refusal_stored c.args.self.now c.add_entry.new.self c.in_ok-number.number c.args.call.index c.args.call.request.now c.args.reason c.requires.refused c.requires.goes
    (subst (λ (s : WorkerState). c.in_ok-number.number ≡ suc s.clock) c.self.view_is c.in_ok-number.ensures.number) c.in_ok-number.ensures.within c.add_entry.ensures.entry

pub returns-in_err-number : goal.returns-in_err-number
returns-in_err-number g c =
    full_stored c.args.self.now c.args.call.request.now c.args.call.index c.from_residual.result c.in_err-number.field-0.0 c.from_residual.ensures.1 c.in_err-number.ensures.fault
    (subst (λ (s : WorkerState). last_number ≤ s.clock) c.self.view_is c.in_err-number.ensures.full)
