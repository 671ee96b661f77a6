use Rattle.std.proofs.{Common.{subst}, lemmas.Result.{IfOk-weaker}}
use Rattle.item_shards.specs.OpeningBooks as opened
use Rattle.program_opening.proofs.ErrorLemmas.{error_is}
use Rattle.program_opening.specs.declared.faults.Fault.TheVariants.{Run}
use Rattle.auction_program.{proofs.Answering.{not_run}, specs.Execution.{IsNotRun}}
use Rattle.auction_program.specs.inner.Performing.{RefusesAsked}
use Rattle.auction_program.proofs.execution.perform.Goals as goal

pub perform_watched-requires-clause-report : goal.perform_watched-requires-clause-report
perform_watched-requires-clause-report g c = λ _ _. c.if-asked.true

pub returns-then-asked-clause-unasked : goal.returns-then-asked-clause-unasked
returns-then-asked-clause-unasked g c = IfOk-weaker c.perform_watched.result _ _ (λ performed is not. absurd (not c.if-asked.true)) c.perform_watched.ensures.performs

pub returns-in_err-outcome-clause-cause : goal.returns-in_err-outcome-clause-cause
returns-in_err-outcome-clause-cause g c =
    let asked = c.args.asked in let rows = opened.rows_of_book asked.book.now in let scripts = asked.scripts.items in
    let fault = c.in_err-outcome.field-0.0 in let refused = c.run.ensures.refused in
    error_is c.from_residual.result (Run fault) (RefusesAsked asked) c.from_residual.ensures
    (subst (λ p. IsNotRun p fault rows scripts) c.policy.ensures
    (not_run c.policy.result rows scripts c.run.result fault c.in_err-outcome.was refused.workers refused.shards refused.quota refused.too_long
    c.run.ensures.spawn c.run.ensures.numbers))
