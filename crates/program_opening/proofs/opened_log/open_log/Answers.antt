use Rattle.std.proofs.lemmas.Result.{IfOk-weaker}
use Rattle.phase_floor.specs.Adding.{HasBook}
use Rattle.program_opening.proofs.opened_log.open_log.Goals as goal

pub returns-in-Ok-clause-opens : goal.returns-in-Ok-clause-opens
returns-in-Ok-clause-opens g c = c.open_file.ensures.opens

pub returns-in-Ok-clause-has : goal.returns-in-Ok-clause-has
returns-in-Ok-clause-has g c = IfOk-weaker c.open_file.result _ (λ opened. HasBook opened.auction) (λ opened was. record { book = was.book; is_of = was.start.is_of }) c.open_file.ensures.opens
