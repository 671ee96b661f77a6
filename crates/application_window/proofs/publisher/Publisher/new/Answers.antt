use Rattle.std.proofs.Common.{rules}
use Rattle.application_window.proofs.publisher.Publisher.new.Goals as goal

pub returns-in-Ok-clause-nothing : goal.returns-in-Ok-clause-nothing
returns-in-Ok-clause-nothing g c = λ k d within. let one = c.in-Ok.ensures.made k d within in search rules

pub returns-in-Ok-clause-windows : goal.returns-in-Ok-clause-windows
returns-in-Ok-clause-windows g c = c.in-Ok.ensures.count
