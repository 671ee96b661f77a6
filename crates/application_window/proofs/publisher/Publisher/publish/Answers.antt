use Rattle.std.proofs.Common.{refl, arith, ap}
use Rattle.application_window.proofs.publisher.Publisher.publish.Goals as goal

pub returns-then-len-self-clause-refused : goal.returns-then-len-self-clause-refused
returns-then-len-self-clause-refused g c =
    (refl, omega (arith, c.if-len-self.true, c.len.ensures, ap (λ s. s.room) c.self.view_is))
