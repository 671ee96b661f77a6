use Rattle.std.proofs.Common.{subst}
use mathlib.Core.List.{IsPrefix}
use Rattle.application_window.proofs.window.Window.learn.Goals as goal

pub returns-clause-shown : goal.returns-clause-shown
returns-clause-shown g c = subst (λ parts. IsPrefix parts c.longer.result) c.self.view_is c.longer.ensures.this

pub returns-clause-told : goal.returns-clause-told
returns-clause-told g c = subst (λ parts. IsPrefix parts c.longer.result) c.told.view_is c.longer.ensures.that
