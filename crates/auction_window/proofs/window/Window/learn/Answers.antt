use Rattle.std.proofs.Common.{List, subst}
use mathlib.Core.List.{IsPrefix}
use Rattle.auction_rows.specs.declared.rows.Row.{Row}
use Rattle.auction_window.proofs.window.Window.learn.Goals as goal

pub returns-clause-shown : goal.returns-clause-shown
returns-clause-shown g c = subst (λ (phases : List (List Row)). IsPrefix phases c.longer.result) c.self.view_is c.longer.ensures.this

pub returns-clause-told : goal.returns-clause-told
returns-clause-told g c = subst (λ (phases : List (List Row)). IsPrefix phases c.longer.result) c.told.view_is c.longer.ensures.that
