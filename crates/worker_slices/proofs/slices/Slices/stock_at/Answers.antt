use Rattle.std.{proofs.Common.{◌≡◌, Some, sym, ap, subst, ◌∙◌}, specs.Map.{lookup}}
use Rattle.auction_rows.specs.contracts.requests.ObjectPartialEq.TheImpl.{eq-value as object_eq}
use Rattle.worker_slices.proofs.Places.{stock_found, at_and_there, none_at}
use Rattle.worker_slices.specs.Slicing.{stocks_of, stock_of, IsAt}
use Rattle.worker_slices.proofs.slices.Slices.stock_at.Goals as goal

pub returns-in-Some : goal.returns-in-Some
returns-in-Some c object at =
    let hots = c.self.inside.hot.entries in
    let here = at_and_there object hots c.args.place c.in-Some.field-0-0.now c.in-Some.hot.now (subst (λ hs. IsAt hs c.args.place object) (sym c.self.view_is) at) c.in-Some.ensures.entry in
    sym (stock_found object c.in-Some.hot.now hots (subst (λ o. lookup (object_eq.it o) hots ≡ Some c.in-Some.hot.now) here c.in-Some.ensures.value)) ∙ ap (λ hs. stock_of (stocks_of hs) object) c.self.view_is

pub returns-in-None : goal.returns-in-None
returns-in-None c object at = none_at object c.self.inside.hot.entries c.args.place (subst (λ hs. IsAt hs c.args.place object) (sym c.self.view_is) at) c.in-None.ensures.entry
