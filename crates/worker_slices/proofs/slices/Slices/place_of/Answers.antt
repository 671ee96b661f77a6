use Rattle.std.proofs.Common.{position, sym, ap, subst, ◌∙◌}
use Rattle.auction_rows.specs.Footprint.{is_hot}
use Rattle.auction_rows.specs.contracts.requests.ObjectPartialEq.TheImpl.{eq-value as object_eq}
use Rattle.worker_slices.proofs.GuessLemmas.{unguessed}
use Rattle.worker_slices.proofs.Places.{hot_where_at, hot_where_found, at_where_found}
use Rattle.worker_slices.specs.{Guessing.{AreGuessed}, Slicing.{hot_objects}}
use Rattle.worker_slices.proofs.slices.Slices.place_of.Goals as goal

pub returns-clause-hot : goal.returns-clause-hot
returns-clause-hot c =
    c.get_index_of.ensures.found ∙ hot_where_found c.args.object c.self.inside.hot.entries ∙ ap (λ hots. is_hot (hot_objects hots) c.args.object) c.self.view_is

pub returns-clause-at : goal.returns-clause-at
returns-clause-at c =
    at_where_found c.args.object c.args.self.now c.get_index_of.result (c.get_index_of.ensures.index ∙ ap (λ hots. position (object_eq.it c.args.object) (hot_objects hots)) c.self.view_is)

pub returns-then-is_at-clause-hot : goal.returns-then-is_at-clause-hot
returns-then-is_at-clause-hot c = sym (hot_where_at c.args.object c.args.self.now c.in-Some.guess c.if-is_at.ensures)

pub returns-then-is_at-clause-at : goal.returns-then-is_at-clause-at
returns-then-is_at-clause-at c = c.if-is_at.ensures

pub returns-in_default-clause-hot : goal.returns-in_default-clause-hot
returns-in_default-clause-hot c =
    let all = subst (λ hots. AreGuessed c.self.inside.guesses.places (hot_objects hots)) c.self.view_is c.self.invariant.1 in
    unguessed c.self.inside.guesses.places (hot_objects c.args.self.now) c.args.object all c.in_default.ensures
