use Rattle.std.{proofs.Common.{[], refl, sym, ap, ◌∙◌, subst}, specs.List.{IsDistinct}}
use Rattle.auction_rows.specs.Requests.{same_object}
use Rattle.phase_floor.proofs.BeginLemmas.{fits, joined_memory, joined_too_long, no_stashes, too_long}
use Rattle.phase_floor.proofs.joined.Joined.begin_joined.Goals.{After-new}
use Rattle.phase_floor.specs.{Begins.{IsTooLong}, Floors.{AreStocksOf}}
use Rattle.phase_floor.specs.States.{JoinedState, states_of}
use Rattle.phase_floor.proofs.joined.Joined.begin_joined.Given as given
use Rattle.phase_floor.proofs.joined.Joined.begin_joined.Goals as goal

no_two : IsDistinct same_object []
unfolding IsDistinct
no_two = tt

-- what each worker is asked for is not too much
short : (g : given.Over) (c : After-new g) → ¬ IsTooLong c.args.self.limit c.args.self.counters c.args.stashes.items c.args.quotas.now
short g c =
    fits c.is_too_long.result c.args.self.limit c.self.inside.limit c.args.self.counters c.deref.result.now c.args.stashes.items c.deref-2.result.now c.args.quotas.now (ap (λ (s : JoinedState). s.limit) c.self.view_is)
    (c.deref.ensures.value ∙ ap (λ (s : JoinedState). s.counters) c.self.view_is) c.deref-2.ensures.value c.is_too_long.ensures.1 c.if-is_too_long.false

pub begin-requires-clause-given : goal.begin-requires-clause-given
begin-requires-clause-given g c = record {
  stocks = subst (AreStocksOf c.args.self.opening (states_of c.args.self)) (sym c.new.ensures.items) (record { exist = tt; distinct = no_two; stocked = tt; read = tt });
  fits = short g (goal.at.begin-requires-clause-given g c).After-new;
  rooms = no_stashes c.new.result.items c.args.stashes.items c.args.quotas.now c.new.ensures.items;
}

pub begin-requires-clause-cold : goal.begin-requires-clause-cold
begin-requires-clause-cold g c = c.new.ensures.items

pub returns-in-Ok-clause-begun : goal.returns-in-Ok-clause-begun
returns-in-Ok-clause-begun g c =
    let e = c.in-Ok.ensures in record {
      opens = e.begun;
      cold = e.stocks ∙ c.new.ensures.items;
      fits = short g (goal.at.returns-in-Ok-clause-begun g c).After-new;
    }

pub returns-then-is_too_long-clause-refused : goal.returns-then-is_too_long-clause-refused
returns-then-is_too_long-clause-refused g c =
    joined_too_long c.args.self c.args.stashes c.args.quotas.now c.args.self c.args.stashes refl refl
    (too_long c.is_too_long.result c.args.self.limit c.self.inside.limit c.args.self.counters c.deref.result.now c.args.stashes.items c.deref-2.result.now c.args.quotas.now (ap (λ (s : JoinedState). s.limit) c.self.view_is)
    (c.deref.ensures.value ∙ ap (λ (s : JoinedState). s.counters) c.self.view_is) c.deref-2.ensures.value c.is_too_long.ensures.0 c.if-is_too_long.true)

pub returns-in-Err-clause-refused : goal.returns-in-Err-clause-refused
returns-in-Err-clause-refused g c =
    joined_memory c.args.self c.args.stashes c.args.quotas.now _ _ c.in-Err.ensures.refused.0 c.in-Err.ensures.refused.1
    (short g (goal.at.returns-in-Err-clause-refused g c).After-new)
