use Rattle.std.proofs.{Common.{[], List, refl, sym, ap, ◌∙◌, subst}, lemmas.Bool.{false≢true}}
use Rattle.std.specs.List.{IsDistinct}
use Rattle.auction_rows.specs.Requests.{same_object}
use Rattle.worker_slices.{proofs.Places.{distinct_objects}, specs.Slicing.{hot_objects}}
use Rattle.worker_slices.specs.Stashes.{StashState}
use Rattle.phase_floor.proofs.BeginLemmas.{fits, not_too_long, own_stashes, split_memory, split_too_long, split_unknown, too_long}
use Rattle.phase_floor.proofs.joined.Joined.begin_split_in.Goals.{After-stocks_of}
use Rattle.phase_floor.specs.{Begins.{IsTooLong}, Floors.{AreBegun}}
use Rattle.phase_floor.specs.States.{JoinedState, DoAllExist, states_of}
use Rattle.phase_floor.specs.inner.Kits.{HaveStashRoom}
use Rattle.phase_floor.proofs.joined.Joined.begin_split_in.Given as given
use Rattle.phase_floor.proofs.joined.Joined.begin_split_in.Goals as goal

module _ (g : given.Over) (c : After-stocks_of g) where
  -- the hot objects exist
  known : DoAllExist c.args.self.opening (states_of c.args.self) c.args.hot.now.keys
  known = subst (DoAllExist c.args.self.opening (states_of c.args.self)) c.as_slice-objects.ensures.keys (c.do_exist.ensures.0 c.if-not-do_exist.false)

  -- what each worker is asked for is not too much
  short : ¬ IsTooLong c.args.self.limit c.args.self.counters [] c.args.quotas.now
  short =
      fits c.is_too_long.result c.args.self.limit c.self.inside.limit c.args.self.counters c.deref.result.now [] [] c.args.quotas.now (ap (λ (s : JoinedState). s.limit) c.self.view_is)
      (c.deref.ensures.value ∙ ap (λ (s : JoinedState). s.counters) c.self.view_is) refl c.is_too_long.ensures.1 c.if-is_too_long.false

pub begin-requires-clause-given : goal.begin-requires-clause-given
begin-requires-clause-given g c =
    let o = c.in-Ok.ensures in
    let after = (goal.at.begin-requires-clause-given g c).After-stocks_of in record {
      stocks = record {
        exist = subst (DoAllExist c.args.self.opening (states_of c.args.self)) (sym o.objects) (c.do_exist.ensures.0 c.if-not-do_exist.false);
        distinct = subst (IsDistinct same_object) (sym (o.objects ∙ c.as_slice-objects.ensures.keys)) (distinct_objects c.args.hot.now.keys c.as_slice-objects.ensures.unique);
        stocked = o.stocked;
        read = o.read;
      };
      fits = subst (λ (stashes : List StashState). ¬ IsTooLong c.args.self.limit c.args.self.counters stashes c.args.quotas.now) (sym c.in-Ok-new_stashes.ensures) (not_too_long c.args.self.limit c.args.self.counters c.args.quotas.now (short g after));
      rooms = subst (λ (stashes : List StashState). HaveStashRoom c.in-Ok.stocks.items stashes c.args.quotas.now) (sym c.in-Ok-new_stashes.ensures) (own_stashes c.in-Ok.stocks.items c.args.quotas.now);
    }

pub returns-in-Ok-begin-clause-begun : goal.returns-in-Ok-begin-clause-begun
returns-in-Ok-begin-clause-begun g c =
    let e = c.in-Ok-begin.ensures in let after = (goal.at.returns-in-Ok-begin-clause-begun g c).After-stocks_of in record {
      opens = record {
        opening = e.begun.opening;
        limit = e.begun.limit;
        phase = e.begun.phase;
        counters = e.begun.counters;
        permits = subst (λ (stashes : List StashState). AreBegun c.in-Ok-begin.begun.0 c.args.quotas.now stashes c.in-Ok-begin.begun.1.items) c.in-Ok-new_stashes.ensures e.begun.permits;
      };
      hot = ap hot_objects e.stocks ∙ c.in-Ok.ensures.objects ∙ c.as_slice-objects.ensures.keys;
      known = known g after;
      fits = short g after;
    }

pub returns-then-not-do_exist-clause-refused : goal.returns-then-not-do_exist-clause-refused
returns-then-not-do_exist-clause-refused g c =
    split_unknown c.args.self c.args.quotas.now c.args.hot.now.keys c.args.self refl
    (λ exist. false≢true (sym c.if-not-do_exist.true ∙ c.do_exist.ensures.1 (subst (DoAllExist c.args.self.opening (states_of c.args.self)) (sym c.as_slice-objects.ensures.keys) exist)))

pub returns-then-is_too_long-clause-refused : goal.returns-then-is_too_long-clause-refused
returns-then-is_too_long-clause-refused g c =
    split_too_long c.args.self c.args.quotas.now c.args.hot.now.keys c.args.self refl
    (subst (DoAllExist c.args.self.opening (states_of c.args.self)) c.as_slice-objects.ensures.keys (c.do_exist.ensures.0 c.if-not-do_exist.false))
    (too_long c.is_too_long.result c.args.self.limit c.self.inside.limit c.args.self.counters c.deref.result.now [] [] c.args.quotas.now (ap (λ (s : JoinedState). s.limit) c.self.view_is) (c.deref.ensures.value ∙ ap (λ (s : JoinedState). s.counters) c.self.view_is) refl c.is_too_long.ensures.0 c.if-is_too_long.true)

pub returns-in_default-clause-refused : goal.returns-in_default-clause-refused
returns-in_default-clause-refused g c =
    let after = (goal.at.returns-in_default-clause-refused g c).After-stocks_of in
    split_memory c.args.self c.args.quotas.now c.args.hot.now.keys c.args.self refl
    (known g after)
    (short g after)

pub returns-in_default-new_stashes-clause-refused : goal.returns-in_default-new_stashes-clause-refused
returns-in_default-new_stashes-clause-refused g c =
    let after = (goal.at.returns-in_default-new_stashes-clause-refused g c).After-stocks_of in
    split_memory c.args.self c.args.quotas.now c.args.hot.now.keys c.args.self refl
    (known g after)
    (short g after)

pub returns-clause-refused : goal.returns-clause-refused
returns-clause-refused g c =
    let after = (goal.at.returns-clause-refused g c).After-stocks_of in
    split_memory c.args.self c.args.quotas.now c.args.hot.now.keys _ c.in-Err.ensures.refused.0
    (known g after)
    (short g after)
