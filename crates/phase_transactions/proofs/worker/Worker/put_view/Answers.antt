use Rattle.std.proofs.Common.{◌≡◌, [], ◌∷◌, sym, ap, subst, ◌∙◌}
use Rattle.item_shards.specs.declared.shard.acts.Act.TheVariants.{Look}
use Rattle.item_shards.specs.declared.shard.acts.Look.TheVariants as look
use Rattle.shard_boxes.specs.{Helds.{IsHeldFor, IsPutWith}, Keys.{KeyState}, Lines.{line_of}}
use Rattle.phase_transactions.proofs.PutAllLemmas.{none_put, put_more}
use Rattle.phase_transactions.proofs.ViewLemmas.{one_held, view_commits, view_entered}
use Rattle.phase_transactions.specs.{Putting.{HasPutAll}, Workers.{WorkerState, with_entry}}
use Rattle.phase_transactions.specs.inner.Begun.{begun_of, step_of}
use Rattle.phase_transactions.specs.inner.Takens.{held_in, numbers_of, is_one_of, dealt, line_among}
use Rattle.phase_transactions.proofs.worker.Worker.put_view.Goals as goal

pub put_acts-requires-clause-of : goal.put_acts-requires-clause-of
put_acts-requires-clause-of g c = subst (λ (s : WorkerState). s.key.boxes ≡ c.args.boxes.now) (sym c.self.view_is) c.requires.begun.1.1.held.boxes_are

pub put_acts-requires-clause-held : goal.put_acts-requires-clause-held
put_acts-requires-clause-held g c =
    let one = c.args.one in
    subst (λ (s : WorkerState). IsHeldFor g.N.PhaseName.initial s.key one.held one.number) (sym c.self.view_is) (one_held one c.requires.begun.1.1)

pub put_acts-requires-clause-can : goal.put_acts-requires-clause-can
put_acts-requires-clause-can g c = (tt, (tt, tt))

pub returns : goal.returns
returns g c = λ before its.
    let initial = g.N.PhaseName.initial in let w = c.args.self.now in let view = c.args.view.now in
    let one = c.args.one in let begun = its.1 in let shown = c.requires.shown in
    let step = step_of initial g.N.PhaseName.workers c.args.boxes.now before its.0 in
    let request = view.call.request.now in let took = (begun_of one).taken in
    let number = one.number in let index = view.call.index in let new = c.add_entry.new.self in
    let acts = Look view.look ∷ Look look.Nothing ∷ [] in
    let lines = line_among number index (held_in took) (dealt took acts) in
    let key_is : new.key ≡ c.put_acts.new.key = ap (λ (s : WorkerState). s.key) c.add_entry.ensures.entry in
    let put = subst (λ (s : WorkerState). IsPutWith initial s.key c.put_acts.new.key one.held (line_of number index acts one.held.shard)) c.self.view_is c.put_acts.ensures in
    view_commits step w request (begun_of one) begun c.requires.view new index view.answer view.look shown.asked shown.answers (shown.holds, tt)
    (subst (λ (k : KeyState). HasPutAll initial w.key k (is_one_of (numbers_of (held_in took))) lines) (sym key_is)
    (put_more _ begun.held put (λ none. none_put _ _ none.holds)))
    (c.add_entry.ensures.entry ∙ (λ i. record (with_entry (c.self.view_is i) number index request view.answer) { key = sym key_is i })
    ∙ (λ i. record (view_entered w number index request view.answer c.requires.view i) { key = new.key }))
