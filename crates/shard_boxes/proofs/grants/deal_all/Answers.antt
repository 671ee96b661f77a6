use Rattle.std.proofs.Common.{◌≡◌, ◌+◌, ◌<◌, ◌≤◌, length, lt_of_lt_of_le, refl, sym, ap, ◌∙◌, subst, arith, vec_len, vec_capacity}
use Rattle.std.specs.Vec.Iter.{into_iter_items}
use Rattle.shard_boxes.proofs.Each.{each_push, drop_next, at_head, is_next, one_on, none_left}
use Rattle.shard_boxes.specs.Keys.{IsNewKey, no_key}
use Rattle.shard_boxes.proofs.grants.deal_all.Goals as goal

pub overflow_add-worker : goal.overflow_add-worker
overflow_add-worker g c = let step = c.in-Some.ensures.steps in omega (arith, step.1, c.loop-room.invariant.0, c.requires.workers)

pub deal-requires-clause-worker : goal.deal-requires-clause-worker
deal-requires-clause-worker g c = is_next _ _ _ _ _ c.in-Some.ensures.steps.1 c.loop-room.invariant.0 refl

pub deal-requires-clause-few : goal.deal-requires-clause-few
deal-requires-clause-few g c = c.requires.few

pub deal-requires-clause-boxes : goal.deal-requires-clause-boxes
deal-requires-clause-boxes g c = c.requires.boxes

pub deal-requires-clause-grants : goal.deal-requires-clause-grants
deal-requires-clause-grants g c = c.loop-room.invariant.2

pub deal-requires-clause-room : goal.deal-requires-clause-room
deal-requires-clause-room g c =
    let was = c.loop-room.invariant in let step = c.in-Some.ensures.steps in let room = c.in-Some.room in
    let at = at_head c.args.rooms.items c.loop-room.worker room (into_iter_items c.next.new.self) room (sym step.0 ∙ was.1) in
    let each = c.requires.each c.loop-room.worker room (is_next _ _ _ _ _ step.1 was.0 refl) in
    (ap vec_len (sym at) ∙ each.0, subst (λ n. length g.N.PhaseName.initial ≤ n) (ap vec_capacity at) each.1)

pub loop-room-preserved : goal.loop-room-preserved
loop-room-preserved g c =
    let was = c.loop-room.invariant in let step = c.in-Some.ensures.steps in let p = c.push_reserved.ensures in
    let worker = c.loop-room.worker in (
      one_on _ _ _ _ step.1 was.0,
      drop_next c.args.rooms.items worker (worker + 1) c.in-Some.room (into_iter_items c.next.new.self) (sym step.0 ∙ was.1) refl,
      c.deal.ensures.grants,
      p.len ∙ ap (λ n. n + 1) was.3,
      subst (λ n. g.N.PhaseName.workers ≤ n) (sym p.capacity) was.4,
      λ w low. each_push (λ j k. IsNewKey c.args.boxes.now j k) c.loop-room.keys.items c.push_reserved.new.self.items c.deal.result no_key worker (sym c.loop-room.keys.ok.0 ∙ was.3) p.items was.5 c.deal.ensures.key w low,
    )

pub returns : goal.returns
returns g c =
    let was = c.loop-room.invariant in let all : c.loop-room.worker ≡ g.N.PhaseName.workers = none_left _ _ _ c.in-None.ensures.steps.0 was.0 in
    (sym c.loop-room.keys.ok.0 ∙ was.3 ∙ all, λ w low. was.5 w (subst (λ n. w < n) (sym all) low))

pub push_reserved-requires : goal.push_reserved-requires
push_reserved-requires g c =
    let was = c.loop-room.invariant in
    lt_of_lt_of_le (subst (λ n. n < g.N.PhaseName.workers) (sym was.3) (is_next _ _ _ _ _ c.in-Some.ensures.steps.1 was.0 refl)) was.4
