use Rattle.std.proofs.Common.{◌≡◌, ℕ, ◌+◌, ◌<◌, get_or, length, refl, sym, ap, ◌∙◌, subst, arith}
use Rattle.std.{proofs.lemmas.List.{get_or_read}, specs.Vec.Iter.{into_iter_items}}
use Rattle.shard_boxes.proofs.Each.{at_head, each_push, drop_next}
use Rattle.phase_permits.specs.Kinds.{IsEmptyIf}
use Rattle.phase_transactions.specs.Workers.{new_worker, no_counters}
use Rattle.closing_laws.specs.Standing.{counters_at}
use Rattle.phase_floor.proofs.BeginLemmas.{begun_next, can_start, kit_cold}
use Rattle.phase_floor.proofs.floor.Floor.give.Goals.{After-index-counters}
use Rattle.phase_floor.specs.Floors.{FloorState, IsOpen, IsNewPermit, stash_at}
use Rattle.phase_floor.proofs.floor.Floor.give.Given as given
use Rattle.phase_floor.proofs.floor.Floor.give.Goals as goal

pub from_start-requires-clause-kind : goal.from_start-requires-clause-kind
from_start-requires-clause-kind g c =
    let was = c.loop-key.invariant in let step = c.in-Some.ensures.steps in let w = c.loop-key.w in let floor = c.args.self.now in
    let kits = c.args.kits.items in let kit = c.in-Some-next.field-0 in let left = into_iter_items c.next-in-loop-key.new.self in
    let below : w < g.N.PhaseName.workers = omega (arith, step.1, was.keys_left) in
    let cold = subst (λ (f : FloorState). IsEmptyIf g.K.Kind.IS_JOINED f.stocks) c.self.view_is c.self.invariant.0 in
    kit_cold g.K.Kind.IS_JOINED floor w _ (get_or kits w kit) kit (at_head kits w kit left kit (sym c.in-Some-next.ensures.cases.0 ∙ was.kits)) (c.requires.kits w kit below) cold

module _ (g : given.Over) (c : After-index-counters g) where
  abbrev w : ℕ
  w = c.loop-key.w

  below : w < g.N.PhaseName.workers
  below = omega (arith, c.in-Some.ensures.steps.1, c.loop-key.invariant.keys_left)

  -- the worker's permit is new
  begun : IsNewPermit c.args.self.now w (get_or c.args.quotas.now w 0) (stash_at c.args.stashes.items w)
      (new_worker c.in-Some.key c.self.inside.opening c.index-counters.result.now c.in-Some-next.field-0.journal c.in-Some-next-2.stash c.in-Some-next.field-0.slices (get_or c.args.quotas.now w 0) 0)
  begun =
      let was = c.loop-key.invariant in let floor = c.args.self.now in
      let counts : c.index-counters.result.now ≡ counters_at floor.counters w =
      get_or_read c.self.inside.counters.items _ _ (omega (arith, below, c.self.invariant.1.workers_are)) c.index-counters.ensures no_counters
      ∙ ap (λ (f : FloorState). counters_at f.counters w) c.self.view_is in
      begun_next floor g.N.PhaseName.workers w c.args.quotas.now c.args.keys.items (into_iter_items c.next.new.self) c.args.kits.items (into_iter_items c.next-in-loop-key.new.self)
      c.args.stashes.items (into_iter_items c.next-in-loop-key-2.new.self) c.requires.keys c.requires.kits below c.in-Some.key c.in-Some-next.field-0 c.in-Some-next-2.stash
      (sym c.in-Some.ensures.steps.0 ∙ was.keys) (sym c.in-Some-next.ensures.cases.0 ∙ was.kits) (sym c.in-Some-next-2.ensures.cases.0 ∙ was.stashes) (c.requires.fits w below)
      c.self.inside.opening c.index-counters.result.now (ap (λ (f : FloorState). f.opening) c.self.view_is) counts

pub from_start-requires-clause-can : goal.from_start-requires-clause-can
from_start-requires-clause-can g c =
    let after = (goal.at.from_start-requires-clause-can g c).After-index-counters in let w = c.loop-key.w in let workers = g.N.PhaseName.workers in
    can_start g.N.PhaseName.initial workers c.args.self.now (subst (IsOpen g.N.PhaseName.initial workers) c.self.view_is c.self.invariant.1) w _ (stash_at c.args.stashes.items w) _ (below g after)
    (c.requires.rooms w (omega (arith, below g after, c.requires.lens))) (begun g after)

pub loop-key-preserved : goal.loop-key-preserved
loop-key-preserved g c =
    let after = (goal.at.loop-key-preserved g c).After-index-counters in let was = c.loop-key.invariant in let w = c.loop-key.w in let floor = c.args.self.now in
    let step = c.in-Some.ensures.steps in let next = c.in-Some-next.ensures.cases in let third = c.in-Some-next-2.ensures.cases in let p = c.push_reserved.ensures in
    record {
      len = omega (arith, p.len, was.len);
      room = omega (arith, p.capacity, was.room);
      keys_left = omega (arith, step.1, was.keys_left);
      kits_left = omega (arith, next.1, was.kits_left);
      stashes_left = omega (arith, third.1, was.stashes_left);
      keys = drop_next c.args.keys.items w (w + 1) c.in-Some.key (into_iter_items c.next.new.self) (sym step.0 ∙ was.keys) refl;
      kits = drop_next c.args.kits.items w (w + 1) c.in-Some-next.field-0 (into_iter_items c.next-in-loop-key.new.self) (sym next.0 ∙ was.kits) refl;
      stashes = drop_next c.args.stashes.items w (w + 1) c.in-Some-next-2.stash (into_iter_items c.next-in-loop-key-2.new.self) (sym third.0 ∙ was.stashes) refl;
      each = λ v d low. each_push (λ k start. IsNewPermit floor k (get_or c.args.quotas.now k 0) (stash_at c.args.stashes.items k) start) c.loop-key.permits.items c.push_reserved.new.self.items
          c.from_start.result d w
          (omega (arith, was.len, c.loop-key.permits.ok.0)) p.items (λ k lower. was.each k d lower)
          (subst (IsNewPermit floor w (get_or c.args.quotas.now w 0) (stash_at c.args.stashes.items w)) (sym c.from_start.ensures) (begun g after)) v low;
    }

pub returns : goal.returns
returns g c =
    let was = c.loop-key.invariant in
    let all : c.loop-key.w ≡ g.N.PhaseName.workers = omega (arith, was.keys_left, c.in-None.ensures.steps) in
    let many = ap (λ (f : FloorState). length f.counters) (sym c.self.view_is) ∙ c.self.invariant.1.workers_are in (
      omega (arith, all, many, was.len, c.loop-key.permits.ok.0),
      λ w d low. was.each w d (omega (arith, all, many, low)),
    )
