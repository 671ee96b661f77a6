use Rattle.std.proofs.Common.{◌≡◌, ◌+◌, ◌-◌, ◌<◌, ◌≤◌, suc, length, get_or, vec_capacity, le_refl, le_antisymm, lt_of_lt_of_le, refl, sym, ap, ◌∙◌, subst, arith}
use Rattle.std.proofs.lemmas.List.{take_all}
use Rattle.shard_boxes.proofs.Each.{each_push}
use Rattle.shard_boxes.proofs.GrantLemmas.{rest_ready, first_ready, ready_for, places_more, place_is, new_key, as_many}
use Rattle.shard_boxes.proofs.{KeySteps.{same_places}, Sweeps.{swept_more}}
use Rattle.shard_boxes.specs.{Passes.{GrantState}, States.{state_at}}
use Rattle.shard_boxes.specs.inner.Passing.{Speaks}
use Rattle.shard_boxes.specs.{declared.shard_box.Knowledge.{Knowledge}, inner.Grants.{IsNewView}}
use Rattle.shard_boxes.specs.inner.Steps.{ready}
use Rattle.shard_boxes.proofs.grants.deal.Goals as goal

pub deal-requires : goal.deal-requires
deal-requires g c =
    let initial = g.N.PhaseName.initial in let workers = g.N.PhaseName.workers in let worker = c.args.worker in let boxes = c.args.boxes.now in
    let was = c.loop-s.invariant in let s = c.loop-s.s in let grants = c.loop-s.grants.items in
    let grant = c.index_mut.result.now in let at = c.index_mut.ensures.value in
    let below : s < length grants = subst (λ n. s < n) (sym (as_many grants boxes was.4)) c.loop-s-test.true in
    let knows = subst (λ (l : GrantState). IsNewView (state_at initial s) workers worker (workers - worker) l.knows) (sym at) (was.5.1 s grant (le_refl s) below) in
    let fewer : workers - worker ≡ suc (workers - (worker + 1)) = omega (arith, c.requires.worker) in
    record {
      place = place_is grants boxes s grant c.index-boxes-s.result was.4 below at c.index-boxes-s.is;
      speaks = subst Speaks (sym (knows.unused ∙ ap (ready grant.knows.start workers worker) fewer)) (omega arith);
      free = ap (λ (v : Knowledge). v.holds) knows.unused;
    }

pub loop-s-preserved : goal.loop-s-preserved
loop-s-preserved g c =
    let initial = g.N.PhaseName.initial in let workers = g.N.PhaseName.workers in let worker = c.args.worker in let boxes = c.args.boxes.now in
    let was = c.loop-s.invariant in let p = c.push_reserved.ensures in
    let s = c.loop-s.s in let grants = c.loop-s.grants.items in
    let grant = c.index_mut.result.now in let at = c.index_mut.ensures.value in
    let low : s < length boxes = c.loop-s-test.true in
    let below : s < length grants = subst (λ n. s < n) (sym (as_many grants boxes was.4)) low in
    let knows = subst (λ (l : GrantState). IsNewView (state_at initial s) workers worker (workers - worker) l.knows) (sym at) (was.5.1 s grant (le_refl s) below) in
    let fewer : workers - worker ≡ suc (workers - (worker + 1)) = omega (arith, c.requires.worker) in
    let left = ap (λ (l : GrantState). l.knows) c.deal.ensures.left in let right = ap (λ (l : GrantState). l.knows) c.deal.ensures.right in
    let place = place_is grants boxes s grant c.index-boxes-s.result was.4 below at c.index-boxes-s.is in (
      p.len ∙ ap (λ n. n + 1) was.0,
      subst (λ n. length initial ≤ n) (sym p.capacity) was.1,
      places_more c.loop-s.room.items c.push_reserved.new.self.items boxes s c.deal.result c.index-boxes-s.result low p.items was.2 (ap (λ (l : GrantState). l.box_id) c.deal.ensures.right ∙ place) c.index-boxes-s.is,
      (λ k d lower. each_push (λ j (x : GrantState). IsNewView (state_at initial j) workers worker 1 x.knows) c.loop-s.room.items c.push_reserved.new.self.items c.deal.result d s (sym c.loop-s.room.ok.0 ∙ was.0) p.items (λ j lo. was.3 j d lo)
          (subst (IsNewView (state_at initial s) workers worker 1) (sym right) (first_ready (state_at initial s) workers worker (workers - worker) (workers - (worker + 1)) grant.knows knows fewer)) k lower),
      same_places grants s grant c.deal.new.grant at (ap (λ (l : GrantState). l.box_id) c.deal.ensures.left) ∙ was.4,
      swept_more (λ k (x : GrantState). IsNewView (state_at initial k) workers (worker + 1) (workers - (worker + 1)) x.knows) (λ k (x : GrantState). IsNewView (state_at initial k) workers worker (workers - worker) x.knows)
          grants s (s + 1) c.deal.new.grant below was.5
          (subst (IsNewView (state_at initial s) workers (worker + 1) (workers - (worker + 1))) (sym left) (rest_ready (state_at initial s) workers worker (workers - worker) (workers - (worker + 1)) grant.knows knows fewer)) refl,
    )

pub returns-clause-key : goal.returns-clause-key
returns-clause-key g c =
    let was = c.loop-s.invariant in let room = c.loop-s.room.items in
    let long : length room ≡ c.loop-s.s = sym c.loop-s.room.ok.0 ∙ was.0 in
    new_key g.N.PhaseName.initial g.N.PhaseName.workers c.args.worker room c.args.boxes.now (was.2 ∙ take_all c.loop-s.s c.args.boxes.now c.loop-s-test.false) (λ k d low. was.3 k d (subst (λ n. k < n) long low))

pub invariant_of-result : goal.invariant_of-result
invariant_of-result g c =
    let initial = g.N.PhaseName.initial in let workers = g.N.PhaseName.workers in
    let was = c.loop-s.invariant in let room = c.loop-s.room.items in
    let long : length room ≡ c.loop-s.s = sym c.loop-s.room.ok.0 ∙ was.0 in (
      c.requires.worker,
      was.0 ∙ le_antisymm c.loop-s.auto.s-end c.loop-s-test.false ∙ c.requires.boxes,
      (λ s d low. ready_for initial workers s c.args.worker (get_or room s d) (was.3 s d (subst (λ n. s < n) long low))),
      c.requires.few.0,
      c.requires.few.1,
    )

pub returns-clause-grants : goal.returns-clause-grants
returns-clause-grants g c =
    let was = c.loop-s.invariant in let grants = c.loop-s.grants.items in
    (was.4, λ s d low. was.5.0 s d (lt_of_lt_of_le (subst (λ n. s < n) (as_many grants c.args.boxes.now was.4) low) c.loop-s-test.false))

pub bounds-boxes-s : goal.bounds-boxes-s
bounds-boxes-s g c = c.loop-s-test.true

pub index_mut-requires : goal.index_mut-requires
index_mut-requires g c =
    let grants = c.loop-s.grants in
    subst (λ n. c.loop-s.s < n) (sym (grants.ok.0 ∙ as_many grants.items c.args.boxes.now c.loop-s.invariant.4)) c.loop-s-test.true

pub push_reserved-requires : goal.push_reserved-requires
push_reserved-requires g c =
    let was = c.loop-s.invariant in
    lt_of_lt_of_le (subst (λ n. n < length c.args.boxes.now) (sym was.0) c.loop-s-test.true) (subst (λ n. n ≤ vec_capacity c.loop-s.room) (sym c.requires.boxes) was.1)
