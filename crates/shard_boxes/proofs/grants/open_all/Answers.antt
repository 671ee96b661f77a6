use Rattle.std.proofs.Common.{◌+◌, ◌<◌, length, le_refl, zero-add, refl, sym, ap, ◌∙◌, subst, arith}
use Rattle.std.specs.Vec.Iter.{into_iter_items}
use Rattle.shard_boxes.proofs.Each.{drop_next, at_head, is_next, one_on, all_gone}
use Rattle.shard_boxes.proofs.GrantLemmas.{opened_ready, place_is, as_many, as_many_states, state_is}
use Rattle.shard_boxes.proofs.{KeySteps.{same_places}, Sweeps.{swept_more}}
use Rattle.shard_boxes.specs.{Passes.{GrantState}, States.{IsWithin, state_at}}
use Rattle.shard_boxes.specs.inner.Passing.{IsSpare}
use Rattle.shard_boxes.specs.inner.Grants.{IsNewView}
use Rattle.shard_boxes.proofs.grants.open_all.Goals as goal

pub loop-shard-init : goal.loop-shard-init
loop-shard-init g c = (
  zero-add _ ∙ c.into_iter-shard-iterator.ensures.into_iter_gives.1 ∙ c.args.shards.ok.0 ∙ as_many_states c.args.shards.items g.N.PhaseName.initial c.requires.opening,
  c.into_iter-shard-iterator.ensures.into_iter_gives.0,
  c.requires.spare.0,
  ((λ k d low. absurd (omega arith)), λ k d from low. c.requires.spare.1 k d low),
)

pub open-requires : goal.open-requires
open-requires g c =
    let initial = g.N.PhaseName.initial in let boxes = c.args.boxes.now in let shards = c.args.shards.items in let shard = c.in-Some.shard in
    let was = c.loop-shard.invariant in let step = c.in-Some.ensures.steps in
    let s = c.loop-shard.s in let grants = c.loop-shard.grants.items in let grant = c.index_mut.result.now in
    let low : s < length initial = is_next _ _ _ _ _ step.1 was.0 refl in
    let there : s < length shards = subst (λ n. s < n) (sym (as_many_states shards initial c.requires.opening)) low in
    let below : s < length grants = subst (λ n. s < n) (sym (as_many grants boxes was.2 ∙ c.requires.boxes)) low in
    let at = c.index_mut.ensures.value in
    let state = state_is shards initial s shard c.requires.opening there (at_head shards s shard (into_iter_items c.next.new.self) shard (sym step.0 ∙ was.1)) in
    record {
      place = place_is grants boxes s grant c.index-boxes-s.result was.2 below at c.index-boxes-s.is;
      spare = subst (λ (l : GrantState). IsSpare l.knows) (sym at) (was.3.1 s grant (le_refl s) below);
      within = subst IsWithin (sym state) (c.requires.opened s low).within;
    }

pub loop-shard-preserved : goal.loop-shard-preserved
loop-shard-preserved g c =
    let initial = g.N.PhaseName.initial in let workers = g.N.PhaseName.workers in let shards = c.args.shards.items in let shard = c.in-Some.shard in
    let was = c.loop-shard.invariant in let step = c.in-Some.ensures.steps in
    let s = c.loop-shard.s in let grants = c.loop-shard.grants.items in
    let grant = c.index_mut.result.now in let at = c.index_mut.ensures.value in
    let low : s < length initial = is_next _ _ _ _ _ step.1 was.0 refl in
    let there : s < length shards = subst (λ n. s < n) (sym (as_many_states shards initial c.requires.opening)) low in
    let below : s < length grants = subst (λ n. s < n) (sym (as_many grants c.args.boxes.now was.2 ∙ c.requires.boxes)) low in
    let state = state_is shards initial s shard c.requires.opening there (at_head shards s shard (into_iter_items c.next.new.self) shard (sym step.0 ∙ was.1)) in (
      one_on _ _ _ _ step.1 was.0,
      drop_next shards s (s + 1) shard (into_iter_items c.next.new.self) (sym step.0 ∙ was.1) refl,
      same_places grants s grant c.open.new.grant at (ap (λ (l : GrantState). l.box_id) c.open.ensures) ∙ was.2,
      swept_more (λ k (x : GrantState). IsNewView (state_at initial k) workers 0 workers x.knows) (λ k (x : GrantState). IsSpare x.knows) grants s (s + 1) c.open.new.grant below was.3
          (opened_ready (state_at initial s) workers c.open.new.grant.knows shard (ap (λ (l : GrantState). l.knows) c.open.ensures) state) refl,
    )

pub returns : goal.returns
returns g c =
    let was = c.loop-shard.invariant in let grants = c.loop-shard.grants.items in
    (was.2, λ s d low. was.3.0 s d (all_gone _ _ _ _ _ c.in-None.ensures.steps.0 was.0 (as_many grants c.args.boxes.now was.2 ∙ c.requires.boxes) low))

pub bounds-boxes-s : goal.bounds-boxes-s
bounds-boxes-s g c = is_next _ _ _ _ _ c.in-Some.ensures.steps.1 c.loop-shard.invariant.0 c.requires.boxes

pub index_mut-requires : goal.index_mut-requires
index_mut-requires g c =
    let was = c.loop-shard.invariant in
    is_next _ _ _ _ _ c.in-Some.ensures.steps.1 was.0 (c.loop-shard.grants.ok.0 ∙ as_many c.loop-shard.grants.items c.args.boxes.now was.2 ∙ c.requires.boxes)
