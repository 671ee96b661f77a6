use Rattle.std.proofs.Common.{◌≡◌, ℕ, ◌+◌, ◌<◌, ◌≤◌, slice_index_or, [], ◌∷◌, ◌++◌, length, le_refl, zero-add, zero-lt-suc, refl, sym, ap, ◌∙◌, subst, arith}
use Rattle.std.specs.Vec.Iter.{into_iter_items}
use Rattle.shard_boxes.proofs.Each.{drop_next, at_head, is_next, one_on, all_gone}
use Rattle.shard_boxes.proofs.{GrantLemmas.{place_is, as_many, joined_free, joined_clocks}, KeySteps.{same_places}}
use Rattle.shard_boxes.{proofs.Sweeps.{swept_more}, specs.{Helds.{taken_at}, Keys.{lines_at}}}
use Rattle.shard_boxes.specs.{Passes.{start_of, GrantState}, States.{state_at}}
use Rattle.shard_boxes.specs.inner.Passing.{Speaks}
use Rattle.shard_boxes.specs.declared.shard_box.Knowledge.{Knowledge}
use Rattle.shard_boxes.specs.inner.Grants.{IsFree, clock_at, clock_seen, own_at}
use Rattle.shard_boxes.proofs.grants.collect.Goals as goal

pub loop-other-init : goal.loop-other-init
loop-other-init g c =
    let boxes = c.args.boxes.now in let others = c.args.others.items in
    let gives = c.into_iter-other-iterator.ensures.into_iter_gives in let mine = c.grants-grants.ensures in (
      zero-add _ ∙ gives.1 ∙ c.args.others.ok.0 ∙ as_many others boxes c.requires.others.0 ∙ c.requires.boxes,
      gives.0,
      mine.free.0 ∙ c.requires.of,
      ((λ k d low. absurd (omega arith)), λ k d from low. (mine.free.1 k d low, mine.own k d low, mine.seen k d low)),
    )

pub collect-requires : goal.collect-requires
collect-requires g c =
    let boxes = c.args.boxes.now in let others = c.args.others.items in
    let was = c.loop-other.invariant in let step = c.in-Some.ensures.steps in
    let s = c.loop-other.s in let grants = c.loop-other.grants.items in let other = c.in-Some.other in let grant = c.index_mut.result.now in
    let low : s < length boxes = is_next _ _ _ _ _ step.1 was.0 c.requires.boxes in
    let below : s < length grants = subst (λ n. s < n) (sym (as_many grants boxes was.2)) low in
    let below' : s < length others = subst (λ n. s < n) (sym (as_many others boxes c.requires.others.0)) low in
    let at = c.index_mut.ensures.value in let mine = was.3.1 s grant (le_refl s) below in
    let one : length grant.knows.own ≡ 1 = ap (λ (l : GrantState). length l.knows.own) at ∙ ap length mine.1 in
    let from : grant.knows.first ≡ c.args.key.worker = ap (λ (l : GrantState). l.knows.first) at ∙ mine.0.from in
    let head = at_head others s other (into_iter_items c.next.new.self) other (sym step.0 ∙ was.1) in
    let theirs = c.requires.others.1 s other below' in
    let first : other.knows.first ≡ c.args.key.worker + 1 = ap (λ (l : GrantState). l.knows.first) (sym head) ∙ theirs.from in
    record {
      place = (place_is grants boxes s grant c.index-boxes-s.result was.2 below at c.index-boxes-s.is, place_is others boxes s other c.index-boxes-s.result c.requires.others.0 below' (sym head) c.index-boxes-s.is);
      speaks = (subst (λ n. 0 < n) (sym one) (zero-lt-suc 0), subst (λ (l : GrantState). Speaks l.knows) head theirs.speaks);
      free = (ap (λ (l : GrantState). l.knows.holds) at ∙ mine.0.free, ap (λ (l : GrantState). l.knows.holds) (sym head) ∙ theirs.free);
      next = first ∙ (λ i. sym from i + sym one i);
    }

pub loop-other-preserved : goal.loop-other-preserved
loop-other-preserved g c =
    let initial = g.N.PhaseName.initial in let workers = g.N.PhaseName.workers in
    let boxes = c.args.boxes.now in let others = c.args.others.items in let key = c.args.key in
    let was = c.loop-other.invariant in let step = c.in-Some.ensures.steps in
    let s = c.loop-other.s in let grants = c.loop-other.grants.items in let other = c.in-Some.other in let grant = c.index_mut.result.now in
    let at = c.index_mut.ensures.value in
    let low : s < length boxes = is_next _ _ _ _ _ step.1 was.0 c.requires.boxes in
    let below : s < length grants = subst (λ n. s < n) (sym (as_many grants boxes was.2)) low in
    let mine = subst (λ (l : GrantState). IsFree (state_at initial s) workers key.worker l.knows × (l.knows.own ≡ lines_at key s ∷ []) × (clock_seen l.knows ≡ (taken_at initial key s).clock)) (sym at) (was.3.1 s grant (le_refl s) below) in
    let new = ap (λ (l : GrantState). l.knows) c.collect.ensures in
    let at_other : (e : GrantState) → slice_index_or others s e ≡ other = (λ e. at_head others s other (into_iter_items c.next.new.self) e (sym step.0 ∙ was.1)) in
    let head : (e : GrantState) → own_at others s e ≡ other.knows.own = (λ e. ap (λ (l : GrantState). l.knows.own) (at_other e)) in
    let theirs : (e : GrantState) → clock_at others s e ≡ clock_seen other.knows = (λ e. ap (λ (l : GrantState). clock_seen l.knows) (at_other e)) in
    let below' : s < length others = subst (λ n. s < n) (sym (as_many others boxes c.requires.others.0)) low in
    let start : start_of other.knows ≡ state_at initial s = ap (λ (l : GrantState). start_of l.knows) (sym (at_other other)) ∙ (c.requires.others.1 s other below').start_is in
    let clocks = joined_clocks grant.knows other.knows (start ∙ sym mine.0.start_is) in (
      one_on _ _ _ _ step.1 was.0,
      drop_next others s (s + 1) other (into_iter_items c.next.new.self) (sym step.0 ∙ was.1) refl,
      same_places grants s grant c.collect.new.grant at (ap (λ (l : GrantState). l.box_id) c.collect.ensures) ∙ was.2,
      swept_more (λ k (x : GrantState). IsFree (state_at initial k) workers key.worker x.knows × ((e : GrantState) → (x.knows.own ≡ lines_at key k ∷ own_at others k e) × ((taken_at initial key k).clock ≤ clock_seen x.knows) × (clock_at others k e ≤ clock_seen x.knows)))
          (λ k (x : GrantState). IsFree (state_at initial k) workers key.worker x.knows × (x.knows.own ≡ lines_at key k ∷ []) × (clock_seen x.knows ≡ (taken_at initial key k).clock)) grants s (s + 1) c.collect.new.grant below was.3 (
            subst (IsFree (state_at initial s) workers key.worker) (sym new) (joined_free (state_at initial s) workers key.worker grant.knows other.knows mine.0),
            λ e. (
              ap (λ (v : Knowledge). v.own) new ∙ (λ i. mine.1 i ++ sym (head e) i),
              subst (λ n. n ≤ clock_seen c.collect.new.grant.knows) mine.2 (subst (λ (v : Knowledge). clock_seen grant.knows ≤ clock_seen v) (sym new) clocks.0),
              subst (λ n. n ≤ clock_seen c.collect.new.grant.knows) (sym (theirs e)) (subst (λ (v : Knowledge). clock_seen other.knows ≤ clock_seen v) (sym new) clocks.1),
            ),
          ) refl,
    )

pub returns : goal.returns
returns g c =
    let was = c.loop-other.invariant in let grants = c.loop-other.grants.items in
    let swept : (s : ℕ) → s < length grants → s < c.loop-other.s = λ s low. all_gone _ _ _ _ _ c.in-None.ensures.steps.0 was.0 (as_many grants c.args.boxes.now was.2 ∙ c.requires.boxes) low in
    record {
      free = (was.2, λ s d low. (was.3.0 s d (swept s low)).0);
      own = λ s d low. ((was.3.0 s d (swept s low)).1 d).0;
      seen = λ s d low. let made = (was.3.0 s d (swept s low)).1 d in (made.1, made.2);
    }

pub bounds-boxes-s : goal.bounds-boxes-s
bounds-boxes-s g c = is_next _ _ _ _ _ c.in-Some.ensures.steps.1 c.loop-other.invariant.0 c.requires.boxes

pub index_mut-requires : goal.index_mut-requires
index_mut-requires g c =
    let was = c.loop-other.invariant in
    is_next _ _ _ _ _ c.in-Some.ensures.steps.1 was.0 (c.loop-other.grants.ok.0 ∙ as_many c.loop-other.grants.items c.args.boxes.now was.2 ∙ c.requires.boxes)
