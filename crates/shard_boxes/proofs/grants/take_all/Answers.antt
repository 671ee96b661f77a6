use Rattle.std.proofs.Common.{◌≡◌, ◌+◌, ◌<◌, ◌≤◌, length, map, slice_index_or, vec_capacity, le_refl, le_antisymm, lt_of_lt_of_le, refl, sym, ap, ◌∙◌, subst, arith}
use Rattle.std.proofs.lemmas.List.{length-map, get_or_default, map_push}
use Rattle.shard_boxes.proofs.Each.{each_push}
use Rattle.shard_boxes.proofs.GrantLemmas.{place_is, as_many, for_all, taken_spare, taken_is}
use Rattle.shard_boxes.proofs.{KeySteps.{same_places}, Sweeps.{swept_more}}
use Rattle.shard_boxes.specs.{Passes.{GrantState}, States.{state_of, state_at, no_shard}}
use Rattle.shard_boxes.specs.inner.Passing.{IsSpare}
use Rattle.shard_boxes.specs.inner.Grants.{IsFree, IsTaken, clock_at, clock_seen, own_at}
use Rattle.shard_boxes.proofs.grants.take_all.Goals as goal

pub loop-s-init : goal.loop-s-init
loop-s-init g c = (
  c.requires.closed_shards.0,
  c.requires.closed_shards.1,
  c.requires.free.0,
  (λ s d low. absurd (omega arith)),
  ((λ k d low. absurd (omega arith)), λ k d from low e. get_or_default c.args.grants.items k e d low),
)

pub take_last-shard-requires : goal.take_last-shard-requires
take_last-shard-requires g c =
    let initial = g.N.PhaseName.initial in let workers = g.N.PhaseName.workers in let boxes = c.args.boxes.now in let all = c.args.grants.items in
    let was = c.loop-s.invariant in let s = c.loop-s.s in let grants = c.loop-s.grants.items in
    let grant = c.index_mut.result.now in let at = c.index_mut.ensures.value in
    let below : s < length grants = subst (λ n. s < n) (sym (as_many grants boxes was.2)) c.loop-s-test.true in
    let low : s < length all = subst (λ n. s < n) (sym (as_many all boxes c.requires.free.0)) c.loop-s-test.true in
    let is : slice_index_or all s grant ≡ grant = was.4.1 s grant (le_refl s) below grant ∙ sym at in
    let free = subst (λ (l : GrantState). IsFree (state_at initial s) workers 0 l.knows) is (c.requires.free.1 s grant low) in
    record {
      place = place_is grants boxes s grant c.index-boxes-s.result was.2 below at c.index-boxes-s.is;
      all = for_all (state_at initial s) workers grant.knows free (ap (λ (l : GrantState). length l.knows.own) (sym is) ∙ c.requires.own s grant low);
      free = free.free;
    }

pub loop-s-preserved : goal.loop-s-preserved
loop-s-preserved g c =
    let initial = g.N.PhaseName.initial in let workers = g.N.PhaseName.workers in let boxes = c.args.boxes.now in let all = c.args.grants.items in
    let was = c.loop-s.invariant in let p = c.push_reserved.ensures in
    let s = c.loop-s.s in let grants = c.loop-s.grants.items in
    let grant = c.index_mut.result.now in let at = c.index_mut.ensures.value in
    let shard = c.take_last-shard.result in let after = c.take_last-shard.new.grant in let took = c.take_last-shard.ensures.taken in
    let below : s < length grants = subst (λ n. s < n) (sym (as_many grants boxes was.2)) c.loop-s-test.true in
    let low : s < length all = subst (λ n. s < n) (sym (as_many all boxes c.requires.free.0)) c.loop-s-test.true in
    let here : s < length initial = subst (λ n. s < n) c.requires.boxes c.loop-s-test.true in
    let is : (d : GrantState) → slice_index_or all s d ≡ grant = λ d. was.4.1 s grant (le_refl s) below d ∙ sym at in
    let free = subst (λ (l : GrantState). IsFree (state_at initial s) workers 0 l.knows) (is grant) (c.requires.free.1 s grant low) in
    let own : (d : GrantState) → own_at all s d ≡ grant.knows.own = λ d. ap (λ (l : GrantState). l.knows.own) (is d) in
    let same : length (map state_of c.loop-s.closed_shards.items) ≡ length c.loop-s.closed_shards.items = simp length-map in
    let many : length (map state_of c.loop-s.closed_shards.items) ≡ s = same ∙ sym c.loop-s.closed_shards.ok.0 ∙ was.0 in
    let grown = ap (map state_of) p.items ∙ map_push state_of c.loop-s.closed_shards.items shard in (
      p.len ∙ ap (λ n. n + 1) was.0,
      subst (λ n. length initial ≤ n) (sym p.capacity) was.1,
      same_places grants s grant after at c.take_last-shard.ensures.place ∙ was.2,
      (λ k d lower. each_push (λ j state. IsTaken initial workers (own_at all j d) (clock_at all j d) j state) (map state_of c.loop-s.closed_shards.items) (map state_of c.push_reserved.new.self.items) (state_of shard) no_shard s many grown (λ j lo. was.3 j d lo)
          (subst (λ n. IsTaken initial workers (own_at all s d) n s (state_of shard)) (ap (λ (l : GrantState). clock_seen l.knows) (sym (is d)))
          (taken_is initial workers s grant.knows (own_at all s d) after.knows.seen (state_of shard) here (c.requires.opened s here) free (own d) (c.requires.own s d low) took.kept took.state took.later took.own)) k lower),
      swept_more (λ k (x : GrantState). IsSpare x.knows) (λ k (x : GrantState). (d : GrantState) → slice_index_or all k d ≡ x) grants s (s + 1) after below was.4
          (taken_spare grant.knows after.knows (for_all (state_at initial s) workers grant.knows free (ap length (sym (own grant)) ∙ c.requires.own s grant low)) took.view) refl,
    )

pub bounds-boxes-s : goal.bounds-boxes-s
bounds-boxes-s g c = c.loop-s-test.true

pub index_mut-requires : goal.index_mut-requires
index_mut-requires g c =
    let grants = c.loop-s.grants in
    subst (λ n. c.loop-s.s < n) (sym (grants.ok.0 ∙ as_many grants.items c.args.boxes.now c.loop-s.invariant.2)) c.loop-s-test.true

pub push_reserved-requires : goal.push_reserved-requires
push_reserved-requires g c =
    let was = c.loop-s.invariant in
    lt_of_lt_of_le (subst (λ n. n < length c.args.boxes.now) (sym was.0) c.loop-s-test.true) (subst (λ n. n ≤ vec_capacity c.loop-s.closed_shards) (sym c.requires.boxes) was.1)

pub returns-clause-len : goal.returns-clause-len
returns-clause-len g c = sym c.loop-s.closed_shards.ok.0 ∙ c.loop-s.invariant.0 ∙ le_antisymm c.loop-s.auto.s-end c.loop-s-test.false ∙ c.requires.boxes

pub returns-clause-each : goal.returns-clause-each
returns-clause-each g c = λ s d low. c.loop-s.invariant.3 s d (lt_of_lt_of_le (subst (λ n. s < n) (sym c.requires.boxes) low) c.loop-s-test.false)

pub returns-clause-spare : goal.returns-clause-spare
returns-clause-spare g c =
    let was = c.loop-s.invariant in
    (was.2, λ s d low. was.4.0 s d (lt_of_lt_of_le (subst (λ n. s < n) (as_many c.loop-s.grants.items c.args.boxes.now was.2) low) c.loop-s-test.false))
