use Rattle.std.proofs.Common.{arith, ◌≡◌, ◌+◌, ◌<◌, le_of_eq, le_trans, List, [], ◌∷◌, ◌++◌, length, append-nil, sym, ap, ◌∙◌, subst}
use Rattle.std.{proofs.lemmas.List.{nil_from_length}, specs.List.{AllByRecursion}}
use Rattle.phase_laws.proofs.OrderLemmas.{all-weaker}
use Rattle.shard_boxes.proofs.{Each.{shorter}, GrantLemmas.{spent_at, whole_is, one_more, as_many}}
use Rattle.shard_boxes.specs.{Keys.{BoxId, lines_at}, inner.Grants.{AreFree}}
use Rattle.shard_boxes.proofs.grants.collect_all.Goals as goal

pub collect-grants-requires-clause-of : goal.collect-grants-requires-clause-of
collect-grants-requires-clause-of g c =
    (spent_at c.args.boxes.now g.N.PhaseName.workers c.pop-in-loop-key.new.self.items c.loop-key.keys.items c.loop-key.invariant.0 c.args.keys.items c.in-Some-pop.key c.requires.spent c.in-Some-pop.ensures.items c.loop-key.invariant.1).boxes_are

pub collect-grants-requires-clause-free : goal.collect-grants-requires-clause-free
collect-grants-requires-clause-free g c =
    (spent_at c.args.boxes.now g.N.PhaseName.workers c.pop-in-loop-key.new.self.items c.loop-key.keys.items c.loop-key.invariant.0 c.args.keys.items c.in-Some-pop.key c.requires.spent c.in-Some-pop.ensures.items c.loop-key.invariant.1).idle

pub collect-grants-requires-clause-others : goal.collect-grants-requires-clause-others
collect-grants-requires-clause-others g c =
    let front = c.pop-in-loop-key.new.self.items in let key = c.in-Some-pop.key in let was = c.loop-key.invariant in
    let spent = spent_at c.args.boxes.now g.N.PhaseName.workers front c.loop-key.keys.items was.0 c.args.keys.items key c.requires.spent c.in-Some-pop.ensures.items was.1 in
    let next : length c.loop-key.keys.items ≡ key.worker + 1 = one_more front c.loop-key.keys.items key c.in-Some-pop.ensures.items ∙ ap (λ n. n + 1) (sym spent.worker_is) in
    subst (λ n. AreFree g.N.PhaseName.initial g.N.PhaseName.workers c.args.boxes.now n c.loop-key.grants.items) next was.2

pub loop-key-preserved : goal.loop-key-preserved
loop-key-preserved g c =
    let boxes = c.args.boxes.now in
    let front = c.pop-in-loop-key.new.self.items in let key = c.in-Some-pop.key in let was = c.loop-key.invariant in
    let spent = spent_at boxes g.N.PhaseName.workers front c.loop-key.keys.items was.0 c.args.keys.items key c.requires.spent c.in-Some-pop.ensures.items was.1 in
    let made = c.collect-grants.ensures in (
      key ∷ was.0,
      whole_is front c.loop-key.keys.items was.0 c.args.keys.items key c.in-Some-pop.ensures.items was.1,
      subst (λ n. AreFree g.N.PhaseName.initial g.N.PhaseName.workers boxes n c.collect-grants.result.items) spent.worker_is made.free,
      λ s d low.
          let same : length c.collect-grants.result.items ≡ length c.loop-key.grants.items = as_many c.collect-grants.result.items boxes made.free.0 ∙ sym (as_many c.loop-key.grants.items boxes was.2.0) in
          made.own s d low ∙ ap (λ l. lines_at key s ∷ l) (was.3 s d (subst (λ n. s < n) same low)),
      λ s d low.
          let same : length c.collect-grants.result.items ≡ length c.loop-key.grants.items = as_many c.collect-grants.result.items boxes made.free.0 ∙ sym (as_many c.loop-key.grants.items boxes was.2.0) in
          let seen = made.seen s d low in
          (seen.0, all-weaker _ _ (λ k less. le_trans less seen.1) was.0 (was.4 s d (subst (λ n. s < n) same low))),
    )

pub grants-grants-requires : goal.grants-grants-requires
grants-grants-requires g c =
    let keys = c.args.keys.items in
    (spent_at c.args.boxes.now g.N.PhaseName.workers c.pop.new.self.items keys [] keys c.in-Some.last c.requires.spent c.in-Some.ensures.items (append-nil keys)).idle

pub loop-key-init : goal.loop-key-init
loop-key-init g c =
    let boxes = c.args.boxes.now in let keys = c.args.keys.items in let last = c.in-Some.last in
    let spent = spent_at boxes g.N.PhaseName.workers c.pop.new.self.items keys [] keys last c.requires.spent c.in-Some.ensures.items (append-nil keys) in
    let grants = c.grants-grants.result.items in let made = c.grants-grants.ensures in (
      last ∷ [],
      sym c.in-Some.ensures.items,
      subst (λ n. AreFree g.N.PhaseName.initial g.N.PhaseName.workers boxes n grants) spent.worker_is (subst (λ (boxes : List BoxId). AreFree g.N.PhaseName.initial g.N.PhaseName.workers boxes last.worker grants) spent.boxes_are made.free),
      made.own,
      λ s d low. (le_of_eq (sym (made.seen s d low)), tt),
    )

pub loop-key-smaller : goal.loop-key-smaller
loop-key-smaller g c = shorter _ _ c.in-Some-pop.ensures.len

pub returns-clause-seen : goal.returns-clause-seen
returns-clause-seen g c =
    let was = c.loop-key.invariant in
    let none : c.loop-key.keys.items ≡ [] = nil_from_length c.loop-key.keys.items (grind (arith, c.loop-key.keys.ok.0, c.in_default-pop.ensures.variant)) in
    λ s d low. subst (AllByRecursion _) (sym (ap (λ keys. keys ++ was.0) none) ∙ was.1) (was.4 s d low)
