use Rattle.std.proofs.Common.{rules, ◌≡◌, ◌<◌, ◌&&◌, true, false, length, ap, sym, ◌∙◌, subst}
use Rattle.std.specs.List.{list_all, AllByRecursion}
use Rattle.split_engine.specs.inner.Phases.{is_hot}
use Rattle.split_engine.proofs.split.are_hot.Goals as goal

pub loop-key-init : goal.loop-key-init
loop-key-init c =
    let all : c.into_iter-key-iterator.result ≡ c.args.keys.now = search rules in record {
      same = ap (list_all (is_hot c.args.hot.now)) all;
      within = subst (AllByRecursion (λ key. key < length c.args.hot.now)) (sym all) c.requires.within;
    }

pub bounds-hot-key : goal.bounds-hot-key
bounds-hot-key c = (subst (AllByRecursion (λ key. key < length c.args.hot.now)) c.in-Some.ensures.steps c.loop-key.invariant.within).0

pub returns-then-not-hot-key : goal.returns-then-not-hot-key
returns-then-not-hot-key c =
    let hot = is_hot c.args.hot.now in
    let cold : hot c.in-Some.key ≡ false = c.if-not-hot-key.true in
    sym (ap (λ first. first && list_all hot c.next.new.self) cold) ∙ ap (list_all hot) (sym c.in-Some.ensures.steps) ∙ c.loop-key.invariant.same

pub loop-key-preserved : goal.loop-key-preserved
loop-key-preserved c =
    let hot = is_hot c.args.hot.now in
    let within = subst (AllByRecursion (λ key. key < length c.args.hot.now)) c.in-Some.ensures.steps c.loop-key.invariant.within in
    let is : hot c.in-Some.key ≡ true = c.if-not-hot-key.false in record {
      same = sym (ap (λ first. first && list_all hot c.next.new.self) is) ∙ ap (list_all hot) (sym c.in-Some.ensures.steps) ∙ c.loop-key.invariant.same;
      within = within.1;
    }

pub returns : goal.returns
returns c = ap (list_all (is_hot c.args.hot.now)) (sym c.in-None.ensures.steps.0) ∙ c.loop-key.invariant.same
