use Rattle.std.proofs.{Common.{◌∙◌, refl, subst, sym}, lemmas.{Bool.{false≢true}, List.{take_all}}}
use Rattle.std.specs.List.{AllByRecursion}
use Rattle.split_engine.{proofs.Works.{all_at, all_take}, specs.Serial.{IsWithin}}
use Rattle.application_window.proofs.publisher.are_within.Goals as goal

pub loop-commit-preserved : goal.loop-commit-preserved
loop-commit-preserved g c =
    all_take (λ e. IsWithin g.A.Application.rules c.args.records e.request) c.args.part.now c.loop-commit.commit-index c.commit-item.result c.loop-commit-test.true c.commit-item.is
    c.loop-commit.invariant (c.is_within.ensures.0 c.if-not-is_within.false)

pub returns-then-not-is_within : goal.returns-then-not-is_within
returns-then-not-is_within g c =
    let rules = g.A.Application.rules in let size = c.args.records in (
      λ is. absurd (false≢true is),
      λ all.
          let here = all_at (λ e. IsWithin rules size e.request) c.args.part.now c.loop-commit.commit-index c.commit-item.result c.loop-commit-test.true all in
          absurd (false≢true (sym c.if-not-is_within.true ∙ c.is_within.ensures.1 (subst (λ e. IsWithin rules size e.request) (sym c.commit-item.is) here))),
    )

pub returns : goal.returns
returns g c = (
  λ is. subst (AllByRecursion (λ e. IsWithin g.A.Application.rules c.args.records e.request)) (take_all c.loop-commit.commit-index c.args.part.now c.loop-commit-test.false) c.loop-commit.invariant,
  λ all. refl,
)
