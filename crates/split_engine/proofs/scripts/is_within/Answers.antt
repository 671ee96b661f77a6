use Rattle.std.proofs.{Common.{rules, ◌≡◌, ◌<◌, ◌∙◌, ℕ, refl, sym, subst, arith}, lemmas.Bool.{false≢true}}
use Rattle.std.specs.List.{AllByRecursion}
use Rattle.split_engine.proofs.scripts.is_within.Goals as goal

pub loop-key-init : goal.loop-key-init
loop-key-init g c =
    let P = AllByRecursion (λ (key : ℕ). key < c.args.records) in
    let all : c.into_iter-key-iterator.result ≡ c.keys-keys.result = search rules in
    record { enough = λ left. subst P (all ∙ c.keys-keys.ensures) left; needed = λ whole. subst P (sym (all ∙ c.keys-keys.ensures)) whole }

pub returns-then-key-records : goal.returns-then-key-records
returns-then-key-records g c =
    let P = AllByRecursion (λ (key : ℕ). key < c.args.records) in (
      λ is. absurd (false≢true is),
      λ whole.
          let first = (subst P c.in-Some.ensures.steps (c.loop-key.invariant.needed whole)).0 in
          absurd (omega (arith, first, c.if-key-records.true)),
    )

pub loop-key-preserved : goal.loop-key-preserved
loop-key-preserved g c =
    let P = AllByRecursion (λ (key : ℕ). key < c.args.records) in let was = c.loop-key.invariant in record {
      enough = λ left. was.enough (subst P (sym c.in-Some.ensures.steps) (c.if-key-records.false, left));
      needed = λ whole. (subst P c.in-Some.ensures.steps (was.needed whole)).1;
    }

pub returns : goal.returns
returns g c =
    let P = AllByRecursion (λ (key : ℕ). key < c.args.records) in
    (λ is. c.loop-key.invariant.enough (subst P (sym c.in-None.ensures.steps.0) tt), λ whole. refl)
