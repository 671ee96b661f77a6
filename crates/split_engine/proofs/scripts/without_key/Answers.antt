use Rattle.std.proofs.Common.{Some, ap, sym, ◌∙◌, subst, arith}
use Rattle.std.proofs.lemmas.{Bool.{false≢true}, List.{take_all}, Option.{slice_get-get_or}}
use Rattle.std.specs.List.{AllByRecursion}
use Rattle.split_engine.{proofs.Works.{all_take}, specs.Serial.{IsWithin}}
use Rattle.split_engine.proofs.scripts.without_key.Goals as goal

pub loop-index-preserved : goal.loop-index-preserved
loop-index-preserved g c =
    all_take (IsWithin g.A.Application.rules c.args.records) c.args.script.now c.loop-index.index c.index-script-index.result c.loop-index-test.true c.index-script-index.is
    c.loop-index.invariant (c.is_within.ensures.0 c.if-not-is_within.false)

-- the request names a key that is not there
pub returns-then-not-is_within : goal.returns-then-not-is_within
returns-then-not-is_within g c =
    let request = c.index-script-index.result in (
      request,
      slice_get-get_or c.args.script.now c.loop-index.index request c.loop-index-test.true ∙ ap Some (sym c.index-script-index.is),
      λ within. false≢true (sym c.if-not-is_within.true ∙ c.is_within.ensures.1 within),
    )

pub returns : goal.returns
returns g c =
    subst (AllByRecursion (IsWithin g.A.Application.rules c.args.records))
    (take_all c.loop-index.index c.args.script.now (omega (arith, c.loop-index-test.false))) c.loop-index.invariant
