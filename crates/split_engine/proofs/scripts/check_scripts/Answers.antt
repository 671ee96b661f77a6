use Rattle.std.proofs.{Common.{◌+◌, ◌<◌, length, Some, ap, sym, ◌∙◌, subst, arith}, Math.Nat.{lt_of_not-le}}
use Rattle.std.proofs.lemmas.{Bool.{false≢true}, List.{length-map, take_all}, Option.{slice_get-get_or}}
use Rattle.std.specs.{List.{AllByRecursion}, Prelude.{[], slice_get, unwrap_or}}
use Rattle.split_engine.{proofs.{States.{listed}, Works.{all_take}}, specs.Serial.{IsWithin}}
use Rattle.split_engine.specs.{Serving.{lists, total}, declared.state.TheConstants.{MOST_COMMITS}}
use Rattle.split_engine.proofs.scripts.check_scripts.Goals as goal

pub loop-worker-preserved : goal.loop-worker-preserved
loop-worker-preserved g c =
    let P = AllByRecursion (IsWithin g.A.Application.rules c.args.records) in let script = c.index-scripts-worker.result in
    let at = listed c.args.scripts.now c.loop-worker.worker script c.loop-worker-test.true c.index-scripts-worker.is in
    all_take P (lists c.args.scripts.now) c.loop-worker.worker script.items at.0 at.1 c.loop-worker.invariant
    (subst P c.deref.ensures.value c.in_default.ensures)

pub returns-then-not-are_few-clause-fault : goal.returns-then-not-are_few-clause-fault
returns-then-not-are_few-clause-fault g c =
    let many : MOST_COMMITS < length c.args.scripts.now + total (lists c.args.scripts.now) =
    lt_of_not-le (λ few. false≢true (sym c.if-not-are_few.true ∙ c.are_few.ensures.1 few)) in
    omega (arith, many, length-map c.args.scripts.now (λ v. v.items))

pub returns-clause-ok : goal.returns-clause-ok
returns-clause-ok g c =
    let scripts = lists c.args.scripts.now in let few = c.are_few.ensures.0 c.if-not-are_few.false in record {
      few = omega (arith, few, length-map c.args.scripts.now (λ v. v.items));
      keys = subst (AllByRecursion (AllByRecursion (IsWithin g.A.Application.rules c.args.records)))
          (take_all c.loop-worker.worker scripts (omega (arith, c.loop-worker-test.false, length-map c.args.scripts.now (λ v. v.items)))) c.loop-worker.invariant;
    }

pub returns-in-Some-clause-fault : goal.returns-in-Some-clause-fault
returns-in-Some-clause-fault g c =
    let scripts = lists c.args.scripts.now in let k = c.loop-worker.worker in let script = c.index-scripts-worker.result in
    let at = listed c.args.scripts.now k script c.loop-worker-test.true c.index-scripts-worker.is in
    let found = c.in-Some.ensures in let there = slice_get-get_or scripts k script.items at.0 ∙ ap Some (sym at.1) in (
      found.0,
      ap (λ o. slice_get (unwrap_or o []) c.in-Some.index) there ∙ ap (λ s. slice_get s c.in-Some.index) (sym c.deref.ensures.value) ∙ found.1,
      found.2,
    )
