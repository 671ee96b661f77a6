use Rattle.std.proofs.{Common.{◌≡◌, ◌+◌, take, ap, refl, arith}, lemmas.{Bool.{false≢true}, List.{length-map, take_all}}}
use Rattle.split_engine.proofs.{Counts.{total_more, total_take}, States.{listed}}
use Rattle.split_engine.specs.Serving.{lists, total}
use Rattle.split_engine.proofs.scripts.are_few.Goals as goal

pub loop-script-preserved : goal.loop-script-preserved
loop-script-preserved g c =
    let scripts = lists c.args.scripts.now in let k = c.loop-script.script-index in let script = c.script-item.result in
    let at = listed c.args.scripts.now k script c.loop-script-test.true c.script-item.is in
    omega (arith, c.loop-script.invariant, total_more scripts k script.items at.0 at.1, c.if-long-left.false, c.len-long.ensures, script.ok.0)

pub returns-then-scripts-gt-MOST_COMMITS : goal.returns-then-scripts-gt-MOST_COMMITS
returns-then-scripts-gt-MOST_COMMITS g c =
    (λ is. absurd (false≢true is), λ few. absurd (omega (arith, few, c.if-scripts-gt-MOST_COMMITS.true)))

pub returns-then-long-left : goal.returns-then-long-left
returns-then-long-left g c =
    let scripts = lists c.args.scripts.now in let k = c.loop-script.script-index in let script = c.script-item.result in
    let at = listed c.args.scripts.now k script c.loop-script-test.true c.script-item.is in (
      λ is. absurd (false≢true is),
      λ few. absurd (omega (arith, few, c.loop-script.invariant, total_more scripts k script.items at.0 at.1, total_take scripts (k + 1), c.if-long-left.true, c.len-long.ensures, script.ok.0)),
    )

pub returns : goal.returns
returns g c =
    let scripts = lists c.args.scripts.now in let k = c.loop-script.script-index in
    let whole : total (take k scripts) ≡ total scripts =
    ap total (take_all k scripts (omega (arith, c.loop-script-test.false, length-map c.args.scripts.now (λ v. v.items)))) in
    (λ is. omega (arith, c.loop-script.invariant, whole), λ few. refl)
