use Rattle.std.proofs.Common.{length, ap, refl, sym, ◌∙◌, arith, eqb-true}
use Rattle.std.proofs.lemmas.{Bool.{false≢true, eqb-false}, List.{length-map}}
use Rattle.split_engine.proofs.{Ends.{finished_at, finished_more, finished_whole}, States.{listed}}
use Rattle.split_engine.specs.Serving.{lists}
use Rattle.split_engine.proofs.runs.is_finished.Goals as goal
use Rattle.job_threads.proofs.ThreadLemmas.{none_left}

pub loop-worker-preserved : goal.loop-worker-preserved
loop-worker-preserved g c =
    let at = listed c.args.scripts.now c.loop-worker.worker c.index-scripts-worker.result c.loop-worker-test.true c.index-scripts-worker.is in
    let cursor = c.index-cursors-worker.result in
    finished_more (lists c.args.scripts.now) c.args.cursors.now c.loop-worker.worker c.index-scripts-worker.result.items cursor at.0 at.1
    (omega (arith, c.loop-worker-test.true, c.requires.len)) c.index-cursors-worker.is c.loop-worker.invariant (
      omega (arith, c.if-cursor-len.false, c.len.ensures, c.index-scripts-worker.result.ok.0),
      none_left cursor.stash.items _ cursor.stash.ok.0 (eqb-true _ 0 (sym c.is_empty.ensures ∙ c.if-not-is_empty.false)),
    )

-- requests of its script are left
pub returns-then-cursor-len : goal.returns-then-cursor-len
returns-then-cursor-len g c =
    let script = c.index-scripts-worker.result in let cursor = c.index-cursors-worker.result in
    let at = listed c.args.scripts.now c.loop-worker.worker script c.loop-worker-test.true c.index-scripts-worker.is in (
      λ is. absurd (false≢true is),
      λ all.
          let here = finished_at (lists c.args.scripts.now) c.args.cursors.now c.loop-worker.worker script.items cursor at.0 at.1
          (omega (arith, c.loop-worker-test.true, c.requires.len)) c.index-cursors-worker.is all in
          absurd (omega (arith, here.0, c.if-cursor-len.true, c.len.ensures, script.ok.0)),
    )

-- a request is put off
pub returns-then-not-is_empty : goal.returns-then-not-is_empty
returns-then-not-is_empty g c =
    let script = c.index-scripts-worker.result in let cursor = c.index-cursors-worker.result in
    let at = listed c.args.scripts.now c.loop-worker.worker script c.loop-worker-test.true c.index-scripts-worker.is in (
      λ is. absurd (false≢true is),
      λ all.
          let here = finished_at (lists c.args.scripts.now) c.args.cursors.now c.loop-worker.worker script.items cursor at.0 at.1
          (omega (arith, c.loop-worker-test.true, c.requires.len)) c.index-cursors-worker.is all in
          let some = eqb-false _ 0 (sym c.is_empty.ensures ∙ c.if-not-is_empty.true) in
          absurd (some (omega (arith, ap length here.1, cursor.stash.ok.0))),
    )

pub returns : goal.returns
returns g c =
    let scripts = lists c.args.scripts.now in let same = length-map c.args.scripts.now (λ v. v.items) in (
      λ is. finished_whole scripts c.args.cursors.now c.loop-worker.worker (omega (arith, c.loop-worker-test.false, same)) (omega (arith, c.requires.len, same)) c.loop-worker.invariant,
      λ all. refl,
    )
