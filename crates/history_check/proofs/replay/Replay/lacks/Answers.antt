use Rattle.std.proofs.Common.{◌≡◌, ◌<◌, length, true, arith, ap}
use Rattle.run_laws.specs.Serving.{script_of}
use Rattle.history_check.proofs.ScriptLemmas.{script_there, worker_within, one_worker_more}
use Rattle.history_check.specs.Marks.{is_marked}
use Rattle.history_check.proofs.replay.Replay.lacks.Goals as goal

pub lacks-requires-clause-places : goal.lacks-requires-clause-places
lacks-requires-clause-places c =
    let here = script_there c.args.scripts.now c.loop-worker.worker c.index-scripts-worker.result c.loop-worker-test.true c.index-scripts-worker.is in
    omega (arith, c.requires.taken.taken.places c.loop-worker.worker, ap length here, c.len.ensures)

pub returns-in-Some-clause-some : goal.returns-in-Some-clause-some
returns-in-Some-clause-some c =
    let here = script_there c.args.scripts.now c.loop-worker.worker c.index-scripts-worker.result c.loop-worker-test.true c.index-scripts-worker.is in
    record {
      has_request = omega (arith, ap length here, c.in-Some.ensures.some.0, c.len.ensures);
      worker_below = omega (arith, c.requires.workers, c.loop-worker-test.true);
      no_mark = c.in-Some.ensures.some.1;
    }

pub loop-worker-preserved : goal.loop-worker-preserved
loop-worker-preserved c =
    let here = script_there c.args.scripts.now c.loop-worker.worker c.index-scripts-worker.result c.loop-worker-test.true c.index-scripts-worker.is in
    λ w i less. one_worker_more (λ w i. i < length (script_of c.args.scripts.now w) → is_marked c.args.self.now.marks.rows.items w i ≡ true) c.loop-worker.worker
    c.loop-worker.invariant (λ i within. c.in_default.ensures.none i (omega (arith, within, ap length here, c.len.ensures))) w i less

pub returns-clause-none : goal.returns-clause-none
returns-clause-none c = λ w i within. c.loop-worker.invariant w i (omega (arith, worker_within c.args.scripts.now w i within, c.loop-worker-test.false)) within
