use Rattle.std.proofs.{Common.{◌∙◌, sym, below_more}, lemmas.Bool.{false≢true}}
use Rattle.run_phases.proofs.ScriptLemmas.{nothing_left, something_left, nobody}
use Rattle.run_phases.proofs.course.is_left_of.Goals as goal

pub loop-worker-preserved : goal.loop-worker-preserved
loop-worker-preserved c = below_more _ c.loop-worker.worker c.loop-worker.invariant
    (nothing_left c.args.scripts.now c.args.stashes.now c.args.first c.loop-worker.worker c.index-scripts-worker.result c.index-stashes-worker.result c.loop-worker-test.true c.requires
    c.index-scripts-worker.is c.index-stashes-worker.is
    (λ some. absurd (false≢true (sym c.if-has_left.false ∙ c.has_left.ensures.1 some))))

pub returns-then-has_left-clause-some : goal.returns-then-has_left-clause-some
returns-then-has_left-clause-some c = λ yes. (
  c.loop-worker.worker,
  something_left c.args.scripts.now c.args.stashes.now c.args.first c.loop-worker.worker c.index-scripts-worker.result c.index-stashes-worker.result c.loop-worker-test.true c.requires
      c.index-scripts-worker.is c.index-stashes-worker.is
      (c.has_left.ensures.0 c.if-has_left.true),
)

pub returns-clause-none : goal.returns-clause-none
returns-clause-none c = λ none.
    nobody c.args.scripts.now c.args.stashes.now c.args.first c.loop-worker.worker c.loop-worker-test.false
    c.requires c.loop-worker.invariant
