use Rattle.std.proofs.{Common.{◌∙◌, refl, sym, arith, rules, below_more}, lemmas.Bool.{false≢true}}
use Rattle.auction_run.proofs.checks.are_short_on.Goals as goal

pub is_short_on-requires : goal.is_short_on-requires
is_short_on-requires g c = omega (arith, c.loop-worker-test.true, c.workers-worker-end.ensures, c.requires)

pub returns-then-not-is_short_on : goal.returns-then-not-is_short_on
returns-then-not-is_short_on g c = (
  λ yes. absurd (false≢true yes),
  λ short. absurd (false≢true (sym c.if-not-is_short_on.true ∙ c.is_short_on.ensures.1 (short c.loop-worker.worker (omega (arith, c.loop-worker-test.true, c.workers-worker-end.ensures))))),
)

pub loop-worker-preserved : goal.loop-worker-preserved
loop-worker-preserved g c = below_more _ c.loop-worker.worker c.loop-worker.invariant (c.is_short_on.ensures.0 (search rules))

pub returns : goal.returns
returns g c = (
  λ yes w low. c.loop-worker.invariant w (omega (arith, low, c.workers-worker-end.ensures, c.loop-worker-test.false)),
  λ short. refl,
)
