use Rattle.std.{proofs.Common.{◌+◌, ◌*◌, length, sym, subst, arith}, specs.List.{AllByRecursion}}
use Rattle.application_tests.specs.Model.{IsMadeBy}
use Rattle.application_tests.proofs.run_tests.a_run_goes_on.Goals as goal

-- the first run opens with counters that one act can make
pub run-requires-2-clause-fits : goal.run-requires-2-clause-fits
run-requires-2-clause-fits g c κs =
    let left = c.in_ok-outcome.ensures in
    let opened = subst (AllByRecursion (IsMadeBy 1)) (sym c.in_ok-counters.ensures.items) (omega arith, (omega arith, tt)) in (
      1 + 4 * length c.in_ok-outcome.outcome.history,
      omega (arith, left.count, c.in_ok-first.ensures.len, c.in_ok-second.ensures.len),
      left.fits 1 (omega arith) opened,
    )
