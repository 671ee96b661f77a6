use Rattle.phase_floor.specs.Adding.{HasBook}
use Rattle.program_tests.proofs.limit_tests.almost_full.Given as goal

abbrev pub invariant-loop-comment : goal.invariant-loop-comment
invariant-loop-comment g l = HasBook l.auction
