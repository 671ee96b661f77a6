use Rattle.std.proofs.Common.{take}
use Rattle.application_window.specs.Published.{AreWithin}
use Rattle.application_window.proofs.publisher.are_within.Given as goal

abbrev pub invariant-loop-commit : goal.invariant-loop-commit
invariant-loop-commit g l = AreWithin g.A.Application.rules l.records (take l.commit-index l.part)
