use Rattle.std.proofs.Common.{◌≡◌, take}
use Rattle.split_engine.specs.Serving.{lists}
use Rattle.application_check.specs.inner.Marking.{no_marks}
use Rattle.application_check.proofs.marks.new_marks.Given as goal

abbrev pub invariant-loop-script : goal.invariant-loop-script
invariant-loop-script g l = lists l.marks.items ≡ no_marks (take l.script-index (lists l.scripts))
