use Rattle.std.{proofs.Common.{◌≡◌, ◌++◌, take}, specs.List.{flat_map}}
use Rattle.auction_text.specs.Report.{object_text}
use Rattle.auction_text.proofs.writing.report.push_objects.Given as goal

abbrev pub invariant-loop-object : goal.invariant-loop-object
invariant-loop-object l = l.text.items ≡ l.fn.text.items ++ flat_map object_text (take l.object-index l.objects)
