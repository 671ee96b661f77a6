use Rattle.std.proofs.Common.{[]}
use Rattle.auction_text.{proofs.ListedLemmas.{all_listed, read_listed}, specs.Report.{object_text}}
use Rattle.auction_text.proofs.writing.report.push_objects.Goals as goal

pub loop-object-preserved : goal.loop-object-preserved
loop-object-preserved c =
    read_listed object_text c.args.text.now.items [] c.loop-object.text.items c.push_object.new.text.items c.args.objects.now c.loop-object.object-index _
    c.loop-object-test.true c.loop-object.invariant c.in_ok-push_object.ensures

pub returns : goal.returns
returns c = all_listed object_text c.args.text.now.items [] c.loop-object.text.items c.args.objects.now c.loop-object.object-index c.loop-object-test.false c.loop-object.invariant
