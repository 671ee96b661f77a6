use Rattle.std.proofs.Common.{true, slice_get, ap, ◌∙◌}
use Rattle.application_check.proofs.Lines.{set_here, row_here, row_others}
use Rattle.application_check.proofs.MarkRows.{lists_set, row_is, row_low}
use Rattle.split_engine.specs.Serving.{lists, request_at}
use Rattle.application_check.proofs.marks.mark.Goals as goal

pub returns-clause-here : goal.returns-clause-here
returns-clause-here c =
    let marks = c.args.marks.now.items in let given = c.requires in
    ap (λ ms. request_at ms c.args.worker c.args.index) (lists_set marks c.args.worker c.mark_in.new.row)
    ∙ row_here (lists marks) c.args.worker c.args.index c.mark_in.new.row.items given.0 given.1
    (ap (λ row. slice_get row c.args.index) c.mark_in.ensures.row ∙ set_here c.index_mut.result.now.items c.args.index true c.mark_in.result c.mark_in.ensures.was)

pub returns-clause-others : goal.returns-clause-others
returns-clause-others c w i other =
    let marks = c.args.marks.now.items in let given = c.requires in let old = c.index_mut.result.now in
    ap (λ ms. request_at ms w i) (lists_set marks c.args.worker c.mark_in.new.row)
    ∙ row_others (lists marks) c.args.worker c.args.index c.mark_in.new.row.items old.items w i
    (row_is marks c.args.worker old (row_low marks c.args.worker c.args.index given.0 given.1) c.index_mut.ensures.value) c.mark_in.ensures.row other
