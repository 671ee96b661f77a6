use Rattle.std.proofs.{Common.{◌∙◌}, lemmas.Option.{IfSome_then}}
use Rattle.auction_text.specs.{Moved.{gone_by}, RowLines.{rows_text}}
use Rattle.program_opening.{proofs.ErrorLemmas.{error_is}, specs.Faults.{of_telling}}
use Rattle.program_serving.proofs.ToldLemmas.{appends_known, not_told, same_appended, told_so_far}
use Rattle.program_serving.specs.{ServeFaults.{AreToldAt}, Serving.{part_text, told_by}}
use Rattle.program_serving.proofs.telling.tell_committed.Goals as goal

pub returns-clause-told : goal.returns-clause-told
returns-clause-told g c =
    let log = g.L.Log.accepted in let contents = g.W.Write.contents in
    let old = c.args.teller.now.teller in
    let new = c.tell.new.self in
    let committed = c.args.committed.now in (
      appends_known (log old.log) (log new.log) c.as_slice.result.now (rows_text committed.rows.items committed.history.entries)
          (IfSome_then (log old.log) c.in_ok-rows.ensures.text (λ _ same. c.as_slice.ensures.value ∙ same)) c.in_ok-tell.ensures.logged,
      same_appended (contents old.writer) (contents new.writer) _ _ c.in_ok-tell.ensures.told (c.as_slice-2.ensures.value ∙ c.in_ok-make_text.ensures.text),
    )

pub returns-in_err-rows-clause-so_far : goal.returns-in_err-rows-clause-so_far
returns-in_err-rows-clause-so_far g c =
    not_told g.L.Log.accepted g.W.Write.contents c.from_residual.result c.in_err-rows.field-0.0 c.args.teller.now.teller _ _ c.from_residual.ensures c.in_err-rows.ensures.memory

pub returns-in_err-make_text-clause-so_far : goal.returns-in_err-make_text-clause-so_far
returns-in_err-make_text-clause-so_far g c =
    not_told g.L.Log.accepted g.W.Write.contents c.from_residual-in_err-make_text.result c.in_err-make_text.field-0.0 c.args.teller.now.teller _ _ c.from_residual-in_err-make_text.ensures c.in_err-make_text.ensures.memory

pub returns-in_err-tell-clause-so_far : goal.returns-in_err-tell-clause-so_far
returns-in_err-tell-clause-so_far g c =
    let log = g.L.Log.accepted in let contents = g.W.Write.contents in
    let old = c.args.teller.now.teller in
    let new = c.tell.new.self in
    let fault = c.in_err-tell.field-0.0 in let added = c.args.committed.now.rows.items in
    let history = c.args.committed.now.history.entries in let rows = rows_text added history in
    let text = part_text c.args.options.now (gone_by c.args.committed.now.before) added history in
    error_is c.from_residual-in_err-tell.result (of_telling fault) (λ f. AreToldAt (told_by log contents old new) f rows text) c.from_residual-in_err-tell.ensures
    (told_so_far log contents old new fault c.as_slice.result.now rows c.as_slice-2.result.now text c.in_err-tell.ensures.fault
    (IfSome_then (log old.log) c.in_ok-rows.ensures.text (λ _ same. c.as_slice.ensures.value ∙ same)) (c.as_slice-2.ensures.value ∙ c.in_ok-make_text.ensures.text))
