use Rattle.std.proofs.Common.{◌∙◌, [], refl}
use Rattle.auction_text.specs.Moved.{gone_by}
use Rattle.program_opening.{proofs.ErrorLemmas.{error_is}, specs.Faults.{of_telling}}
use Rattle.program_serving.proofs.ToldLemmas.{if_known, same_appended, told_so_far}
use Rattle.program_serving.specs.{ServeFaults.{AreToldAt}, Serving.{told_by}, inner.Sessions.{answer_to}}
use Rattle.program_serving.proofs.telling.tell_turned.Goals as goal

pub returns-clause-told : goal.returns-clause-told
returns-clause-told g c =
    (c.in_ok-tell.ensures.logged, same_appended _ _ _ _ c.in_ok-tell.ensures.told (c.as_slice.ensures.value ∙ c.in_ok-answer.ensures.text))

pub returns-in_err-tell-clause-so_far : goal.returns-in_err-tell-clause-so_far
returns-in_err-tell-clause-so_far g c =
    let log = g.L.Log.accepted in let contents = g.W.Write.contents in
    let old = c.args.teller.now.teller in
    let new = c.tell.new.self in
    let fault = c.in_err-tell.field-0.0 in
    let answer = answer_to c.args.options.now (gone_by c.args.before.now) c.args.line in
    error_is c.from_residual-in_err-tell.result (of_telling fault) (λ f. AreToldAt (told_by log contents old new) f [] answer) c.from_residual-in_err-tell.ensures
    (told_so_far log contents old new fault [] [] _ answer c.in_err-tell.ensures.fault (if_known (log old.log) _ refl) (c.as_slice.ensures.value ∙ c.in_ok-answer.ensures.text))
