use Rattle.std.proofs.Common.{[], MatchOption, Some, subst, sym}
use Rattle.std.proofs.lemmas.Result.{IfErr-weaker, on_ok_weaker}
use Rattle.auction_text.specs.Moved.{gone_by}
use Rattle.program_opening.specs.declared.faults.Fault.{Fault}
use Rattle.program_serving.specs.{ServeFaults.{AreToldAt}, Serving.{told_by}}
use Rattle.program_serving.specs.inner.Sessions.{past_answer}
use Rattle.program_serving.proofs.session.tell_past.Goals as goal

pub returns-clause-told : goal.returns-clause-told
returns-clause-told g c =
    let gone = gone_by c.args.done.now.served.before in
    let Told = (told_by g.L.Log.accepted g.W.Write.contents c.args.teller.now.teller c.tell_turned.new.teller.teller).whole [] in
    on_ok_weaker c.tell_turned.result (λ told.
    subst (λ past. Told (past_answer c.args.options.now gone c.args.done.now.served.auction.limit past)) (sym c.in-Some.is)
    (subst (λ limit. Told (past_answer c.args.options.now gone limit (Some c.in-Some.worker))) c.limit-limit.ensures.limit told)) c.tell_turned.ensures.told

pub returns-clause-so_far : goal.returns-clause-so_far
returns-clause-so_far g c =
    let options = c.args.options.now in let gone = gone_by c.args.done.now.served.before in
    let limit = c.args.done.now.served.auction.limit in
    let At = AreToldAt (told_by g.L.Log.accepted g.W.Write.contents c.args.teller.now.teller c.tell_turned.new.teller.teller) in
    IfErr-weaker c.tell_turned.result _ (λ (f : Fault). MatchOption c.args.done.now.past ⊥ (λ worker. At f [] (past_answer options gone limit (Some worker)))) (λ fault told.
    subst (λ past. MatchOption past ⊥ (λ worker. At fault [] (past_answer options gone limit (Some worker)))) (sym c.in-Some.is)
    (subst (λ l. At fault [] (past_answer options gone l (Some c.in-Some.worker))) c.limit-limit.ensures.limit told)) c.tell_turned.ensures.so_far
