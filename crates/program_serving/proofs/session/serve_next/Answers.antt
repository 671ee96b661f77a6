use Rattle.std.proofs.Common.{◌≡◌, ℕ, List, [], Some, ap, subst}
use Rattle.auction_rows.specs.Book.{Book}
use Rattle.auction_text.specs.{LiveParts.{KeepsLiveWorkers}, Said.{Said}, Scripts.{asked_of}}
use Rattle.part_log.specs.declared.log.Teller.{Teller}
use Rattle.program_opening.{proofs.ErrorLemmas.{error_is}, specs.declared.faults.Fault.{Fault}}
use Rattle.program_opening.specs.declared.faults.Fault.TheVariants.{Read}
use Rattle.program_serving.proofs.ErrorLines.{part_told, told_and_none, told_then, told_weaker}
use Rattle.program_serving.proofs.PartSteps.{part_fails, part_goes_on, part_served}
use Rattle.program_serving.proofs.RowsBefore.{no_late_row}
use Rattle.program_serving.proofs.Sessions.{answer_stops_all, goes_on_to, is_none, part_read, session_answered, session_ends, session_passed, session_stops}
use Rattle.program_serving.{proofs.ToldLemmas.{nothing_told}, specs.ServeFaults.{IsServeFault}}
use Rattle.program_serving.specs.Serving.{book_left, told_by}
use Rattle.program_serving.specs.inner.Sessions.{GoesOnTo, IsServedSoFar, IsSession, MayHaveToSay}
use Rattle.program_serving.proofs.session.serve_next.Goals as goal

pub returns-in_default-clause-goes_on : goal.returns-in_default-clause-goes_on
returns-in_default-clause-goes_on g c = λ book all start session.
    let remaining = g.I.Read.remaining in let accepted = g.L.Log.accepted in
    let contents = g.W.Write.contents in let options = c.args.options.now in
    let new = c.pass_fault.new.teller.teller in let left = c.in_ok-left.field-0 in
    let passed = session_passed accepted contents options book all start c.args.teller.now.teller new c.args.session.served (GoesOnTo remaining options.workers c.args.session.end) session remaining left
    (c.in_ok-left.ensures.passes remaining options.workers session.rest session.left) in
    let none : passed.rest ≡ [] = subst (λ o. MayHaveToSay remaining options.workers o passed.rest) (is_none left c.in_default.not-Some) passed.left in
    session_ends accepted contents options book all start new new c.args.session.served (MayHaveToSay remaining options.workers left) passed none

pub returns-clause-goes_on : goal.returns-clause-goes_on
returns-clause-goes_on g c = λ book all start session.
    let remaining = g.I.Read.remaining in let accepted = g.L.Log.accepted in
    let contents = g.W.Write.contents in let options = c.args.options.now in
    let mid = c.pass_fault.new.teller.teller in let next = c.serve_part.new.teller.teller in
    let passed = subst (λ left. IsSession options book all c.args.session.served (MayHaveToSay remaining options.workers left) (told_by accepted contents start mid).whole) c.in-Some.is
    (session_passed accepted contents options book all start c.args.teller.now.teller mid c.args.session.served (GoesOnTo remaining options.workers c.args.session.end) session remaining c.in_ok-left.field-0
    (c.in_ok-left.ensures.passes remaining options.workers session.rest session.left)) in
    let part = c.in_ok-input.field-0 in
    let Next : List Said → Type 0 = GoesOnTo remaining options.workers part.end in
    let reads = part_read remaining options _ c.most_of_a_part.result c.most_of_a_part.ensures.asked passed.left.0 passed.rest part (c.in_ok-input.ensures.part passed.rest passed.left.1) c.in_ok-input.ensures.workers in
    let free = no_late_row remaining c.in-Some.left passed.rest passed.left.1 in
    let done = c.in_ok-done.done in
    session_answered accepted contents options book all start next c.tell_past.new.teller.teller done.served Next done.past
    (part_served accepted contents options book all start mid next c.args.session.served (MayHaveToSay remaining options.workers (Some c.in-Some.left)) passed c.most_of_a_part.result (asked_of part.input) Next reads free
    c.most_of_a_part.ensures.few c.most_of_a_part.ensures.room done.past done.served c.in_ok-done.ensures.serves c.in_ok-done.ensures.rows)
    (part_goes_on accepted contents options book all start mid next c.args.session.served (MayHaveToSay remaining options.workers (Some c.in-Some.left)) passed c.most_of_a_part.result (asked_of part.input) Next reads free
    c.most_of_a_part.ensures.few c.most_of_a_part.ensures.room done.past done.served c.in_ok-done.ensures.serves)
    c.in_ok-tell_past.ensures.told

pub returns-clause-has : goal.returns-clause-has
returns-clause-has g c = c.in_ok-done.ensures.has

pub returns-in_err-left-clause-cause : goal.returns-in_err-left-clause-cause
returns-in_err-left-clause-cause g c =
    let remaining = g.I.Read.remaining in let accepted = g.L.Log.accepted in
    let contents = g.W.Write.contents in let options = c.args.options.now in
    let mid = c.pass_fault.new.teller.teller in let fault = c.in_err-left.field-0.0 in
    error_is c.from_residual.result fault (λ (f : Fault). (book : Book) (all : List Said) (start : Teller _ _)
    → IsServedSoFar remaining (told_by accepted contents start c.args.teller.now.teller) options book all c.args.session
    → IsServeFault (told_by accepted contents) start mid options book all f) c.from_residual.ensures
    (λ book all start session.
    session_stops accepted contents options book all start c.args.teller.now.teller mid c.args.session.served (GoesOnTo remaining options.workers c.args.session.end) session fault
    (c.in_err-left.ensures.stops remaining options.workers session.rest session.left (book_left options book session.steps) c.args.session.served.rows))

pub returns-in_err-input-clause-cause : goal.returns-in_err-input-clause-cause
returns-in_err-input-clause-cause g c =
    let remaining = g.I.Read.remaining in let accepted = g.L.Log.accepted in
    let contents = g.W.Write.contents in let options = c.args.options.now in
    let mid = c.pass_fault.new.teller.teller in let fault = c.in_err-input.field-0.0 in
    error_is c.from_residual-in_err-input.result (Read fault) (λ (f : Fault). (book : Book) (all : List Said) (start : Teller _ _)
    → IsServedSoFar remaining (told_by accepted contents start c.args.teller.now.teller) options book all c.args.session
    → IsServeFault (told_by accepted contents) start mid options book all f) c.from_residual-in_err-input.ensures
    (λ book all start session.
    let passed = subst (λ left. IsSession options book all c.args.session.served (MayHaveToSay remaining options.workers left) (told_by accepted contents start mid).whole) c.in-Some.is
    (session_passed accepted contents options book all start c.args.teller.now.teller mid c.args.session.served (GoesOnTo remaining options.workers c.args.session.end) session remaining c.in_ok-left.field-0
    (c.in_ok-left.ensures.passes remaining options.workers session.rest session.left)) in
    session_stops accepted contents options book all start mid mid c.args.session.served (MayHaveToSay remaining options.workers (Some c.in-Some.left)) passed (Read fault)
    (nothing_told accepted contents mid, λ input. absurd (c.in_err-input.ensures.fails input)))

pub returns-in_err-done-clause-cause : goal.returns-in_err-done-clause-cause
returns-in_err-done-clause-cause g c =
    let remaining = g.I.Read.remaining in let accepted = g.L.Log.accepted in
    let contents = g.W.Write.contents in let options = c.args.options.now in
    let mid = c.pass_fault.new.teller.teller in let new = c.serve_part.new.teller.teller in
    let fault = c.in_err-done.field-0.0 in
    error_is c.from_residual-in_err-done.result fault (λ (f : Fault). (book : Book) (all : List Said) (start : Teller _ _)
    → IsServedSoFar remaining (told_by accepted contents start c.args.teller.now.teller) options book all c.args.session
    → IsServeFault (told_by accepted contents) start new options book all f) c.from_residual-in_err-done.ensures
    (λ book all start session.
    let passed = subst (λ left. IsSession options book all c.args.session.served (MayHaveToSay remaining options.workers left) (told_by accepted contents start mid).whole) c.in-Some.is
    (session_passed accepted contents options book all start c.args.teller.now.teller mid c.args.session.served (GoesOnTo remaining options.workers c.args.session.end) session remaining c.in_ok-left.field-0
    (c.in_ok-left.ensures.passes remaining options.workers session.rest session.left)) in
    let part = c.in_ok-input.field-0 in
    let Next : List Said → Type 0 = GoesOnTo remaining options.workers part.end in
    let reads = part_read remaining options _ c.most_of_a_part.result c.most_of_a_part.ensures.asked passed.left.0 passed.rest part (c.in_ok-input.ensures.part passed.rest passed.left.1) c.in_ok-input.ensures.workers in
    part_fails accepted contents options book all start mid new c.args.session.served (MayHaveToSay remaining options.workers (Some c.in-Some.left)) passed c.most_of_a_part.result (asked_of part.input) Next reads
    (no_late_row remaining c.in-Some.left passed.rest passed.left.1) c.most_of_a_part.ensures.few c.most_of_a_part.ensures.room fault c.in_err-done.ensures.cause)

pub returns-in_err-tell_past-clause-cause : goal.returns-in_err-tell_past-clause-cause
returns-in_err-tell_past-clause-cause g c =
    let remaining = g.I.Read.remaining in let accepted = g.L.Log.accepted in
    let contents = g.W.Write.contents in let options = c.args.options.now in
    let mid = c.pass_fault.new.teller.teller in let next = c.serve_part.new.teller.teller in
    let new = c.tell_past.new.teller.teller in let fault = c.in_err-tell_past.field-0.0 in
    error_is c.from_residual-in_err-tell_past.result fault (λ (f : Fault). (book : Book) (all : List Said) (start : Teller _ _)
    → IsServedSoFar remaining (told_by accepted contents start c.args.teller.now.teller) options book all c.args.session
    → IsServeFault (told_by accepted contents) start new options book all f) c.from_residual-in_err-tell_past.ensures
    (λ book all start session.
    let Left : List Said → Type 0 = MayHaveToSay remaining options.workers (Some c.in-Some.left) in
    let passed = subst (λ left. IsSession options book all c.args.session.served (MayHaveToSay remaining options.workers left) (told_by accepted contents start mid).whole) c.in-Some.is
    (session_passed accepted contents options book all start c.args.teller.now.teller mid c.args.session.served (GoesOnTo remaining options.workers c.args.session.end) session remaining c.in_ok-left.field-0
    (c.in_ok-left.ensures.passes remaining options.workers session.rest session.left)) in
    let part = c.in_ok-input.field-0 in
    let Next : List Said → Type 0 = GoesOnTo remaining options.workers part.end in
    let reads = part_read remaining options _ c.most_of_a_part.result c.most_of_a_part.ensures.asked passed.left.0 passed.rest part (c.in_ok-input.ensures.part passed.rest passed.left.1) c.in_ok-input.ensures.workers in
    let free = no_late_row remaining c.in-Some.left passed.rest passed.left.1 in
    let done = c.in_ok-done.done in
    answer_stops_all accepted contents options book all start next new done.served Next done.past
    (part_served accepted contents options book all start mid next c.args.session.served Left passed c.most_of_a_part.result (asked_of part.input) Next reads free
    c.most_of_a_part.ensures.few c.most_of_a_part.ensures.room done.past done.served c.in_ok-done.ensures.serves c.in_ok-done.ensures.rows)
    (part_goes_on accepted contents options book all start mid next c.args.session.served Left passed c.most_of_a_part.result (asked_of part.input) Next reads free
    c.most_of_a_part.ensures.few c.most_of_a_part.ensures.room done.past done.served c.in_ok-done.ensures.serves)
    fault c.in_err-tell_past.ensures.so_far)

pub returns-in_default-clause-errors : goal.returns-in_default-clause-errors
returns-in_default-clause-errors g c = λ rest on.
    let remaining = g.I.Read.remaining in let workers = c.args.options.now.workers in
    let told = g.E.ErrorPlace.told c.args.teller.now.errors in
    let next = g.E.ErrorPlace.told c.pass_fault.new.teller.errors in let left = c.in_ok-left.field-0 in
    told_weaker told next c.args.options.now rest (MayHaveToSay remaining workers left) _ (c.in_ok-left.ensures.errors remaining workers rest on)
    (λ behind more. subst (λ o. MayHaveToSay remaining workers o behind) (is_none left c.in_default.not-Some) more)

pub returns-clause-errors : goal.returns-clause-errors
returns-clause-errors g c = λ rest on.
    let remaining = g.I.Read.remaining in let options = c.args.options.now in
    let workers = options.workers in let told = g.E.ErrorPlace.told in
    let old = told c.args.teller.now.errors in let mid = told c.pass_fault.new.teller.errors in
    let next = told c.serve_part.new.teller.errors in let new = told c.tell_past.new.teller.errors in
    let part = c.in_ok-input.field-0 in
    let GoesOn : List Said → Type 0 = GoesOnTo remaining workers part.end in
    told_and_none old next new options rest GoesOn
    (told_then old mid next options rest (MayHaveToSay remaining workers c.in_ok-left.field-0) GoesOn (c.in_ok-left.ensures.errors remaining workers rest on) (λ behind more.
    let yet = subst (λ left. MayHaveToSay remaining workers left behind) c.in-Some.is more in
    let read = c.in_ok-input.ensures.part behind yet.1 in
    let after = goes_on_to remaining workers behind read.said part.end read.goes_on (subst (λ (n : ℕ). KeepsLiveWorkers n part.end) yet.0 c.in_ok-input.ensures.workers) in
    part_told mid next options behind after.0 read.said GoesOn (ap told c.in_ok-done.ensures.errors) after.1.0 after.1.1))
    c.in_ok-tell_past.ensures.errors
