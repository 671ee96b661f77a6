use Rattle.std.proofs.{Common.{IfSome, refl}, lemmas.Option.{IfSome_then}}
use Rattle.std.proofs.lemmas.Result.{IfErr-weaker, on_ok_weaker}
use Rattle.auction_rows.specs.Book.{Book}
use Rattle.auction_text.specs.{LiveLines.{live_says}, Moved.{gone_by}}
use Rattle.program_opening.{proofs.ErrorLemmas.{error_is}, specs.declared.faults.Fault.{Fault}}
use Rattle.program_opening.specs.declared.faults.Fault.TheVariants.{Read}
use Rattle.program_serving.proofs.ServedBook.{either_logged, no_success, served_book}
use Rattle.program_serving.proofs.{Sessions.{session_begins, unread}, ToldLemmas.{same_gone}}
use Rattle.program_serving.specs.{PartRuns.{IsStart}, ServeFaults.{IsServeFault}}
use Rattle.program_serving.specs.{Serving.{nothing_gone, told_by}, declared.parts.Served.{Served}}
use Rattle.program_serving.specs.inner.Sessions.{YetToSay}
use Rattle.program_serving.proofs.session.serve.Goals as goal

pub returns-clause-all : goal.returns-clause-all
returns-clause-all g c =
    let options = c.args.options.now in let old = c.args.teller.now.teller in
    let first : Served = record { auction = c.args.source.auction; rows = 0; before = c.none.result } in
    on_ok_weaker c.serve_lines.result (λ ensures book start. IfSome_then (g.I.Read.remaining c.args.source.reader) c.in_ok-left.ensures.says (λ input has.
    let all = live_says options.workers input in
    ensures book all old (session_begins g.L.Log.accepted g.W.Write.contents options book all old first (YetToSay g.I.Read.remaining options.workers c.in_ok-left.left) start refl
    (same_gone (gone_by c.none.result) nothing_gone c.none.ensures.phases c.none.ensures.requests) (c.in_ok-left.ensures.workers, has)))) c.serve_lines.ensures.all

pub returns-clause-cause : goal.returns-clause-cause
returns-clause-cause g c =
    let accepted = g.L.Log.accepted in let contents = g.W.Write.contents in
    let options = c.args.options.now in let old = c.args.teller.now.teller in
    let first : Served = record { auction = c.args.source.auction; rows = 0; before = c.none.result } in
    IfErr-weaker c.serve_lines.result _ (λ (f : Fault). (book : Book) → IsStart options c.args.source.auction book
    → IfSome (g.I.Read.remaining c.args.source.reader) (λ input. IsServeFault (told_by accepted contents) old c.serve_lines.new.teller.teller options book (live_says options.workers input) f))
    (λ fault ensures book start. IfSome_then (g.I.Read.remaining c.args.source.reader) c.in_ok-left.ensures.says (λ input has.
    let all = live_says options.workers input in
    ensures book all old (session_begins accepted contents options book all old first (YetToSay g.I.Read.remaining options.workers c.in_ok-left.left) start refl
    (same_gone (gone_by c.none.result) nothing_gone c.none.ensures.phases c.none.ensures.requests) (c.in_ok-left.ensures.workers, has)))) c.serve_lines.ensures.cause

pub returns-clause-logged : goal.returns-clause-logged
returns-clause-logged g c = λ book start.
    let options = c.args.options.now in
    either_logged g.L.Log.accepted g.W.Write.contents options book c.args.teller.now.teller c.serve_lines.new.teller.teller (g.I.Read.remaining c.args.source.reader) (live_says options.workers)
    c.args.source.auction start c.serve_lines.result (returns-clause-all g c) (returns-clause-cause g c)

pub returns-clause-book : goal.returns-clause-book
returns-clause-book g c = λ book start had.
    let options = c.args.options.now in
    IfSome_then (g.I.Read.remaining c.args.source.reader) (returns-clause-logged g c book start) (λ input first.
    served_book g.L.Log.accepted g.W.Write.contents c.args.teller.now.teller c.serve_lines.new.teller.teller options book (live_says options.workers input) had first)

pub returns-in_err-left-clause-cause : goal.returns-in_err-left-clause-cause
returns-in_err-left-clause-cause g c =
    let accepted = g.L.Log.accepted in let contents = g.W.Write.contents in
    let options = c.args.options.now in let known = g.I.Read.remaining c.args.source.reader in
    let old = c.args.teller.now.teller in let fault = c.in_err-left.field-0.0 in
    error_is c.from_residual.result (Read fault) (λ (f : Fault). (book : Book) → IsStart options c.args.source.auction book
    → IfSome known (λ input. IsServeFault (told_by accepted contents) old old options book (live_says options.workers input) f)) c.from_residual.ensures
    (λ book start. unread accepted contents options book old known (live_says options.workers) fault c.in_err-left.ensures.fails)

pub returns-in_err-left-clause-logged : goal.returns-in_err-left-clause-logged
returns-in_err-left-clause-logged g c = λ book start.
    let options = c.args.options.now in let old = c.args.teller.now.teller in
    either_logged g.L.Log.accepted g.W.Write.contents options book old old (g.I.Read.remaining c.args.source.reader) (live_says options.workers)
    c.args.source.auction start c.from_residual.result (no_success c.from_residual.result _ _ c.from_residual.ensures) (returns-in_err-left-clause-cause g c)

pub returns-in_err-left-clause-book : goal.returns-in_err-left-clause-book
returns-in_err-left-clause-book g c = λ book start had.
    let options = c.args.options.now in let old = c.args.teller.now.teller in
    IfSome_then (g.I.Read.remaining c.args.source.reader) (returns-in_err-left-clause-logged g c book start) (λ input first.
    served_book g.L.Log.accepted g.W.Write.contents old old options book (live_says options.workers input) had first)

pub returns-clause-errors : goal.returns-clause-errors
returns-clause-errors g c =
    let options = c.args.options.now in
    on_ok_weaker c.serve_lines.result (λ ensures. IfSome_then (g.I.Read.remaining c.args.source.reader) c.in_ok-left.ensures.says (λ input has.
    ensures (live_says options.workers input) (c.in_ok-left.ensures.workers, has))) c.serve_lines.ensures.errors
