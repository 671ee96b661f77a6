use Rattle.std.proofs.Common.{◌≡◌, IfSome, List, [], refl, subst}
use Rattle.std.proofs.lemmas.Option.{MatchOption-at_some, MatchOption-at_none}
use Rattle.auction_rows.specs.Book.{Book}
use Rattle.auction_text.specs.Said.{Said}
use Rattle.auction_text.specs.ReadFault.TheVariants as read
use Rattle.phase_floor.specs.Adding.{HasBook}
use Rattle.part_log.specs.declared.log.Teller.{Teller}
use Rattle.program_opening.{proofs.ErrorLemmas.{error_is}, specs.declared.faults.Fault.{Fault}}
use Rattle.program_opening.specs.declared.faults.Fault.TheVariants.{Read}
use Rattle.program_serving.proofs.{ErrorLines.{all_told, part_told, told_then, told_weaker}, Sessions.{session_stops, is_none}, ToldLemmas.{nothing_told}}
use Rattle.program_serving.specs.{ServeFaults.{IsServeFault}, Serving.{told_by}}
use Rattle.program_serving.specs.inner.Sessions.{GoesOnTo, IsServedSoFar, MayGoOnTo}
use Rattle.program_serving.proofs.session.serve_lines.Goals as goal

pub loop-init : goal.loop-init
loop-init g c = record {
  has = c.requires;
  session = λ book all start session. session;
  errors = λ rest on.
      let told = g.E.ErrorPlace.told c.args.teller.now.errors in
      part_told told told c.args.options.now rest rest [] (GoesOnTo g.I.Read.remaining c.args.options.now.workers c.args.session.end) refl refl on;
}

pub loop-preserved : goal.loop-preserved
loop-preserved g c = record {
  has = subst (λ next. IfSome next (λ s. HasBook s.served.auction)) c.in-Some.is c.in_ok-next.ensures.has;
  session = λ book all start session. MatchOption-at_some _ _ c.in-Some.next c.in-Some.is (c.in_ok-next.ensures.goes_on book all start (c.loop.invariant.session book all start session));
  errors = λ rest on.
      let told = g.E.ErrorPlace.told in let workers = c.args.options.now.workers in
      told_then (told c.args.teller.now.errors) (told c.loop.teller.errors) (told c.serve_next.new.teller.errors) c.args.options.now rest (GoesOnTo g.I.Read.remaining workers c.loop.session.end)
      (GoesOnTo g.I.Read.remaining workers c.in-Some.next.end) (c.loop.invariant.errors rest on) (λ behind more.
      told_weaker (told c.loop.teller.errors) (told c.serve_next.new.teller.errors) c.args.options.now behind _ (GoesOnTo g.I.Read.remaining workers c.in-Some.next.end) (c.in_ok-next.ensures.errors behind more)
      (λ last has. subst (λ next. MayGoOnTo g.I.Read.remaining workers next last) c.in-Some.is has));
}

pub returns-in_default-clause-all : goal.returns-in_default-clause-all
returns-in_default-clause-all g c = λ book all start session.
    MatchOption-at_none _ _ (is_none c.in_ok-next.field-0 c.in_default.not-Some) (c.in_ok-next.ensures.goes_on book all start (c.loop.invariant.session book all start session))

pub returns-in_err-next-clause-cause : goal.returns-in_err-next-clause-cause
returns-in_err-next-clause-cause g c =
    error_is c.from_residual.result c.in_err-next.field-0.0 (λ (f : Fault). (book : Book) (all : List Said) (start : Teller _ _)
    → IsServedSoFar g.I.Read.remaining (told_by g.L.Log.accepted g.W.Write.contents start c.args.teller.now.teller) c.args.options.now book all c.args.session
    → IsServeFault (told_by g.L.Log.accepted g.W.Write.contents) start c.serve_next.new.teller.teller c.args.options.now book all f) c.from_residual.ensures
    (λ book all start session. c.in_err-next.ensures.cause book all start (c.loop.invariant.session book all start session))

pub returns-clause-cause : goal.returns-clause-cause
returns-clause-cause g c = λ book all start session.
    let accepted = g.L.Log.accepted in let contents = g.W.Write.contents in
    let options = c.args.options.now in let now = c.loop.teller.teller in
    session_stops accepted contents options book all start now now c.loop.session.served (GoesOnTo g.I.Read.remaining options.workers c.loop.session.end) (c.loop.invariant.session book all start session) (Read read.Read)
    (nothing_told accepted contents now, λ input. absurd input)

pub returns-in_default-clause-errors : goal.returns-in_default-clause-errors
returns-in_default-clause-errors g c = λ rest on.
    let told = g.E.ErrorPlace.told in let workers = c.args.options.now.workers in
    let options = c.args.options.now in let Ends : List Said → Type 0 = λ behind. behind ≡ [] in
    let old = told c.args.teller.now.errors in let now = told c.loop.teller.errors in
    let new = told c.serve_next.new.teller.errors in
    all_told old new options rest (told_then old now new options rest (GoesOnTo g.I.Read.remaining workers c.loop.session.end) Ends (c.loop.invariant.errors rest on) (λ behind more.
    told_weaker now new options behind _ Ends (c.in_ok-next.ensures.errors behind more)
    (λ last has. subst (λ next. MayGoOnTo g.I.Read.remaining workers next last) (is_none c.in_ok-next.field-0 c.in_default.not-Some) has)))
