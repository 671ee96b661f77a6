use Rattle.std.proofs.Common.{◌+◌, true, false, length, Some, sym, ap, ◌∙◌, arith}
use Rattle.std.proofs.lemmas.{Bool.{true≢false, false≢true, OnTrue_from}, Option.{none-some, same_Some}}
use Rattle.application_check.{proofs.Lines.{in_scripts, mark_there, marks_more}, specs.Checking.{has_line, next_if}}
use Rattle.split_engine.proofs.Splits.{length-acts, fit_most}
use Rattle.split_engine.specs.{Serial.{IsWithin, acts_at, reply}, Serving.{lists}}
use Rattle.split_engine.specs.declared.few.TheConstants.{MOST_KEYS}
use Rattle.application_check.proofs.referee.check_line.Goals as goal

pub mark-requires : goal.mark-requires
mark-requires g c =
    let line = c.args.line.now in let given = c.requires.marks in
    (has_line given.0 line.worker line.index, mark_there (lists c.args.scripts.now) given.0 (lists c.args.marks.now.items) line.worker line.index c.in-Some.request.now given.1 c.in-Some.ensures)

pub returns-in_default-clause-fits : goal.returns-in_default-clause-fits
returns-in_default-clause-fits g c n h =
    let s = g.A.Application in
    fit_most s.rules s.fits s.slice_fits s.is_small g.met.A.Application.laws n (n + MOST_KEYS) c.args.table.now.items (omega arith) h

pub returns-then-mark-clause-fits : goal.returns-then-mark-clause-fits
returns-then-mark-clause-fits g c n h =
    let s = g.A.Application in
    fit_most s.rules s.fits s.slice_fits s.is_small g.met.A.Application.laws n (n + MOST_KEYS) c.args.table.now.items (omega arith) h

pub perform-reply-requires-clause-within : goal.perform-reply-requires-clause-within
perform-reply-requires-clause-within g c =
    let size = length c.args.table.now.items in let line = c.args.line.now in
    in_scripts (IsWithin g.A.Application.rules size) (lists c.args.scripts.now) line.worker line.index c.in-Some.request.now c.requires.scripts c.in-Some.ensures

pub returns-clause-size : goal.returns-clause-size
returns-clause-size g c =
    let rules = g.A.Application.rules in
    ap length c.perform-reply.ensures.table ∙ length-acts rules c.args.table.now.items (acts_at rules c.args.table.now.items c.in-Some.request.now)

-- no script has its request
pub returns-in_default-clause-right : goal.returns-in_default-clause-right
returns-in_default-clause-right g c before are =
    (λ is. absurd (false≢true is), λ right. absurd (none-some right.request (sym c.in_default.ensures ∙ right.there)))

-- a line before it has its request
pub returns-then-mark-clause-right : goal.returns-then-mark-clause-right
returns-then-mark-clause-right g c before are = (
  λ is. absurd (false≢true is),
  λ right.
      let line = c.args.line.now in
      let there = mark_there (lists c.args.scripts.now) before (lists c.args.marks.now.items) line.worker line.index right.request are right.there in
      absurd (true≢false (sym (same_Some _ true (sym there ∙ c.mark.ensures.was ∙ ap Some c.if-mark.true)) ∙ right.first)),
)

pub returns-clause-marks : goal.returns-clause-marks
returns-clause-marks g c =
    OnTrue_from c.is_same_reply.result _ (λ is before are.
    marks_more (lists c.args.scripts.now) before (lists c.args.marks.now.items) (lists c.mark.new.marks.items) c.args.line.now c.in-Some.request.now are
    c.in-Some.ensures c.mark.ensures.here c.mark.ensures.others)

pub returns-clause-table : goal.returns-clause-table
returns-clause-table g c =
    OnTrue_from c.is_same_reply.result _ (λ is.
    c.perform-reply.ensures.table ∙ ap (next_if g.A.Application.rules (lists c.args.scripts.now) c.args.table.now.items) (sym c.in-Some.ensures))

-- it is right just if its reply is the one that the table gives
pub returns-clause-right : goal.returns-clause-right
returns-clause-right g c before are =
    let line = c.args.line.now in let given = reply g.A.Application.rules c.args.table.now.items in
    let there = mark_there (lists c.args.scripts.now) before (lists c.args.marks.now.items) line.worker line.index c.in-Some.request.now are c.in-Some.ensures in (
      λ same. record {
        request = c.in-Some.request.now;
        there = c.in-Some.ensures;
        first = same_Some _ false (sym there ∙ c.mark.ensures.was ∙ ap Some c.if-mark.false);
        reply_is = c.is_same_reply.ensures.0 same ∙ c.perform-reply.ensures.reply;
      },
      λ right. c.is_same_reply.ensures.1
          (right.reply_is ∙ ap given (same_Some right.request c.in-Some.request.now (sym right.there ∙ c.in-Some.ensures)) ∙ sym c.perform-reply.ensures.reply),
    )
