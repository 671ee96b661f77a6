use Rattle.std.proofs.Common.{◌∙◌, None, Some, [], refl, subst, sym}
use Rattle.auction_text.specs.Moved.{gone_by}
use Rattle.auction_text.specs.Said.TheVariants as says
use Rattle.program_opening.proofs.ErrorLemmas.{error_is}
use Rattle.program_serving.proofs.ErrorLines.{line_told, part_told}
use Rattle.program_serving.proofs.{FaultLemmas.{answer_stops}, ToldLemmas.{nothing_told, told_none}}
use Rattle.program_serving.specs.{Serving.{told_by}, inner.Sessions.{GoesOnTo, MayHaveToSay}}
use Rattle.program_serving.proofs.session.pass_fault.Goals as goal

pub returns-in-More-clause-passes : goal.returns-in-More-clause-passes
returns-in-More-clause-passes g c = λ remaining workers rest on. record {
  met = None;
  goes_on = tt;
  behind = rest;
  rest_is = refl;
  left_is = subst (λ end. GoesOnTo remaining workers end rest) c.in-More.is on;
  holds = told_none g.L.Log.accepted g.W.Write.contents c.args.teller.now.teller;
}

pub returns-in-All-clause-passes : goal.returns-in-All-clause-passes
returns-in-All-clause-passes g c = λ remaining workers rest on. record {
  met = None;
  goes_on = tt;
  behind = [];
  rest_is = subst (λ end. GoesOnTo remaining workers end rest) c.in-All.is on;
  left_is = refl;
  holds = told_none g.L.Log.accepted g.W.Write.contents c.args.teller.now.teller;
}

pub returns-in_ok-tell_turned-in-Fault-clause-passes : goal.returns-in_ok-tell_turned-in-Fault-clause-passes
returns-in_ok-tell_turned-in-Fault-clause-passes g c = λ remaining workers rest on.
    let next = subst (λ end. GoesOnTo remaining workers end rest) c.in-Fault.is on in
    record { met = Some c.in-Fault.met; goes_on = sym c.ends_at_fault.ensures ∙ c.if-ends_at_fault.false; behind = next.0; rest_is = next.1.0; left_is = next.1.1; holds = c.in_ok-tell_turned-in-Fault.ensures.told }

pub returns-then-ends_at_fault-clause-stops : goal.returns-then-ends_at_fault-clause-stops
returns-then-ends_at_fault-clause-stops g c = λ remaining workers rest on book rows.
    let next = subst (λ end. GoesOnTo remaining workers end rest) c.in-Fault.is on in (
      nothing_told g.L.Log.accepted g.W.Write.contents c.args.teller.now.teller,
      λ input. record { met = c.in-Fault.met; behind = next.0; rest_is = next.1.0; fault_is = refl; ends = sym c.ends_at_fault.ensures ∙ c.if-ends_at_fault.true },
    )

pub returns-in_err-tell_turned-in-Fault-clause-stops : goal.returns-in_err-tell_turned-in-Fault-clause-stops
returns-in_err-tell_turned-in-Fault-clause-stops g c =
    let fault = c.in_err-tell_turned-in-Fault.field-0.0 in
    error_is c.from_residual.result fault _ c.from_residual.ensures (λ remaining workers rest on book rows.
    let next = subst (λ end. GoesOnTo remaining workers end rest) c.in-Fault.is on in
    answer_stops (told_by g.L.Log.accepted g.W.Write.contents c.args.teller.now.teller c.tell_turned.new.teller.teller) c.args.options.now book (gone_by c.args.before.now) rows rest fault (record {
      line = says.Fault c.in-Fault.met;
      behind = next.0;
      rest_is = next.1.0;
      goes_on = sym c.ends_at_fault.ensures ∙ c.if-ends_at_fault.false;
      turned_away = tt;
      holds = c.in_err-tell_turned-in-Fault.ensures.so_far;
    }))

pub returns-in-More-clause-errors : goal.returns-in-More-clause-errors
returns-in-More-clause-errors g c = λ remaining workers rest on.
    let told = g.E.ErrorPlace.told c.args.teller.now.errors in
    part_told told told c.args.options.now rest rest [] (MayHaveToSay remaining workers (Some c.in-More.left)) refl refl (subst (λ end. GoesOnTo remaining workers end rest) c.in-More.is on)

pub returns-in-All-clause-errors : goal.returns-in-All-clause-errors
returns-in-All-clause-errors g c = λ remaining workers rest on.
    let told = g.E.ErrorPlace.told c.args.teller.now.errors in
    part_told told told c.args.options.now rest rest [] (MayHaveToSay remaining workers None) refl refl (subst (λ end. GoesOnTo remaining workers end rest) c.in-All.is on)

pub returns-in_ok-tell_turned-in-Fault-clause-errors : goal.returns-in_ok-tell_turned-in-Fault-clause-errors
returns-in_ok-tell_turned-in-Fault-clause-errors g c = λ remaining workers rest on.
    let next = subst (λ end. GoesOnTo remaining workers end rest) c.in-Fault.is on in
    line_told (g.E.ErrorPlace.told c.args.teller.now.errors) (g.E.ErrorPlace.told c.tell_turned.new.teller.errors) c.args.options.now rest next.0 c.in-Fault.met (MayHaveToSay remaining workers (Some c.in-Fault.left)) next.1.0
    c.in_ok-tell_turned-in-Fault.ensures.errors next.1.1
