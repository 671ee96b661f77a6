use Rattle.std.proofs.Common.{arith, ◌≡◌, ◌∙◌, ◌+◌, None, Some, ap, refl, subst, sym}
use Rattle.live_reading.{proofs.LiveTakingLemmas.{takes_read}, specs.inner.Lines.{IsOneOf}}
use Rattle.live_reading.specs.inner.Taking.{HasCounted}
use Rattle.live_reading.specs.declared.live_lines.Said.TheVariants as says
use Rattle.live_reading.proofs.line_taking.take_read.Goals as goal

pub returns-in-None-clause-takes : goal.returns-in-None-clause-takes
returns-in-None-clause-takes c =
    let old = c.args.taken.now in
    let place : c.in-Some.place ≡ old.count + 1 = omega (arith, c.in-Some.ensures) in
    takes_read old old c.args.line.now c.in-Some.place None None c.requires.short place (rw c.in-None.is at c.in_ok-said.ensures.value) (refl, refl)

pub returns-in_ok-add-in-Some-Record-clause-takes : goal.returns-in_ok-add-in-Some-Record-clause-takes
returns-in_ok-add-in-Some-Record-clause-takes c =
    let old = c.args.taken.now in let one = c.in-Some-Record.one in
    let place : c.in-Some.place ≡ old.count + 1 = omega (arith, c.in-Some.ensures) in
    let said : c.in_ok-said.said ≡ Some (says.Record one) = c.in-Some-Record.is ∙ ap Some c.in-Some-Record.field-0-is in
    takes_read old c.add.new.self c.args.line.now c.in-Some.place (Some (says.Record one)) None c.requires.short place (sym said ∙ c.in_ok-said.ensures.value)
    (subst (IsOneOf old.workers) said c.in_ok-said.ensures.worker, (c.in_ok-add-in-Some-Record.ensures.adds, refl))

pub returns-in-Some-Fault-clause-takes : goal.returns-in-Some-Fault-clause-takes
returns-in-Some-Fault-clause-takes c =
    let old = c.args.taken.now in let met = c.in-Some-Fault.fault in
    let place : c.in-Some.place ≡ old.count + 1 = omega (arith, c.in-Some.ensures) in
    let said : c.in_ok-said.said ≡ Some (says.Fault met) = c.in-Some-Fault.is ∙ ap Some c.in-Some-Fault.field-0-is in
    let new = c.count_to.new.self in
    takes_read old new c.args.line.now c.in-Some.place (Some (says.Fault met)) (Some met) c.requires.short place (sym said ∙ c.in_ok-said.ensures.value)
    (subst (λ n. HasCounted old n new) place c.count_to.ensures, refl)
