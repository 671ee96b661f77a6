use Rattle.std.proofs.Common.{arith, ◌≡◌, ◌≤◌, ◌+◌, ◌-◌, IfNone, None, Option, Some, drop, length, refl, subst, sym, take}
use Rattle.std.proofs.lemmas.List.{length-take-le, take_rest}
use Rattle.live_reading.proofs.LiveTakingLemmas.{bids_more, text_more, text_none, within_more}
use Rattle.live_reading.specs.declared.line_taking.LineStop.TheVariants.{Full}
use Rattle.live_reading.specs.declared.live_lines.LineFault.{LineFault}
use Rattle.live_reading.specs.inner.Taking.{HasRoom, TakesText, stop_at}
use Rattle.live_reading.proofs.line_taking.take_text.Goals as goal

-- nothing is left to show at a fault
at_fault : (P : Type 0) (fault : Option LineFault) → (fault ≡ None → ⊥) → IfNone fault P
at_fault P None some = absurd (some refl)
at_fault P (Some fault) some = tt

pub loop-taken-init : goal.loop-taken-init
loop-taken-init c = record { within = omega arith; takes = text_none c.args.taken.now c.args.text.now }

pub take_other-requires-clause-whole : goal.take_other-requires-clause-whole
take_other-requires-clause-whole c = c.in-Some.ensures.len

pub take_other-requires-clause-room : goal.take_other-requires-clause-room
take_other-requires-clause-room c = subst HasRoom (sym (c.in_ok-behind.ensures.none c.if-behind-at.false)) (omega arith, omega arith)

pub take_bids-requires-clause-ends : goal.take_bids-requires-clause-ends
take_bids-requires-clause-ends c = λ some.
    let end = c.lines_end.result in
    let long = length-take-le end c.args.text.now c.lines_end.ensures.within in
    c.lines_end.ensures.ends (omega (arith, long, some))

pub loop-taken-preserved-then-behind-at : goal.loop-taken-preserved-then-behind-at
loop-taken-preserved-then-behind-at c =
    let text = c.args.text.now in let end = c.lines_end.result in
    let fits = c.lines_end.ensures.within in let bids = c.in_ok-behind.ensures in
    let within : c.in_ok-behind.behind ≤ end = omega (arith, length-take-le end text fits, bids.within c.if-behind-at.true) in
    record {
      within = omega (arith, fits);
      takes = bids_more c.args.taken.now c.loop-taken.taken c.take_bids.new.taken text end c.loop-taken.at c.in_ok-behind.behind fits c.if-behind-at.true within c.loop-taken.invariant.takes bids.takes;
    }

pub loop-taken-preserved : goal.loop-taken-preserved
loop-taken-preserved c =
    let first = c.args.taken.now in let text = c.args.text.now in let at = c.loop-taken.at in
    let len = c.in-Some.len in let rest = take (length text - at) (drop at text) in
    let new = c.take_other.new.taken in let inv = c.loop-taken.invariant in
    let before = subst (λ t. TakesText first text t Full (drop at text)) (sym (c.in_ok-behind.ensures.none c.if-behind-at.false)) inv.takes in
    record {
      within = within_more text rest at len (take_rest text at) inv.within c.in-Some.ensures.within;
      takes = subst (λ f. TakesText first text new (stop_at f) (drop (at + len) text)) c.in-None.is
          (text_more first c.take_bids.new.taken new text rest at len c.in_ok-fault.fault (take_rest text at) before c.in-Some.ensures.len c.in_ok-fault.ensures.takes);
    }

pub returns-in_default-fault-clause-takes : goal.returns-in_default-fault-clause-takes
returns-in_default-fault-clause-takes c =
    let first = c.args.taken.now in let text = c.args.text.now in let at = c.loop-taken.at in
    let before = subst (λ t. TakesText first text t Full (drop at text)) (sym (c.in_ok-behind.ensures.none c.if-behind-at.false)) c.loop-taken.invariant.takes in
    text_more first c.take_bids.new.taken c.take_other.new.taken text (take (length text - at) (drop at text)) at c.in-Some.len c.in_ok-fault.fault (take_rest text at)
    before c.in-Some.ensures.len c.in_ok-fault.ensures.takes

pub returns-in_default-fault-clause-up : goal.returns-in_default-fault-clause-up
returns-in_default-fault-clause-up c = at_fault _ c.in_ok-fault.fault c.in_default-fault.not-None
