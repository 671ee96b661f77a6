use Rattle.std.proofs.Common.{◌≡◌, ◌∙◌, IfNone, ap, drop, subst, sym, true}
use Rattle.live_reading.specs.{LineBuffers.{held}, inner.Taking.{HasRoom, TakesText, stop_at}}
use Rattle.live_reading.proofs.line_taking.take_held.Goals as goal
use Rattle.record_reading.specs.Lines.{has_no_feed}

pub returns-clause-takes : goal.returns-clause-takes
returns-clause-takes g c =
    let old = c.args.taken.now in let new = c.take_text.new.taken in
    let how = stop_at c.in_ok-at.fault in
    subst (λ to. TakesText old (held c.args.lines.now) new how to) (sym c.take.ensures.held)
    (subst (λ xs. TakesText old xs new how (drop c.in_ok-at.at xs)) c.held.ensures.value c.in_ok-at.ensures.takes)

pub returns-clause-up : goal.returns-clause-up
returns-clause-up g c =
    subst (λ xs. IfNone c.in_ok-at.fault (HasRoom c.take_text.new.taken → has_no_feed xs ≡ true)) (ap (drop c.in_ok-at.at) c.held.ensures.value ∙ sym c.take.ensures.held)
    c.in_ok-at.ensures.up
