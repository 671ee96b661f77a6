use Rattle.std.proofs.{Common.{◌≡◌, ◌&&◌, IfSome, false, subst}, lemmas.Bool.{and_left, and_right}}
use Rattle.record_reading.specs.Lines.{IsLine}
use Rattle.live_reading.proofs.LiveLineLemmas.{plain_says}
use Rattle.live_reading.proofs.live_lines.whole_record.Goals.{else-one-via-then-one+else-begun, else-one-via-else-one}
use Rattle.live_reading.proofs.live_lines.whole_record.Goals as goal

pub returns-clause-says : goal.returns-clause-says
returns-clause-says c = λ place.
    let one = c.in-Some.one in let begun = c.args.begun in
    let early : (one.is_row && begun) ≡ false = elim c.else-one.branch [
      | else-one-via-then-one+else-begun w ↦ and_right one.is_row begun w.if-begun.false
      | else-one-via-else-one w ↦ and_left one.is_row begun w.if-one.false
    ] in
    plain_says c.args.line.now one c.in-Some.next c.args.workers place begun c.requires.whole c.requires.room (subst (λ o. IfSome o (λ p. IsLine c.args.line.now 0 p.0 p.1)) c.in-Some.is c.requires.first) c.if-next-line.false c.if-one-workers.false early
