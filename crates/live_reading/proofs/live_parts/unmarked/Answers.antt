use Rattle.std.proofs.Common.{◌∙◌, Some, ap, if◌then◌else◌, sym}
use Rattle.csv.specs.Reading.{strip_bom}
use Rattle.live_reading.proofs.live_parts.unmarked.Goals as goal

pub returns-clause-left : goal.returns-clause-left
returns-clause-left g c = λ bytes known.
    let passed = c.in_ok-skip.ensures.passes bytes known in
    passed.left ∙ ap Some (passed.past ∙ ap (λ b. if b then bytes else strip_bom bytes) (sym c.if-is_unmarked.false))
