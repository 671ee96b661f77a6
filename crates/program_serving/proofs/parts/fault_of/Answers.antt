use Rattle.std.proofs.Common.{◌∙◌, ap, sym}
use Rattle.auction_run.specs.{RunFault.{RunFault}, declared.checks.Stopped.TheVariants.{Refused}}
use Rattle.program_opening.specs.declared.faults.Fault.TheVariants.{Limit}
use Rattle.program_serving.specs.inner.Parts.{told_fault}
use Rattle.program_serving.proofs.parts.fault_of.Goals as goal

pub returns-in-Refused-default-TooLong : goal.returns-in-Refused-default-TooLong
returns-in-Refused-default-TooLong c =
    let at = c.in-Refused-default-TooLong in
    ap Limit c.limit.ensures.limit ∙ ap (λ (fault : RunFault). told_fault (Refused at.state fault)) (sym at.field-1-is) ∙ ap told_fault (sym at.is)
