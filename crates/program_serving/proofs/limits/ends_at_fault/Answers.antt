use Rattle.std.proofs.Common.{◌||◌, ◌==◌, ap, sym}
use Rattle.program_serving.proofs.limits.ends_at_fault.Goals as goal

pub returns-else-options : goal.returns-else-options
returns-else-options c = sym (ap (λ b. b || (c.args.options.now.live == 0)) c.if-options.false)
