use Rattle.std.proofs.Common.{rules}
use Rattle.worker_journals.proofs.merge.lesser.Goals as goal

pub returns-then-next-now : goal.returns-then-next-now
returns-then-next-now c = search rules
