use Rattle.std.proofs.Common.{rules}
use Rattle.program_options.proofs.options.text_of.Goals as goal

pub returns-in-Ok-clause-said : goal.returns-in-Ok-clause-said
returns-in-Ok-clause-said c = search rules
