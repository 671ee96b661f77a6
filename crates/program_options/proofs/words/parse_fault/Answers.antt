use Rattle.std.proofs.Common.{rules}
use Rattle.program_options.proofs.words.parse_fault.Goals as goal

pub returns : goal.returns
returns c = search rules
