use Rattle.std.proofs.Common.{rules}
use Rattle.program_options.proofs.options.number_parser.Goals as goal

pub returns : goal.returns
returns c = search rules
