use Rattle.std.proofs.Common.{rules}
use Rattle.byte_texts.proofs.until_end.UntilEndRead.read.Goals as goal

pub returns-clause-bytes : goal.returns-clause-bytes
returns-clause-bytes g c = search rules
