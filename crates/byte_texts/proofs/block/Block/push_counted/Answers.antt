use Rattle.std.proofs.Common.{rules}
use Rattle.byte_texts.proofs.block.Block.push_counted.Goals as goal

pub returns-clause-text : goal.returns-clause-text
returns-clause-text g c = search rules
