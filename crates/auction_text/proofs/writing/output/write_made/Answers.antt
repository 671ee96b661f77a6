use Rattle.std.proofs.Common.{refl}
use Rattle.auction_text.proofs.writing.output.write_made.Goals as goal

pub returns-in_default-clause-memory : goal.returns-in_default-clause-memory
returns-in_default-clause-memory g c = λ _. refl
