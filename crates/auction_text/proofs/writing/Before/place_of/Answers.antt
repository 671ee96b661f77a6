use Rattle.std.proofs.Common.{rules}
use Rattle.auction_text.proofs.writing.Before.place_of.Goals as goal

pub returns-clause-phase : goal.returns-clause-phase
returns-clause-phase c = search rules
