use Rattle.std.proofs.Common.{rules}
use Rattle.phase_floor.proofs.joined.Joined.stock_of.Goals as goal

pub returns-in-Item-clause-stocked : goal.returns-in-Item-clause-stocked
returns-in-Item-clause-stocked c = search rules

pub returns-in-Item-clause-read : goal.returns-in-Item-clause-read
returns-in-Item-clause-read c = search rules
