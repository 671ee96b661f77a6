use Rattle.std.proofs.Common.{arith}
use Rattle.phase_floor.proofs.joined.stores.Goals as goal

pub returns : goal.returns
returns c = omega arith
