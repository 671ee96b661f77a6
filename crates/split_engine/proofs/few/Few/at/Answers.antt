use Rattle.std.proofs.Common.{refl}
use Rattle.split_engine.proofs.few.Few.at.Goals as goal

pub returns-in-2 : goal.returns-in-2
returns-in-2 g c = rw (← c.self.view_is, c.in-Four.is, c.in-2.is) refl
