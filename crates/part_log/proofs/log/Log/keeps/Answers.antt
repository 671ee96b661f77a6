use Rattle.std.proofs.{Common.{sym}, lemmas.Bool.{false≢true}}
use Rattle.part_log.proofs.log.Log.keeps.Goals as goal

pub returns : goal.returns
returns g c = λ keeps_none. absurd (false≢true (sym keeps_none))
