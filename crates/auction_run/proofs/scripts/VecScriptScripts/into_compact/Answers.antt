use Rattle.std.proofs.Common.{refl}
use Rattle.auction_run.proofs.scripts.VecScriptScripts.into_compact.Goals as goal

pub returns : goal.returns
returns c = refl
