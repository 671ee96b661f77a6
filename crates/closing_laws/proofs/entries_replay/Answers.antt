use Rattle.closing_laws.proofs.ReplayLemmas.{replays_and_stands}
use Rattle.closing_laws.proofs.entries_replay.Goals as goal

pub returns : goal.returns
returns c = replays_and_stands
