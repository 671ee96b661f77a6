use Rattle.closing_laws.proofs.RoomLemmas.{merges_can_be_done}
use Rattle.closing_laws.proofs.slices_can_be_merged.Goals as goal

pub returns : goal.returns
returns c = merges_can_be_done
