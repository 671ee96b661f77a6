use Rattle.std.proofs.Common.{refl}
use Rattle.live_reading.proofs.part_records.Taken.count_to.Goals as goal

pub returns : goal.returns
returns c = record { same = record { workers = refl; most = refl }; input = refl; requests = refl; counted = refl; begun = refl }
