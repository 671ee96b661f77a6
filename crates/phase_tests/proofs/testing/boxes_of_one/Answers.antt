use Rattle.std.proofs.Common.{ap}
use Rattle.shard_boxes.specs.Keys.{SeatState}
use Rattle.phase_tests.proofs.permits.KeyLemmas.{only_key}
use Rattle.phase_tests.proofs.testing.boxes_of_one.Goals as goal

pub returns : goal.returns
returns g c =
    let new = only_key c.in-Ok.boxes g.N.PhaseName.workers c.in-Ok.keys.items c.only-key.result c.only-key.ensures c.requires.workers c.in-Ok.ensures.keys in record {
      boxes = new.boxes_are;
      worker = new.worker_is;
      unused = λ s. (ap (λ (seat : SeatState). seat.holds) (new.unused s), ap (λ (seat : SeatState). seat.lines) (new.unused s));
    }
