use Rattle.phase_tests.proofs.permits.KeyLemmas.{two_keys}
use Rattle.phase_tests.proofs.testing.boxes_of_two.Goals as goal

pub returns : goal.returns
returns g c =
    let both = c.both-first in
    let new = two_keys c.in-Ok.boxes g.N.PhaseName.workers c.in-Ok.keys.items both.result.0 both.result.1 both.ensures c.requires.workers c.in-Ok.ensures.keys in
    record { first = new.0; second = new.1 }
