use Rattle.std.proofs.Common.{rules}
use Rattle.auction_reading.{proofs.ParcelLemmas.{both_are}, specs.inner.Parcels.{AreParcels}}
use Rattle.auction_reading.proofs.parcels.+reading.Goals as goal

pub returns : goal.returns
returns g t c =
    let text = c.args.text.now in let one : AreParcels text c.first-1.given.0 = search rules in
    let others : AreParcels text c.rest-1.given.0 = search rules in
    both_are text c.first-1.given.0 c.rest-1.given.0 one others
