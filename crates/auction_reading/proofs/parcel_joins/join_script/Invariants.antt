use Rattle.std.proofs.Common.{◌≡◌, ◌++◌, take}
use Rattle.auction_reading.specs.inner.Parcels.{all_requests_of}
use Rattle.auction_reading.proofs.parcel_joins.join_script.Given as goal

abbrev pub invariant-loop-parcel : goal.invariant-loop-parcel
invariant-loop-parcel l = l.script ≡ l.fn.script ++ all_requests_of l.worker (take l.parcel-index l.parcels)
