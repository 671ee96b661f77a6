use Rattle.std.proofs.Common.{take}
use Rattle.auction_reading.specs.inner.Parcels.{AreParcels}
use Rattle.auction_reading.proofs.parcels.read_in_turn.Given as goal

-- the first parcels are parcels of the text
abbrev pub invariant-loop-parcel : goal.invariant-loop-parcel
invariant-loop-parcel l = AreParcels l.text (take l.parcel-index l.parcels)
