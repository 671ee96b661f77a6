use Rattle.auction_reading.proofs.parcels.Parcel.new.Goals as goal

pub returns-clause-workers : goal.returns-clause-workers
returns-clause-workers c = c.in_ok-input.ensures.count
