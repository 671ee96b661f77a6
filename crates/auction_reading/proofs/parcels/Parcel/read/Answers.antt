use Rattle.std.proofs.Common.{arith, ◌≡◌, ap}
use Rattle.auction_reading.{proofs.PieceLemmas.{parcel_of}, specs.declared.parcels.Parcel.{Parcel}}
use Rattle.auction_reading.specs.inner.Said.{WasRead}
use Rattle.auction_reading.proofs.parcels.Parcel.read.Goals as goal

pub read_piece-self-requires-clause-ends : goal.read_piece-self-requires-clause-ends
read_piece-self-requires-clause-ends c = λ less. c.cut-end.ensures.ends (omega (arith, less))

pub read_piece-self-requires-clause-room : goal.read_piece-self-requires-clause-room
read_piece-self-requires-clause-room c =
    let none : c.clear.new.progress.count ≡ 0 = ap (λ (was : WasRead). was.count) c.clear.ensures in
    omega (arith, none)

pub returns : goal.returns
returns c =
    let parcel : Parcel = record { from = c.cut-from.result; to = c.read_piece-self.result; progress = c.read_piece-self.new.progress } in
    parcel_of c.args.text.now c.clear.new.progress parcel c.clear.ensures c.read_piece-self.ensures.within c.read_piece-self.ensures.reads
