use Rattle.std.proofs.Common.{arith, ◌<◌, ◌≤◌, length, subst, sym, take, take_all}
use Rattle.std.proofs.lemmas.List.{Elements.{All-nil, All-push}, take_more_set}
use Rattle.auction_reading.specs.inner.Parcels.{AreParcels, IsParcel}
use Rattle.auction_reading.proofs.parcels.read_in_turn.Goals as goal

pub loop-parcel-init : goal.loop-parcel-init
loop-parcel-init c = record { each = All-nil (IsParcel c.args.text.now) }

pub loop-parcel-preserved : goal.loop-parcel-preserved
loop-parcel-preserved c =
    let text = c.args.text.now in let now = c.loop-parcel.parcels in
    let i = c.loop-parcel.parcel-index in let new = c.read.new.self in
    let within : i < length now = omega (arith, c.loop-parcel-test.true, c.loop-parcel.auto.parcels) in
    subst (AreParcels text) (sym (take_more_set now i new within)) (record { each = All-push (IsParcel text) (take i now) new c.loop-parcel.invariant.each c.read.ensures })

pub returns : goal.returns
returns c =
    let now = c.loop-parcel.parcels in let i = c.loop-parcel.parcel-index in
    let past : length now ≤ i = omega (arith, c.loop-parcel-test.false, c.loop-parcel.auto.parcels) in
    subst (AreParcels c.args.text.now) (take_all i now past) c.loop-parcel.invariant
