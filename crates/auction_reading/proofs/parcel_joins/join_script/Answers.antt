use Rattle.std.proofs.Common.{◌∙◌, ◌++◌, List, ap, append-nil, sym, take_all}
use Rattle.auction_reading.proofs.ParcelLemmas.{requests_more}
use Rattle.auction_reading.specs.{declared.parcels.Parcel.{Parcel}, inner.Parcels.{all_requests_of}}
use Rattle.auction_reading.proofs.parcel_joins.join_script.Goals as goal

pub loop-parcel-init : goal.loop-parcel-init
loop-parcel-init c = sym (append-nil c.args.script.now)

pub loop-parcel-preserved : goal.loop-parcel-preserved
loop-parcel-preserved c =
    requests_more c.args.worker c.args.parcels.now c.loop-parcel.parcel-index c.parcel-item.result c.args.script.now c.loop-parcel.script c.add_requests.new.script c.loop-parcel-test.true c.parcel-item.is
    c.loop-parcel.invariant c.in_ok-add_requests.ensures

pub returns : goal.returns
returns c =
    c.loop-parcel.invariant
    ∙ ap (λ (parcels : List Parcel). c.args.script.now ++ all_requests_of c.args.worker parcels) (take_all c.loop-parcel.parcel-index c.args.parcels.now c.loop-parcel-test.false)
