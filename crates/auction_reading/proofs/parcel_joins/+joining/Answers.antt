use Rattle.std.proofs.Common.{arith, ◌≡◌, ◌+◌, ◌++◌, ◌∙◌, List, ap, ap₂, rules, sym}
use Rattle.std.{proofs.lemmas.Result.{IfOk-at_ok}, specs.Prelude.{OnOk}}
use Rattle.auction_rows.specs.declared.requests.Request.{Request}
use Rattle.auction_reading.{proofs.ParcelLemmas.{parts_with}, specs.inner.Parcels.{scripts_with}}
use Rattle.auction_reading.proofs.parcel_joins.+joining.Goals as goal

pub returns : goal.returns
returns g t c =
    let cut = c.split_at_mut-first in let xs = cut.result.0.now in let ys = cut.result.1.now in
    let parcels = c.args.parcels.now in let worker = c.args.worker in
    let done = c.join_mut-joined.result in
    let front : OnOk done.0 (c.first-1.given.0 ≡ scripts_with worker xs parcels) = search rules in
    let back : OnOk done.1 (c.rest-1.given.0 ≡ scripts_with (worker + 1) ys parcels) = search rules in
    let one = IfOk-at_ok (λ _. c.first-1.given.0 ≡ scripts_with worker xs parcels) c.in_ok-joined.was front in
    let others = IfOk-at_ok (λ _. c.rest-1.given.0 ≡ scripts_with (worker + 1) ys parcels) c.in_ok-all.was back in
    ap₂ ◌++◌ one others ∙ sym (parts_with xs ys parcels worker (worker + 1) (omega (arith, cut.ensures.front_len)))
    ∙ ap (λ (ss : List (List Request)). scripts_with worker ss parcels) (sym cut.ensures.value)
