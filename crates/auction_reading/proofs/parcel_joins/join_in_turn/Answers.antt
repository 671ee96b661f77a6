use Rattle.std.proofs.Common.{arith, ◌<◌, ◌≤◌, ◌∙◌, List, ap, length, refl, sym, take_all}
use Rattle.auction_rows.specs.declared.requests.Request.{Request}
use Rattle.auction_reading.proofs.ParcelLemmas.{one_joined, others_yet}
use Rattle.auction_reading.specs.inner.Parcels.{scripts_with}
use Rattle.auction_reading.proofs.parcel_joins.join_in_turn.Goals as goal

pub loop-script-init : goal.loop-script-init
loop-script-init c = record { at = omega arith; done = refl; yet = refl }

pub loop-script-preserved : goal.loop-script-preserved
loop-script-preserved c =
    let inv = c.loop-script.invariant in let scripts = c.args.scripts.now in
    let parcels = c.args.parcels.now in let first = c.args.first in
    let now = c.loop-script.scripts in let i = c.loop-script.script-index in
    let worker = c.loop-script.worker in let script = c.script-item.result in
    let new = c.join_script.new.script in
    let within : i < length now = omega (arith, c.loop-script-test.true, c.loop-script.auto.scripts) in
    record {
      at = omega (arith, inv.at);
      done = one_joined scripts now first i worker script new parcels within inv.at c.in_ok-join_script.ensures inv.yet inv.done;
      yet = others_yet scripts now first i worker script new parcels within inv.at c.in_ok-join_script.ensures inv.yet;
    }

pub returns : goal.returns
returns c =
    let now = c.loop-script.scripts in let i = c.loop-script.script-index in
    let past : length now ≤ i = omega (arith, c.loop-script-test.false, c.loop-script.auto.scripts) in
    let all : length c.args.scripts.now ≤ i = omega (arith, past, c.loop-script.auto.scripts) in
    sym (take_all i now past) ∙ c.loop-script.invariant.done
    ∙ ap (λ (ss : List (List Request)). scripts_with c.args.first ss c.args.parcels.now) (take_all i c.args.scripts.now all)
