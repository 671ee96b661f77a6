use Rattle.std.proofs.Common.{arith, ◌≡◌, ◌∙◌, List, ap, drop, length, subst, sym, take}
use Rattle.std.proofs.lemmas.List.{with_items_is}
use Rattle.auction_rows.specs.declared.requests.Request.{Request}
use Rattle.auction_reading.proofs.ParcelLemmas.{requests_joined}
use Rattle.auction_reading.specs.inner.{Parcels.{scripts_with}, Said.{HasRead, WasRead, read_by}}
use Rattle.auction_reading.proofs.parcel_joins.join_parcels.Goals as goal

pub returns-clause-within : goal.returns-clause-within
returns-clause-within g c = c.in_ok-many.ensures.within

pub returns-clause-reads : goal.returns-clause-reads
returns-clause-reads g c text are =
    let old = read_by c.args.progress.now in let rows = c.in_ok-many.ensures in
    let parcels = take c.in_ok-many.many c.args.parcels.now in
    let progress = c.join_all_rows.new.progress in let scripts = progress.input.scripts in
    let now = c.join_requests.new.scripts in
    let many : length now ≡ length scripts.items = omega (arith, c.join_requests.auto.scripts, ap length c.deref_mut.ensures.value) in
    let joined = with_items_is scripts now (many ∙ sym scripts.ok.0) ∙ c.in-Ok.ensures ∙ ap (λ (ss : List (List Request)). scripts_with 0 ss parcels) c.deref_mut.ensures.value in
    subst (λ (was : WasRead). HasRead old text was (drop c.in_ok-many.at text)) (requests_joined old parcels (read_by progress) _ rows.joins joined) (rows.reads text are)
