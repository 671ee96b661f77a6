use Rattle.std.proofs.Common.{arith, ◌≡◌, ◌<◌, length, set, refl, ap, sym, ◌∙◌}
use Rattle.std.proofs.lemmas.List.{Edits.{map_over_more}, get_or_read}
use Rattle.worker_slices.specs.declared.counters.Counters.{Counters}
use Rattle.closing_laws.specs.Standing.{counters_at, stores}
use Rattle.phase_transactions.specs.Workers.{no_counters}
use Rattle.phase_floor.specs.NextRun.{stores_as_commits}
use Rattle.phase_floor.proofs.joined.set_commits.Goals as goal

pub loop-worker-init : goal.loop-worker-init
loop-worker-init c = (refl, refl)

pub loop-worker-preserved : goal.loop-worker-preserved
loop-worker-preserved c =
    let was = c.loop-worker.invariant in let w = c.loop-worker.worker in let items = c.loop-worker.counters.items in let all = c.args.counters.now.items in
    let own : Counters = c.index_mut.result.now in
    let low : w < length items = omega (arith, was.0, c.loop-worker.counters.ok.0, c.len-worker-end.ensures, c.args.counters.now.ok.0, c.loop-worker-test.true) in
    let below : w < length all = omega (arith, c.len-worker-end.ensures, c.args.counters.now.ok.0, c.loop-worker-test.true) in
    let written : own ≡ counters_at items w = get_or_read items _ _ low c.index_mut.ensures.value no_counters in
    let read : c.index.result.now ≡ counters_at items w = get_or_read items _ _ low c.index.ensures no_counters in
    let counted : c.stores-commits.result ≡ stores own = c.stores-commits.ensures ∙ ap stores (read ∙ sym written) in
    let made : record { items = own.items; bids = own.bids; comments = own.comments; buys = own.buys; commits = c.stores-commits.result } ≡ stores_as_commits own =
    λ i. record { items = own.items; bids = own.bids; comments = own.comments; buys = own.buys; commits = counted i } in
    (was.0, ap (λ t. set items w t) made ∙ map_over_more stores_as_commits all items w own below was.1 c.index_mut.ensures.value)
