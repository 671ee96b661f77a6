use Rattle.worker_journals.proofs.KeptLemmas.{one_each, ten_each}
use Rattle.worker_journals.proofs.sides.Sides.emptied.Goals as goal

pub invariant_of-result : goal.invariant_of-result
invariant_of-result c =
    let shown = c.saturating_mul-shown.ensures in let items = c.in_ok-emptied.ensures in
    let users = c.in_ok-emptied-2.ensures in let bids = c.in_ok-emptied-3.ensures in
    let latest = c.in_ok-emptied-4.ensures in (
      one_each _ _ _ items.len items.capacity,
      one_each _ _ _ users.len users.capacity,
      ten_each _ _ _ _ bids.len bids.capacity shown c.in_ok-emptied-3.field-0.small,
      ten_each _ _ _ _ latest.len latest.capacity shown c.in_ok-emptied-4.field-0.small,
    )
