use Rattle.std.proofs.Common.{ℕ, refl, ap, subst, ◌∙◌}
use Rattle.auction_rows.specs.{Footprint.{is_hot}, declared.requests.ItemId.{ItemId}}
use Rattle.auction_rows.specs.declared.requests.Object.TheVariants.{Item}
use Rattle.worker_slices.specs.Slicing.{hot_objects}
use Rattle.phase_transactions.proofs.BegunLemmas.{next_cold}
use Rattle.phase_transactions.specs.Workers.{IsLawfulWorker, next_item}
use Rattle.phase_transactions.proofs.worker.Worker.next_item.Goals as goal

pub returns-clause-next : goal.returns-clause-next
returns-clause-next g c =
    let with_worker : ℕ → ItemId = λ n. record { worker = n; serial = c.self.inside.counters.items } in
    ap with_worker c.self.invariant.worker_is ∙ ap next_item c.self.view_is

pub returns-clause-cold : goal.returns-clause-cold
returns-clause-cold g c =
    let w = c.args.self.now in
    ap (λ (id : ItemId). is_hot (hot_objects w.slices) (Item id)) (returns-clause-next g c)
    ∙ next_cold w (is_hot (hot_objects w.slices) (Item (next_item w))) refl (subst IsLawfulWorker c.self.view_is c.self.invariant.lawful)
