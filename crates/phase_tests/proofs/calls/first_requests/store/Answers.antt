use Rattle.std.{proofs.Common.{List, slice_get, refl, sym, subst}, specs.Prelude.{IfSome}}
use Rattle.auction_rows.specs.declared.requests.Object.TheVariants.{Item}
use Rattle.item_shards.specs.{ShardContents.{LiesIn}, declared.shard.Shard.{Shard}}
use Rattle.phase_tests.proofs.permits.ClosedLemmas.{first_has}
use Rattle.phase_tests.proofs.calls.first_requests.store.Goals as goal

pub first_facts-requires : goal.first_facts-requires
first_facts-requires g c =
    let first = Item (record { worker = 0; serial = 0 }) in
    subst (λ (shards : List Shard). IfSome (slice_get shards 0) (λ shard. LiesIn shard first)) (sym c.deref-2.ensures.value)
    (first_has first refl g.N.PhaseName.initial g.N.PhaseName.workers _ c.close_one-shards.result.items c.requires.new.four c.close_one-shards.ensures)
