use Rattle.std.proofs.Common.{◌≡◌, ◌∷◌, [], ◌++◌, true, sym, ap, subst, get_or, set, ◌∙◌}
use Rattle.std.{proofs.lemmas.Option.{get_or_from_slice_get}, specs.Prelude.{slice_get}}
use Rattle.item_shards.proofs.SerialLemmas.{after_own, either_way, counts_next, limits_next, stored_few, stands_after, writes_can_be_done}
use Rattle.item_shards.{proofs.StandingLemmas.{stands_moved}, specs.Contents.{after_acts}}
use Rattle.item_shards.specs.Counting.{stored_by, worker_of, counted, AreFew}
use Rattle.item_shards.specs.{Limits.{IsWithinLimits}, Serial.{serial_opening}}
use Rattle.item_shards.specs.{ShardContents.{contents}, Writing.{writes_of}}
use Rattle.item_shards.specs.declared.serial.StoreCounts.{StoreCounts}
use Rattle.item_shards.proofs.serial.SerialAuction.store.Goals as goal

abbrev none : StoreCounts
none = record { items = 0; bids = 0; comments = 0; buys = 0 }

pub write-requires-clause-can : goal.write-requires-clause-can
write-requires-clause-can c = λ rooms room.
    let shard = c.args.self.now.shard in let start = serial_opening c.args.self.now in
    let b = c.requires.book in let r = c.args.row.now in
    let limits = subst IsWithinLimits (sym (after_own start b r c.requires.goes_on)) (limits_next b r c.requires.holds.limits c.requires.not_full) in
    writes_can_be_done start shard.parts.value.number shard.parts.value.shards rooms (contents shard) c.args.self.now.has_all b r c.requires.holds.records c.requires.goes_on limits room

pub returns-in_err-write-clause-refused : goal.returns-in_err-write-clause-refused
returns-in_err-write-clause-refused c = either_way c.from_residual.result (λ b holds. record {
  records = stands_moved c.args.self.now.shard c.write.new.self (contents c.args.self.now.shard) b [] c.write.ensures.same c.in_err-write.ensures.refused holds.records;
  counts = holds.counts;
  limits = holds.limits;
})

pub count-requires : goal.count-requires
count-requires c =
    let b = c.requires.book in let w = worker_of c.args.row.now in
    let old = c.args.self.now.stored in
    let is : get_or old w _ ≡ stored_by b w = get_or_from_slice_get old w (stored_by b w) _ (c.requires.holds.counts w c.requires.worker) in
    subst AreFew (sym (ap (λ v. get_or old v _) c.worker-worker.ensures ∙ is)) (stored_few b w c.requires.not_full)

pub returns-clause-stored : goal.returns-clause-stored
returns-clause-stored c = λ b holds not_full.
    let shard = c.args.self.now.shard in let start = serial_opening c.args.self.now in
    let r = c.args.row.now in
    let old = c.args.self.now.stored in record {
      records = stands_moved shard c.write.new.self (after_acts (contents shard) (writes_of r)) (b ++ r ∷ []) [] c.write.ensures.same c.in_ok-write.ensures.written
          (stands_after start shard.parts.value.number shard.parts.value.shards (λ id. true) (contents shard) c.args.self.now.has_all b r holds.records);
      counts = λ w within.
          (λ i. slice_get (set old (c.worker-worker.ensures i) ((c.count.ensures ∙ ap (λ v. counted r (get_or old v none)) c.worker-worker.ensures) i)) w)
          ∙ counts_next b r old none holds.counts c.requires.worker w within;
      limits = limits_next b r holds.limits not_full;
    }
