use Rattle.std.proofs.Common.{rules, sym, ap, subst, ◌∙◌}
use Rattle.auction_rows.specs.{Replies.{row_of}, StoreReplies.{reply_of}}
use Rattle.item_shards.specs.Writing.{writes_if}
use Rattle.worker_slices.specs.Slicing.{hot_objects, HaveAtMost}
use Rattle.phase_transactions.proofs.LawfulLemmas.{lawful_sliced, objects-acts, counts_one}
use Rattle.phase_transactions.specs.Workers.{WorkerState}
use Rattle.phase_transactions.proofs.worker.Worker.add_store.Goals as goal

pub invariant_of-self : goal.invariant_of-self
invariant_of-self g c =
    let inside = c.self.inside in let old = c.args.self.now in
    let commits = ap (λ (s : WorkerState). s.counters.commits) (c.self.view_is ∙ c.add_entry.ensures.entry) ∙ (counts_one old.counters (reply_of c.args.store.now.reply)).commits in
    let few = c.store.ensures.few old.counters.commits (subst (λ (s : WorkerState). HaveAtMost old.counters.commits s.slices) (sym c.self.view_is) c.add_entry.ensures.few) in
    record {
      lawful = lawful_sliced _ c.store.new.self c.self.invariant.lawful (ap hot_objects (c.store.ensures.written old.journal.worker c.requires.own) ∙ objects-acts inside.slices (writes_if (row_of old.journal.worker c.args.store.now.call.request.now (reply_of c.args.store.now.reply))))
          (subst (λ n. HaveAtMost n c.store.new.self) (sym commits) few);
      worker_is = c.self.invariant.worker_is;
      shards_is = c.self.invariant.shards_is;
      some = c.self.invariant.some;
    }

pub returns : goal.returns
returns g c = search rules
