use Rattle.std.proofs.Common.{arith, ◌∷◌, [], ap, length, length-append, subst, sym}
use Rattle.auction_text.proofs.{EachLemmas.{each_more}, PartLemmas.{all_below}}
use Rattle.auction_text.specs.inner.Workers.{AreEach, late_of}
use Rattle.auction_text.proofs.writing.reply_order.all_late_entries.Goals as goal

pub loop-worker-preserved : goal.loop-worker-preserved
loop-worker-preserved c =
    let of = late_of c.args.history.now.entries in let inv = c.loop-worker.invariant in
    let pushed = c.in_ok-push.ensures.items in record {
      late = subst (AreEach of) (sym pushed) (each_more of c.loop-worker.lists.items c.in_ok-late.late c.loop-worker.worker inv.late inv.len c.in_ok-late.ensures);
      len = omega (arith, inv.len, ap length pushed, length-append c.loop-worker.lists.items (c.in_ok-late.late ∷ []));
    }

pub returns-clause-workers : goal.returns-clause-workers
returns-clause-workers c =
    all_below c.last_worker.result (length c.loop-worker.lists.items) c.args.history.now.entries (omega (arith, c.loop-worker.invariant.len)) c.last_worker.ensures
