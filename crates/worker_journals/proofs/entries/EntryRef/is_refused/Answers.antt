use Rattle.std.proofs.Common.{◌∙◌, ap}
use Rattle.auction_rows.specs.StoreReplies.{is_refusal}
use Rattle.worker_journals.proofs.entries.EntryRef.is_refused.Goals as goal

pub returns : goal.returns
returns c = c.is_refusal.ensures c.head.result.1.now.lists ∙ ap is_refusal c.head.ensures.reply.is
