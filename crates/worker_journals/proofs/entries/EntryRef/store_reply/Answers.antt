use Rattle.std.proofs.Common.{◌∙◌, ap}
use Rattle.auction_rows.specs.StoreReplies.{store_reply}
use Rattle.worker_journals.proofs.entries.EntryRef.store_reply.Goals as goal

pub returns : goal.returns
returns c = c.as_store_reply.ensures c.head.result.1.now.lists ∙ ap store_reply c.head.ensures.reply.is
