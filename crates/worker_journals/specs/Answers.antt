-- What a commit is told of its reply.
use Rattle.auction_rows.specs.{ItemViews.{item_reply}, StoreReplies.{reply_of}}
use Rattle.auction_rows.specs.declared.replies.Reply.{Reply}
use Rattle.worker_journals.specs.declared.entries.ReplyForm.{ReplyForm}
use Rattle.worker_journals.specs.declared.entries.ReplyForm.TheVariants.{Store, Item, Whole}

-- the reply that is told
abbrev pub reply_in_form : ReplyForm → Reply
reply_in_form (Store reply) = reply_of reply
reply_in_form (Item seen) = item_reply seen.now
reply_in_form (Whole reply) = reply.now
