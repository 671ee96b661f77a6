use Rattle.std.proofs.Common.{◌≡◌, ◌∙◌, ap, sym}
use Rattle.auction_rows.specs.{ItemViews.{item_reply}, StoreReplies.{reply_of}}
use Rattle.worker_journals.{proofs.KeptLemmas.{said_of}, specs.Answers.{reply_in_form}}
use Rattle.worker_journals.proofs.sides.Sides.keep.Goals as goal

pub returns-in-Store-clause-reply : goal.returns-in-Store-clause-reply
returns-in-Store-clause-reply c =
    let told : reply_of c.in-Store.store ≡ c.args.reply.now = ap reply_in_form (sym c.in-Store.is) ∙ c.reply.view_is in
    said_of _ _ _ _ told (c.of_store.ensures _)

pub returns-in-Item-clause-reply : goal.returns-in-Item-clause-reply
returns-in-Item-clause-reply c =
    let told : item_reply c.in-Item.seen.now ≡ c.args.reply.now = ap reply_in_form (sym c.in-Item.is) ∙ c.reply.view_is in
    said_of _ _ _ _ told c.keep_item.ensures.reply

pub returns-in-Whole-clause-reply : goal.returns-in-Whole-clause-reply
returns-in-Whole-clause-reply c =
    said_of _ _ _ _ (ap reply_in_form (sym c.in-Whole.is) ∙ c.reply.view_is) c.keep_reply.ensures.reply
