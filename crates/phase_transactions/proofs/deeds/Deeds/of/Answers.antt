use Rattle.std.proofs.Common.{ap}
use Rattle.auction_rows.specs.StoreReplies.{reply_of}
use Rattle.phase_transactions.proofs.ArmLemmas.{buy_arm, comment_arm}
use Rattle.phase_transactions.specs.inner.Asking.{store_request}
use Rattle.phase_transactions.proofs.deeds.Deeds.of.Goals as goal

pub returns-in-CommentStored-clause-good : goal.returns-in-CommentStored-clause-good
returns-in-CommentStored-clause-good c seen initial workers boxes key w held its =
    let of = c.in-Comment in
    comment_arm (store_request c.args.stored.now) (reply_of c.args.reply) its of.field-0 of.about of.item of.stars (ap store_request of.is)

pub returns-in-Bought-clause-good : goal.returns-in-Bought-clause-good
returns-in-Bought-clause-good c seen initial workers boxes key w held its =
    let of = c.in-Buy in
    buy_arm (store_request c.args.stored.now) (reply_of c.args.reply) its of.field-0 of.item of.quantity of.field-3 c.in-Bought.field-0 (ap store_request of.is) (ap reply_of c.in-Bought.is)
