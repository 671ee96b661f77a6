use Rattle.std.proofs.Common.{◌∙◌, ap, sym}
use Rattle.auction_rows.specs.Replies.{answer}
use Rattle.auction_rows.specs.declared.replies.Reply.TheVariants.{ItemStored, BidStored, CommentStored, Bought}
use Rattle.item_shards.specs.declared.serial.StoreCounts.{StoreCounts}
use Rattle.item_shards.proofs.serial.StoreCounts.next_reply.Goals as goal

pub returns-in-StoreItem : goal.returns-in-StoreItem
returns-in-StoreItem c = λ book same.
    ap (λ (counts : StoreCounts). ItemStored (record { worker = c.args.worker; serial = counts.items })) (sym same) ∙ ap (answer book c.args.worker) (sym c.in-StoreItem.is)

pub returns-in-StoreBid : goal.returns-in-StoreBid
returns-in-StoreBid c = λ book same.
    ap (λ (counts : StoreCounts). BidStored (record { worker = c.args.worker; serial = counts.bids })) (sym same) ∙ ap (answer book c.args.worker) (sym c.in-StoreBid.is)

pub returns-in-StoreComment : goal.returns-in-StoreComment
returns-in-StoreComment c = λ book same.
    ap (λ (counts : StoreCounts). CommentStored (record { worker = c.args.worker; serial = counts.comments })) (sym same) ∙ ap (answer book c.args.worker) (sym c.in-StoreComment.is)

pub returns-in-BuyNow : goal.returns-in-BuyNow
returns-in-BuyNow c = λ book same.
    ap (λ (counts : StoreCounts). Bought (record { worker = c.args.worker; serial = counts.buys })) (sym same) ∙ ap (answer book c.args.worker) (sym c.in-BuyNow.is)
