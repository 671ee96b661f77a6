use Rattle.std.proofs.Common.{[], ◌∙◌, ap, refl, sym}
use Rattle.auction_rows.specs.Replies.{reply}
use Rattle.item_shards.specs.Serial.{serial_opening}
use Rattle.item_shards.proofs.serial.SerialAuction.reply_to.Goals as goal

pub returns-in-ViewItem : goal.returns-in-ViewItem
returns-in-ViewItem c = λ b holds.
    c.view_item.ensures.book b [] holds.records refl c.args.worker ∙ ap (reply (serial_opening c.args.self.now) b c.args.worker) (sym c.in-ViewItem.is)

pub returns-in-ViewBids : goal.returns-in-ViewBids
returns-in-ViewBids c = λ b holds.
    c.view_bids.ensures.book b [] holds.records refl c.args.worker ∙ ap (reply (serial_opening c.args.self.now) b c.args.worker) (sym c.in-ViewBids.is)

pub returns-in-ViewCategory : goal.returns-in-ViewCategory
returns-in-ViewCategory c = λ b holds.
    c.view_category.ensures.book b [] holds.records refl c.args.worker ∙ ap (reply (serial_opening c.args.self.now) b c.args.worker) (sym c.in-ViewCategory.is)

pub returns-in-ViewUser : goal.returns-in-ViewUser
returns-in-ViewUser c = λ b holds.
    c.view_user.ensures.book b [] holds.records refl c.args.worker ∙ ap (reply (serial_opening c.args.self.now) b c.args.worker) (sym c.in-ViewUser.is)
