use Rattle.std.proofs.Common.{◌≡◌, sym, subst, ◌∙◌}
use Rattle.auction_rows.specs.Replies.{reply}
use Rattle.item_shards.specs.Serial.{serial_opening, HoldsBook}
use Rattle.item_shards.specs.declared.serial.SerialAuction.{SerialAuction}
use Rattle.item_shards.proofs.serial.SerialAuction.perform.Goals as goal

pub returns-in-Some-clause-reply : goal.returns-in-Some-clause-reply
returns-in-Some-clause-reply c = λ b holds. c.reply_of.ensures ∙ (rw c.in-Some.is at c.in_ok-reply.ensures.reply) b holds

pub returns-in-None-clause-reply : goal.returns-in-None-clause-reply
returns-in-None-clause-reply c = λ b holds.
    let same : c.perform_store.new.self ≡ c.args.self.now = rw c.in-None.is at c.in_ok-reply.ensures.view in
    subst (λ (auction : SerialAuction). c.reply_to.result ≡ reply (serial_opening auction) b c.args.worker c.args.request) same
    (c.reply_to.ensures b (subst (λ (auction : SerialAuction). HoldsBook auction b) (sym same) holds))
