use Rattle.std.proofs.Common.{◌∙◌, ap, sym}
use Rattle.auction_rows.specs.Replies.{answer, answer_unless}
use Rattle.item_shards.proofs.SerialLemmas.{counted_in}
use Rattle.item_shards.proofs.serial.SerialAuction.reply_to_store.Goals as goal

pub returns-in-Some : goal.returns-in-Some
returns-in-Some c = λ b holds.
    ap (λ refused. answer_unless refused (answer b c.args.worker c.args.request.now)) (sym c.in-Some.is ∙ c.refusal.ensures b holds)

pub returns : goal.returns
returns c = λ b holds.
    c.next_reply.ensures b (sym (counted_in c.args.self.now b c.args.worker holds c.requires.worker))
    ∙ ap (λ refused. answer_unless refused (answer b c.args.worker c.args.request.now)) (sym c.in_default.is ∙ c.refusal.ensures b holds)
