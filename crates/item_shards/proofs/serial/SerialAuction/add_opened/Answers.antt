use Rattle.std.proofs.Common.{sym, ap, ◌∙◌, arith}
use Rattle.auction_rows.specs.Replies.{row_of}
use Rattle.item_shards.proofs.OpeningLemmas.{none_for, some_for, no_row_added, row_added}
use Rattle.item_shards.specs.Serial.{serial_opening}
use Rattle.item_shards.proofs.serial.SerialAuction.add_opened.Goals as goal

pub returns-clause-bad : goal.returns-clause-bad
returns-clause-bad c = none_for c.row_of.result (λ none book holds.
    no_row_added (serial_opening c.args.self.now) book c.args.opened.now
    (ap (row_of c.args.opened.now.worker c.args.opened.now.request) (sym (c.in_ok-reply.ensures.reply book holds)) ∙ sym c.row_of.ensures ∙ none))

pub returns-clause-row : goal.returns-clause-row
returns-clause-row c = some_for c.row_of.result (λ row is book holds.
    row_added (serial_opening c.args.self.now) book c.args.opened.now row (omega (arith, c.if-opened-ge-MOST_WORKERS.false))
    (ap (row_of c.args.opened.now.worker c.args.opened.now.request) (sym (c.in_ok-reply.ensures.reply book holds)) ∙ sym c.row_of.ensures ∙ is))
