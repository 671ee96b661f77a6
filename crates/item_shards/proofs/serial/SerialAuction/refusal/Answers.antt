use Rattle.std.proofs.Common.{◌≡◌, [], Some, None, refl, ◌∙◌, rules}
use Rattle.auction_rows.specs.{Refusals.{number_refusal}, Requests.{item_of}}
use Rattle.item_shards.proofs.SerialLemmas.{refused_by_stock, refused_by_item}
use Rattle.item_shards.specs.Serial.{serial_opening}
use Rattle.item_shards.proofs.serial.SerialAuction.refusal.Goals as goal

pub returns : goal.returns
returns c = λ b holds.
    let request = c.args.request.now in let start = serial_opening c.args.self.now in
    let id = c.in_ok-item.item in let none : number_refusal start request ≡ None = search rules in
    let is : item_of request ≡ Some id = search rules in
    c.refusal_with.ensures
    ∙ refused_by_stock b request id c.stock.result is (c.stock.ensures.book b [] holds.records refl)
    ∙ refused_by_item start b request none
