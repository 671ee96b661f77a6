use Rattle.std.proofs.Common.{codes, refl}
use Rattle.record_reading.proofs.PlainLineLemmas.{row_at, some_weaker}
use Rattle.record_reading.specs.declared.fields.RequestKind.TheVariants as kind
use Rattle.record_reading.proofs.plain_lines.store_at.Goals as goal

pub returns-then-begins-clause-asks : goal.returns-then-begins-clause-asks
returns-then-begins-clause-asks c =
    some_weaker c.item.result _ _ (λ p rest.
    record { word = codes "item"; kind = kind.Item; plain = refl; named = refl; there = c.begins.ensures c.if-begins.true; rest = rest }) c.item.ensures

pub returns-then-begins-clause-adds : goal.returns-then-begins-clause-adds
returns-then-begins-clause-adds c =
    some_weaker c.item.result _ _ (λ p rest before place plus.
    row_at c.args.text.now before c.args.at (codes "item") kind.Item p.0 p.1 place plus refl refl (c.begins.ensures c.if-begins.true) rest) c.item.ensures

pub returns-then-begins-2-clause-asks : goal.returns-then-begins-2-clause-asks
returns-then-begins-2-clause-asks c =
    some_weaker c.comment.result _ _ (λ p rest.
    record { word = codes "comment"; kind = kind.Comment; plain = refl; named = refl; there = c.begins-2.ensures c.if-begins-2.true; rest = rest }) c.comment.ensures

pub returns-then-begins-2-clause-adds : goal.returns-then-begins-2-clause-adds
returns-then-begins-2-clause-adds c =
    some_weaker c.comment.result _ _ (λ p rest before place plus.
    row_at c.args.text.now before c.args.at (codes "comment") kind.Comment p.0 p.1 place plus refl refl (c.begins-2.ensures c.if-begins-2.true) rest) c.comment.ensures

pub returns-then-begins-3-clause-asks : goal.returns-then-begins-3-clause-asks
returns-then-begins-3-clause-asks c =
    some_weaker c.purchase.result _ _ (λ p rest.
    record { word = codes "buynow"; kind = kind.BuyNow; plain = refl; named = refl; there = c.begins-3.ensures c.if-begins-3.true; rest = rest }) c.purchase.ensures

pub returns-then-begins-3-clause-adds : goal.returns-then-begins-3-clause-adds
returns-then-begins-3-clause-adds c =
    some_weaker c.purchase.result _ _ (λ p rest before place plus.
    row_at c.args.text.now before c.args.at (codes "buynow") kind.BuyNow p.0 p.1 place plus refl refl (c.begins-3.ensures c.if-begins-3.true) rest) c.purchase.ensures

pub returns-then-begins-4-clause-asks : goal.returns-then-begins-4-clause-asks
returns-then-begins-4-clause-asks c =
    some_weaker c.any_bid.result _ _ (λ p rest.
    record { word = codes "bid"; kind = kind.Bid; plain = refl; named = refl; there = c.begins-4.ensures c.if-begins-4.true; rest = rest }) c.any_bid.ensures

pub returns-then-begins-4-clause-adds : goal.returns-then-begins-4-clause-adds
returns-then-begins-4-clause-adds c =
    some_weaker c.any_bid.result _ _ (λ p rest before place plus.
    row_at c.args.text.now before c.args.at (codes "bid") kind.Bid p.0 p.1 place plus refl refl (c.begins-4.ensures c.if-begins-4.true) rest) c.any_bid.ensures
