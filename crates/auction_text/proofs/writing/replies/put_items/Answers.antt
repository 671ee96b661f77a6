use Rattle.std.proofs.Common.{arith, codes, sym, ◌∙◌}
use Rattle.auction_text.proofs.ListedLemmas.{all_listed, shown_listed, some_there}
use Rattle.auction_text.specs.Replies.{item_text}
use Rattle.auction_text.proofs.writing.replies.put_items.Goals as goal

pub unwrap-requires : goal.unwrap-requires
unwrap-requires g c = some_there c.args.items.now c.loop-place.place c.get.result (omega (arith, c.loop-place-test.true, c.len-place-end.ensures.length)) c.get.ensures

pub put_item-requires : goal.put_item-requires
put_item-requires g c = omega (arith, c.loop-place.invariant.room, c.loop-place-test.true, c.len-place-end.ensures.at_most_ten, c.requires)

pub loop-place-preserved : goal.loop-place-preserved
loop-place-preserved g c = record {
  told = shown_listed item_text c.args.block.now (codes "latest") c.loop-place.block c.put_item.new.block c.args.items.now c.loop-place.place c.unwrap.result
      (sym c.get.ensures ∙ c.unwrap.ensures) c.loop-place.invariant.told c.put_item.ensures.text;
  room = omega (arith, c.loop-place.invariant.room, c.put_item.ensures.length);
}

pub loop-place-init : goal.loop-place-init
loop-place-init g c = record { told = c.push.ensures.text; room = omega (arith, c.push.ensures.length) }

pub returns-clause-text : goal.returns-clause-text
returns-clause-text g c =
    all_listed item_text c.args.block.now (codes "latest") c.loop-place.block c.args.items.now c.loop-place.place (omega (arith, c.loop-place-test.false, c.len-place-end.ensures.length))
    c.loop-place.invariant.told

pub returns-clause-length : goal.returns-clause-length
returns-clause-length g c = omega (arith, c.loop-place.invariant.room, c.len-place-end.ensures.at_most_ten)
