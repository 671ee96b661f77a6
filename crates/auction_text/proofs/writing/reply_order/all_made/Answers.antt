use Rattle.std.proofs.{Common.{◌++◌, ◌∙◌, Ok, ap, map, sym}, lemmas.List.{nil_from_length}}
use Rattle.std.specs.Vec.Iter.{into_iter_items}
use Rattle.auction_text.proofs.EachLemmas.{all_made_at_end, made_more}
use Rattle.auction_text.proofs.writing.reply_order.all_made.Goals as goal

pub loop-text-init : goal.loop-text-init
loop-text-init c =
    ap (λ ts. map Ok ts ++ into_iter_items c.into_iter-text-iterator.result) c.in_ok-texts.ensures.items ∙ c.into_iter-text-iterator.ensures.into_iter_gives.0

pub loop-text-preserved : goal.loop-text-preserved
loop-text-preserved c =
    made_more c.args.made.items (into_iter_items c.loop-text.text-iterator) (into_iter_items c.next.new.self) c.loop-text.texts.items c.push.new.self.items c.in-Some.text
    c.in_ok-text.field-0 c.loop-text.invariant c.in-Some.ensures.steps.0 c.in_ok-text.was c.in_ok-push.ensures.items

pub returns : goal.returns
returns c =
    let left = c.loop-text.text-iterator.rest in
    all_made_at_end c.args.made.items left.items c.loop-text.texts.items c.loop-text.invariant (nil_from_length left.items (sym left.ok.0 ∙ c.in-None.ensures.steps.0))
