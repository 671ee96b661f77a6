use Rattle.std.proofs.{Common.{◌≡◌, ◌∙◌, [], ap, arith, drop, sym}, lemmas.List.{drop_all}}
use Rattle.auction_text.proofs.{PutLemmas.{nothing_put}, TurnLemmas.{front-none, rest-none}}
use Rattle.auction_text.specs.{Order.{comes_before}, Replies.{lines}, inner.Putting.{line_after}}
use Rattle.auction_text.specs.inner.Turns.{front, rest}
use Rattle.auction_text.proofs.writing.reply_order.put_any_before.Goals as goal

pub returns : goal.returns
returns g c =
    let e = c.args.entry.now in
    let end : drop c.args.from c.args.entries.now ≡ [] = drop_all c.args.from c.args.entries.now (omega arith) in
    record {
      within = c.requires;
      others = end ∙ sym (ap (rest comes_before e) end ∙ rest-none comes_before e);
      puts = nothing_put g.W.Write.contents _ _ _ _ (ap (lines (line_after c.args.gone)) (ap (front comes_before e) end ∙ front-none comes_before e));
    }
