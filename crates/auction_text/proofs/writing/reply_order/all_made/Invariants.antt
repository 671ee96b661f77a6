use Rattle.std.{proofs.Common.{◌≡◌, ◌++◌, Ok, map}, specs.Vec.Iter.{into_iter_items}}
use Rattle.auction_text.proofs.writing.reply_order.all_made.Given as goal

-- the texts so far, and what is left
abbrev pub invariant-loop-text : goal.invariant-loop-text
invariant-loop-text l = map Ok l.texts.items ++ into_iter_items l.text-iterator ≡ l.fn.made.items
