use Rattle.std.proofs.Common.{◌≡◌, ◌≤◌, ◌+◌, ◌*◌, ◌++◌, codes, length, take}
use Rattle.std.specs.List.{flat_map}
use Rattle.auction_text.specs.Replies.{item_text}
use Rattle.auction_text.specs.declared.writing.replies.TheConstants.{MOST_OF_AN_ITEM}
use Rattle.auction_text.proofs.writing.replies.put_items.Given as goal

abbrev pub invariant-loop-place : goal.invariant-loop-place
invariant-loop-place g l = record {
  told : l.block ≡ l.fn.block ++ (codes "latest" ++ flat_map item_text (take l.place l.items));
  room : length l.block ≤ 6 + MOST_OF_AN_ITEM * l.place + length l.fn.block;
}
