use Rattle.std.proofs.Common.{◌≡◌, ◌≤◌, ◌+◌, ◌*◌, ◌++◌, codes, length, take}
use Rattle.std.specs.List.{flat_map}
use Rattle.auction_text.specs.Replies.{bid_text}
use Rattle.auction_text.specs.declared.writing.replies.TheConstants.{MOST_OF_A_BID}
use Rattle.auction_text.proofs.writing.replies.put_bids.Given as goal

abbrev pub invariant-loop-place : goal.invariant-loop-place
invariant-loop-place g l = record {
  told : l.block ≡ l.fn.block ++ (codes "bids" ++ flat_map bid_text (take l.place l.bids));
  room : length l.block ≤ 4 + MOST_OF_A_BID * l.place + length l.fn.block;
}
