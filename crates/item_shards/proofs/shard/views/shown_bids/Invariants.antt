use Rattle.std.proofs.Common.{◌≡◌, map, take}
use Rattle.auction_rows.specs.Replies.{bid_shown}
use Rattle.item_shards.proofs.shard.views.shown_bids.Given as goal

-- those passed are shown
abbrev pub invariant-loop-bid : goal.invariant-loop-bid
invariant-loop-bid l = l.shown ≡ map bid_shown (take l.bid-index l.entries)
