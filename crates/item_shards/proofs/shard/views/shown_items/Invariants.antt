use Rattle.std.proofs.Common.{◌≡◌, map, take}
use Rattle.auction_rows.specs.Replies.{item_shown}
use Rattle.item_shards.proofs.shard.views.shown_items.Given as goal

-- those passed are shown
abbrev pub invariant-loop-item : goal.invariant-loop-item
invariant-loop-item l = l.shown ≡ map item_shown (take l.item-index l.entries)
