-- An event: an act as it was done on a shard, with what it showed.
use Rattle.std.specs.Prelude.{ℕ}
use Rattle.auction_rows.specs.declared.{values.Stars.Stars, requests.ItemId.ItemId, requests.Facts.Facts, requests.BidEntry.BidEntry, requests.ItemEntry.ItemEntry}
use Rattle.item_shards.specs.Shown.{Shown}

pub data Event : Type 0 where
  AddItem : ItemId → Facts → Event
  ListItem : ℕ → ItemEntry → Event
  Bid : ItemId → BidEntry → Event
  Comment : ℕ → Stars → Event
  Buy : ItemId → ℕ → Event
  Look : Shown → Event
