-- What a look showed: of an item its facts, and how many of it were left, if it was stored; of an item, its bids, a category
-- or a user the view.
use Rattle.std.specs.Prelude.{ℕ, Option}
use Rattle.auction_rows.specs.declared.{requests.ItemId.ItemId, requests.Facts.Facts as ItemFacts, replies.Reply.Reply}

pub data Shown : Type 0 where
  Nothing : Shown
  Facts : ItemId → Option ItemFacts → Shown
  Left : ItemId → Option (ItemFacts × ℕ) → Shown
  Item : ItemId → Reply → Shown
  Bids : ItemId → Reply → Shown
  Category : ℕ → Reply → Shown
  User : ℕ → Reply → Shown
