-- What a reply shows.
use Rattle.std.specs.Prelude.{List, [], ◌∷◌}
use Rattle.auction_rows.specs.declared.replies.Reply.TheVariants.{ItemStored, BidStored, CommentStored, Bought, ItemSeen, BidsSeen, CategorySeen, UserSeen, Refused}
use Rattle.auction_rows.specs.declared.{replies.Reply.Reply, replies.ItemView.ItemView, replies.BidShown.BidShown, replies.ItemShown.ItemShown}
use Rattle.worker_journals.specs.declared.heads.UserSeen.{UserSeen as SeenUser}

-- what a reply shows, of each kind
pub record ShownLists : Type 0 where
  -- an item
  pub items : List ItemView
  -- a user
  pub users : List SeenUser
  -- bids on an item
  pub bids : List BidShown
  -- items of a category
  pub latest : List ItemShown

-- a reply shows nothing
abbrev pub nothing_shown : ShownLists
nothing_shown = record { items = []; users = []; bids = []; latest = [] }

-- what a reply shows
abbrev pub shown_in : Reply → ShownLists
shown_in (ItemStored id) = nothing_shown
shown_in (BidStored id) = nothing_shown
shown_in (CommentStored id) = nothing_shown
shown_in (Bought id) = nothing_shown
shown_in (ItemSeen seller category name start closes highest bidder bids left) =
    record nothing_shown {
      items = record {
        seller = seller;
        category = category;
        name = name;
        left = left;
        start = start;
        closes = closes;
        bids = bids;
        highest = highest;
        bidder = bidder;
      } ∷ [];
    }
shown_in (BidsSeen bids) = record nothing_shown { bids = bids }
shown_in (CategorySeen items) = record nothing_shown { latest = items }
shown_in (UserSeen rating comments) = record nothing_shown {
  users = record { rating = rating; comments = comments } ∷ [];
}
shown_in (Refused reason) = nothing_shown
