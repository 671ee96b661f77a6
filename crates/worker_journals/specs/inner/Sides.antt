-- What a journal keeps beside its heads, and what is said with it.
use Rattle.std.specs.Prelude.{◌≡◌, ℕ, pos, ◌+◌, ◌-◌, ◌<◌, ◌≤◌, ◌⊎◌, List, [], ◌++◌, ⊤, None, length, take, drop, slice_index_or}
use Rattle.auction_rows.specs.{ItemViews.{item_reply}, declared.limits.TheConstants.{MOST_SHOWN}}
use Rattle.auction_rows.specs.declared.replies.Reply.TheVariants.{ItemStored, BidStored, CommentStored, Bought, BidsSeen, CategorySeen, UserSeen, Refused}
use Rattle.auction_rows.specs.declared.{replies.Reply.Reply, replies.ItemView.ItemView}
use Rattle.worker_journals.specs.Shown.{ShownLists, nothing_shown, shown_in}
use Rattle.worker_journals.specs.declared.heads.ShortReply.{ShortReply}
use Rattle.worker_journals.specs.declared.heads.ShortReply.TheVariants as told
use Rattle.worker_journals.specs.declared.heads.UserSeen.{UserSeen as SeenUser}

-- the side lists of a journal
pub record SideLists : Type 0 where
  -- what its views show
  pub lists : ShownLists
  -- for how many commits more there is room
  pub left : ℕ

-- side lists before the first commit
abbrev pub no_sides : ℕ → SideLists
no_sides room = record { lists = nothing_shown; left = room }

-- what views show, with more of it at the end of each list
abbrev pub with_shown : ShownLists → ShownLists → ShownLists
with_shown lists more = record {
  items = lists.items ++ more.items;
  users = lists.users ++ more.users;
  bids = lists.bids ++ more.bids;
  latest = lists.latest ++ more.latest;
}

-- one commit more is kept
pub record HasKept (sides : SideLists) (reply : Reply) (after : SideLists) : Type 0 where
  -- the lists stay as they are, or have what the reply shows at their ends
  pub lists : (after.lists ≡ sides.lists)
      ⊎ (after.lists ≡ with_shown sides.lists (shown_in reply))
  -- the commit took a place
  pub left : after.left ≡ sides.left - 1

-- an item seen that no head says
abbrev pub no_item : ItemView
no_item = record {
  seller = 0;
  category = 0;
  name = [];
  left = 0;
  start = 0;
  closes = 0;
  bids = 0;
  highest = None;
  bidder = None;
}

-- the item seen at a place, past the end the one that no head says
abbrev pub item_at : List ItemView → ℕ → ItemView
item_at items place = slice_index_or items place no_item

-- the user seen at a place, past the end one that no head says
abbrev pub user_at : List SeenUser → ℕ → SeenUser
user_at users place = slice_index_or users place (record { rating = pos 0; comments = 0 })

-- what the view of a user shows, as a reply
abbrev pub user_reply : SeenUser → Reply
user_reply seen = UserSeen seen.rating seen.comments

-- the reply that a head says, with what the journal's views show
abbrev pub reply_from : ShownLists → ShortReply → Reply
reply_from lists (told.ItemStored id) = ItemStored id
reply_from lists (told.BidStored id) = BidStored id
reply_from lists (told.CommentStored id) = CommentStored id
reply_from lists (told.Bought id) = Bought id
reply_from lists (told.ItemSeen place) = item_reply (item_at lists.items place)
reply_from lists (told.BidsSeen count place) = BidsSeen (take count (drop place lists.bids))
reply_from lists (told.CategorySeen count place) =
    CategorySeen (take count (drop place lists.latest))
reply_from lists (told.UserSeen place) = user_reply (user_at lists.users place)
reply_from lists (told.Refused reason) = Refused reason

-- the place of a short reply lies within the lists
abbrev pub HasReply : ShownLists → ShortReply → Type 0
HasReply lists (told.ItemStored id) = ⊤
HasReply lists (told.BidStored id) = ⊤
HasReply lists (told.CommentStored id) = ⊤
HasReply lists (told.Bought id) = ⊤
HasReply lists (told.ItemSeen place) = place < length lists.items
HasReply lists (told.BidsSeen count place) =
    (count ≤ MOST_SHOWN) × (place + count ≤ length lists.bids)
HasReply lists (told.CategorySeen count place) =
    (count ≤ MOST_SHOWN) × (place + count ≤ length lists.latest)
HasReply lists (told.UserSeen place) = place < length lists.users
HasReply lists (told.Refused reason) = ⊤

-- a short reply says a reply, with what views show
pub record SaysReply (lists : ShownLists) (short : ShortReply) (reply : Reply) : Type 0 where
  -- the place lies within the lists
  pub within : HasReply lists short
  -- the reply is the one that is said
  pub is : reply_from lists short ≡ reply
