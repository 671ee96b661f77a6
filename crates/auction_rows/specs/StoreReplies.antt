-- The replies that show nothing: those to stores, and refusals.
use Rattle.std.specs.Prelude.{Bool, true, false, Option, Some, None}
use Rattle.auction_rows.specs.declared.replies.Reply.{Reply}
use Rattle.auction_rows.specs.declared.replies.Reply.TheVariants.{ItemStored, BidStored, CommentStored, Bought, ItemSeen, BidsSeen, CategorySeen, UserSeen, Refused}
use Rattle.auction_rows.specs.declared.replies.StoreReply.{StoreReply}
use Rattle.auction_rows.specs.declared.replies.StoreReply.TheVariants as store

-- the reply to a store, as a reply
abbrev pub reply_of : StoreReply → Reply
reply_of (store.ItemStored id) = ItemStored id
reply_of (store.BidStored id) = BidStored id
reply_of (store.CommentStored id) = CommentStored id
reply_of (store.Bought id) = Bought id
reply_of (store.Refused reason) = Refused reason

-- a reply that shows nothing; none of one that shows what a view asked for
abbrev pub store_reply : Reply → Option StoreReply
store_reply (ItemStored id) = Some (store.ItemStored id)
store_reply (BidStored id) = Some (store.BidStored id)
store_reply (CommentStored id) = Some (store.CommentStored id)
store_reply (Bought id) = Some (store.Bought id)
store_reply (ItemSeen seller category name start closes highest bidder bids left) = None
store_reply (BidsSeen bids) = None
store_reply (CategorySeen items) = None
store_reply (UserSeen rating comments) = None
store_reply (Refused reason) = Some (store.Refused reason)

-- whether a reply is a refusal
abbrev pub is_refusal : Reply → Bool
is_refusal (Refused reason) = true
is_refusal _ = false
