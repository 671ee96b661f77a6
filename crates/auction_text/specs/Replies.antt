-- The texts of replies and of histories.
use Rattle.std.specs.{Fmt.{signed_decimal}, List.{flat_map}}
use Rattle.std.specs.Prelude.{ℕ, ℤ, List, ◌++◌, codes, decimal, Option}
use Rattle.auction_rows.specs.Refusals.{refusal_text}
use Rattle.auction_rows.specs.declared.{replies.Reply.Reply, replies.BidShown.BidShown, replies.ItemShown.ItemShown, rows.Entry.Entry}
use Rattle.auction_rows.specs.declared.replies.Reply.TheVariants as reply
use Rattle.byte_texts.specs.Labels.{labelled, labelled_id, labelled_optional}
use Rattle.auction_text.specs.Order.{in_order}

-- what is fixed of an item, but for its name
abbrev pub facts_text : ℕ → ℕ → ℕ → ℕ → List ℕ
facts_text seller category start closes =
    labelled (codes "viewitem seller=") seller ++ labelled (codes " category=") category
    ++ labelled (codes " start=") start ++ labelled (codes " closes=") closes

-- the highest bid on an item, its bidder, how many bids there are, and how many of the item are
-- left
abbrev pub state_text : Option ℕ → Option ℕ → ℕ → ℕ → List ℕ
state_text highest bidder bids left =
    labelled_optional (codes " highest=") highest ++ labelled_optional (codes " bidder=") bidder
    ++ labelled (codes " bids=") bids ++ labelled (codes " left=") left

-- a bid and an item as lists of them show them
abbrev pub bid_text : BidShown → List ℕ
bid_text bid =
    labelled (codes " ") bid.amount ++ labelled (codes ":") bid.time
    ++ labelled (codes ":") bid.bidder ++ labelled_id (codes ":") bid.id.worker bid.id.serial

abbrev pub item_text : ItemShown → List ℕ
item_text item =
    labelled (codes " ") item.time ++ labelled_id (codes ":") item.id.worker item.id.serial

-- a user's rating, and the number of comments
abbrev pub score_text : ℤ → ℕ → List ℕ
score_text rating comments =
    codes " rating=" ++ signed_decimal rating ++ labelled (codes " comments=") comments

abbrev pub reply_text : Reply → List ℕ
reply_text (reply.ItemStored id) = labelled_id (codes "item ") id.worker id.serial
reply_text (reply.BidStored id) = labelled_id (codes "bid ") id.worker id.serial
reply_text (reply.CommentStored id) = labelled_id (codes "comment ") id.worker id.serial
reply_text (reply.Bought id) = labelled_id (codes "buynow ") id.worker id.serial
reply_text (reply.ItemSeen seller category name start closes highest bidder bids left) =
    facts_text seller category start closes ++ state_text highest bidder bids left
    ++ codes " name=" ++ name
reply_text (reply.BidsSeen bids) = codes "bids" ++ flat_map bid_text bids
reply_text (reply.CategorySeen items) = codes "latest" ++ flat_map item_text items
reply_text (reply.UserSeen rating comments) = codes "user" ++ score_text rating comments
reply_text (reply.Refused why) = refusal_text why

-- the line of an entry among the replies
abbrev pub reply_line : Entry → List ℕ
reply_line entry =
    decimal entry.worker ++ labelled (codes ",") entry.index
    ++ codes "," ++ reply_text entry.reply ++ codes "\n"

-- where an entry stands in a history: its phase and number, its worker and the index of its request
abbrev pub place_text : Entry → List ℕ
place_text entry =
    decimal entry.phase ++ labelled (codes " ") entry.number
    ++ labelled (codes " ") entry.worker ++ labelled (codes " ") entry.index

-- the line of an entry in a history
abbrev pub history_line : Entry → List ℕ
history_line entry = place_text entry ++ codes " " ++ reply_text entry.reply ++ codes "\n"

-- a line for each
abbrev pub lines : {X : Type 0} → (X → List ℕ) → List X → List ℕ
lines line xs = flat_map line xs

-- the replies of entries: a line for each, by worker, then index, then place
abbrev pub replies_text : List Entry → List ℕ
replies_text entries = lines reply_line (in_order entries)

-- a history: a line for each entry, as they stand
abbrev pub history_text : List Entry → List ℕ
history_text entries = lines history_line entries
