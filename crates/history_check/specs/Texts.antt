-- The lines of a text.
use Rattle.std.specs.Prelude.{ℕ, ◌==◌, List, [], ◌∷◌, ⊤, map, if◌then◌else◌}
use Rattle.auction_rows.specs.Name.{IsName}
use Rattle.auction_rows.specs.declared.replies.Reply.TheVariants.{ItemStored, BidStored, CommentStored, Bought, ItemSeen, BidsSeen, CategorySeen, UserSeen, Refused}
use Rattle.auction_rows.specs.declared.{replies.Reply.Reply, rows.Entry.Entry}
use Rattle.auction_text.specs.Replies.{history_line}

-- a byte before the first of some lines
abbrev pub with_byte : ℕ → List (List ℕ) → List (List ℕ)
with_byte byte [] = (byte ∷ []) ∷ []
with_byte byte (line ∷ lines) = (byte ∷ line) ∷ lines

-- the lines of a text: each ends with a line feed, but for the last, which may have none
abbrev pub lines_of : List ℕ → List (List ℕ)
lines_of [] = []
lines_of (byte ∷ rest) =
    if byte == 10 then (byte ∷ []) ∷ lines_of rest else with_byte byte (lines_of rest)

-- the lines of a history
abbrev pub history_lines : List Entry → List (List ℕ)
history_lines history = map history_line history

-- the name that a reply shows is a name
abbrev pub ShowsName : Reply → Type 0
ShowsName (ItemStored id) = ⊤
ShowsName (BidStored id) = ⊤
ShowsName (CommentStored id) = ⊤
ShowsName (Bought id) = ⊤
ShowsName (ItemSeen seller category name start closes highest bidder bids left) = IsName name
ShowsName (BidsSeen bids) = ⊤
ShowsName (CategorySeen items) = ⊤
ShowsName (UserSeen rating comments) = ⊤
ShowsName (Refused why) = ⊤
