-- The text of rows, as records that can be read again.
use Rattle.std.specs.{Fmt.{signed_decimal}, List.{flat_map}}
use Rattle.std.specs.Prelude.{ℕ, ◌==◌, if◌then◌else◌, List, [], ◌∷◌, ◌++◌, codes, decimal}
use Rattle.auction_rows.specs.History.{rows_of}
use Rattle.auction_rows.specs.declared.rows.Row.TheVariants.{Item, Bid, Comment, Buy}
use Rattle.auction_rows.specs.declared.{requests.Facts.Facts, rows.ItemRow.ItemRow, rows.BidRow.BidRow, rows.CommentRow.CommentRow, rows.BuyRow.BuyRow, rows.Row.Row, rows.Entry.Entry}
use Rattle.record_reading.specs.Lines.{quote}
use Rattle.byte_texts.specs.Labels.{labelled, labelled_id}
use Rattle.auction_text.specs.Replies.{lines}

-- a byte between quotes: a quote is doubled
abbrev pub byte_in_quotes : ℕ → List ℕ
byte_in_quotes byte = if byte == quote then quote ∷ quote ∷ [] else byte ∷ []

-- bytes in quotes
abbrev pub quoted : List ℕ → List ℕ
quoted bytes = quote ∷ flat_map byte_in_quotes bytes ++ quote ∷ []

-- an item's seller, category and name
abbrev pub offer_text : Facts → List ℕ
offer_text facts =
    labelled (codes ",+item,") facts.seller ++ labelled (codes ",") facts.category
    ++ codes "," ++ quoted facts.name

-- the start price and the closing time of an item, when it was stored, and how many were put up
abbrev pub terms_text : ItemRow → List ℕ
terms_text row =
    labelled (codes ",") row.facts.start ++ labelled (codes ",") row.facts.closes
    ++ labelled (codes ",") row.time ++ labelled (codes ",") row.facts.quantity

-- the rows of each kind, all fields but the line's end
abbrev pub item_row_text : ItemRow → List ℕ
item_row_text row = decimal row.id.worker ++ offer_text row.facts ++ terms_text row

abbrev pub bid_row_text : BidRow → List ℕ
bid_row_text row =
    decimal row.id.worker ++ labelled (codes ",+bid,") row.bidder
    ++ labelled_id (codes ",") row.item.worker row.item.serial
    ++ labelled (codes ",") row.amount ++ labelled (codes ",") row.time

abbrev pub comment_row_text : CommentRow → List ℕ
comment_row_text row =
    decimal row.id.worker ++ labelled (codes ",+comment,") row.author
    ++ labelled (codes ",") row.about
    ++ labelled_id (codes ",") row.item.worker row.item.serial
    ++ codes "," ++ signed_decimal row.stars.value

abbrev pub buy_row_text : BuyRow → List ℕ
buy_row_text row =
    decimal row.id.worker ++ labelled (codes ",+buynow,") row.buyer
    ++ labelled_id (codes ",") row.item.worker row.item.serial
    ++ labelled (codes ",") row.quantity ++ labelled (codes ",") row.time

abbrev pub row_text : Row → List ℕ
row_text (Item row) = item_row_text row
row_text (Bid row) = bid_row_text row
row_text (Comment row) = comment_row_text row
row_text (Buy row) = buy_row_text row

-- the line of a row
abbrev pub row_line : Row → List ℕ
row_line row = row_text row ++ codes "\n"

-- rows, and then those of the accepted stores among entries: a line for each, as they stand
abbrev pub rows_text : List Row → List Entry → List ℕ
rows_text rows entries = lines row_line (rows ++ rows_of entries)
