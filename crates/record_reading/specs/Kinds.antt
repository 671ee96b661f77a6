-- The kinds of records.
use Rattle.std.specs.Option.{option_map, option_or}
use Rattle.std.specs.Prelude.{ℕ, ◌==◌, List, [], ◌∷◌, Bool, true, false, ◌||◌, codes, Option, Some, None, if◌then◌else◌}
use Rattle.std.specs.Str.{bytes_eq}
use Rattle.record_reading.specs.declared.fields.{Kind.{Kind}, RequestKind.{RequestKind}}
use Rattle.record_reading.specs.declared.fields.RequestKind.TheVariants as kind

-- a request of a kind, and a row that such a request would add
abbrev pub request : RequestKind → Kind
request k = record { is_row = false; request = k }

abbrev pub row : RequestKind → Kind
row k = record { is_row = true; request = k }

-- the kind of store that a word names
abbrev pub store_of : List ℕ → Option RequestKind
store_of word =
    if bytes_eq word (codes "item") then Some kind.Item
    else if bytes_eq word (codes "bid") then Some kind.Bid
    else if bytes_eq word (codes "comment") then Some kind.Comment
    else if bytes_eq word (codes "buynow") then Some kind.BuyNow
    else None

-- the kind of view that a word names
abbrev pub view_of : List ℕ → Option RequestKind
view_of word =
    if bytes_eq word (codes "viewitem") then Some kind.ViewItem
    else if bytes_eq word (codes "viewbids") then Some kind.ViewBids
    else if bytes_eq word (codes "viewcategory") then Some kind.ViewCategory
    else if bytes_eq word (codes "viewuser") then Some kind.ViewUser
    else None

-- the byte in front of a row's word
abbrev pub plus : ℕ
plus = 43

-- the kind that a word names: a row's is a plus and the word of its store
abbrev pub kind_of : List ℕ → Option Kind
kind_of [] = None
kind_of (first ∷ rest) =
    if first == plus then option_map row (store_of rest)
    else option_map request (option_or (store_of (first ∷ rest)) (view_of (first ∷ rest)))

-- whether a record of a request's kind may have so many fields
abbrev pub has_count : RequestKind → ℕ → Bool
has_count kind.Item count = (count == 8) || (count == 9)
has_count kind.Bid count = count == 6
has_count kind.Comment count = count == 6
has_count kind.BuyNow count = count == 6
has_count kind.ViewItem count = count == 3
has_count kind.ViewBids count = count == 3
has_count kind.ViewCategory count = count == 3
has_count kind.ViewUser count = count == 3
