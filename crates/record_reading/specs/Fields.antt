-- What one field of a record says.
use Rattle.std.specs.{Char.{is_ascii_digit}, List.{list_all, position}}
use Rattle.std.specs.Prelude.{ℕ, ◌+◌, ◌-◌, pos, negsuc, ◌==◌, ◌^◌, take, drop, length, List, [], ◌∷◌, Bool, true, false, ◌&&◌, nat_lt, nat_le, Option, Some, None, if◌then◌else◌}
use Rattle.std.specs.Str.Parse.{digits_value}
use Rattle.auction_rows.specs.{Stars.{stars_of}, declared.limits.TheConstants.{MOST_QUANTITY}}
use Rattle.auction_rows.specs.declared.{values.Stars.Stars, requests.ItemId.ItemId}

abbrev pub is_empty : List ℕ → Bool
is_empty [] = true
is_empty (first ∷ rest) = false

-- `0`, or a digit from 1 to 9 and then digits
abbrev pub is_numeral : List ℕ → Bool
is_numeral [] = false
is_numeral (first ∷ rest) =
    if first == 48 then is_empty rest else list_all is_ascii_digit (first ∷ rest)

-- the number that a field writes, of a type with so many bits
abbrev pub number : ℕ → List ℕ → Option ℕ
number bits field =
    if is_numeral field && nat_lt (digits_value 10 field) (2 ^ bits)
    then Some (digits_value 10 field) else None

-- so many of an item may be put up, or bought
abbrev pub is_quantity : ℕ → Bool
is_quantity n = nat_le 1 n && nat_le n MOST_QUANTITY

-- the quantity that a field writes
abbrev pub quantity : List ℕ → Option ℕ
quantity field =
    if is_numeral field && is_quantity (digits_value 10 field)
    then Some (digits_value 10 field) else None

-- the stars that a field writes: `0` to `5`, which are the bytes 48 to 53, or a minus, which is 45,
-- and then `1` to `5`
abbrev pub stars : List ℕ → Option Stars
stars [] = None
stars (digit ∷ []) =
    if nat_le 48 digit && nat_le digit 53 then stars_of (pos (digit - 48)) else None
stars (sign ∷ digit ∷ []) =
    if (sign == 45) && nat_le 49 digit && nat_le digit 53
    then stars_of (negsuc (digit - 49)) else None
stars (first ∷ second ∷ third ∷ rest) = None

-- a byte that prints: a space to a tilde
abbrev pub is_printing : ℕ → Bool
is_printing byte = nat_le 0x20 byte && nat_le byte 0x7E

-- 1 to 32 bytes, each printing
abbrev pub is_name : List ℕ → Bool
is_name bytes = nat_le 1 (length bytes) && nat_le (length bytes) 32 && list_all is_printing bytes

-- the name that a field is
abbrev pub name : List ℕ → Option (List ℕ)
name field = if is_name field then Some field else None

abbrev pub is_point : ℕ → Bool
is_point byte = byte == 46

abbrev pub id_of_parts : Option ℕ → Option ℕ → Option ItemId
id_of_parts (Some worker) (Some serial) = Some (record { worker = worker; serial = serial })
id_of_parts (Some worker) None = None
id_of_parts None serial = None

-- the item that the text before a place and the text after it name
abbrev pub item_id_at : List ℕ → Option ℕ → Option ItemId
item_id_at field None = None
item_id_at field (Some point) =
    id_of_parts (number 32 (take point field)) (number 32 (drop (point + 1) field))

-- the item that a field names: a worker, a point and a serial
abbrev pub item_id : List ℕ → Option ItemId
item_id field = item_id_at field (position is_point field)
