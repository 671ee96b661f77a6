-- What one record says: a worker's request, or a row, or the first fault.
use Rattle.std.specs.Option.{unwrap_or, ok_or}
use Rattle.std.specs.Prelude.{ℕ, Bool, ◌&&◌, ◌==◌, List, [], length, nat_lt, Option, Some, None, Result, Ok, Err, if◌then◌else◌}
use Rattle.std.specs.Result.{result_map_both}
use Rattle.csv.specs.Records.{field_at}
use Rattle.auction_rows.specs.declared.{values.Stars.Stars, requests.ItemId.ItemId, requests.Request.Request}
use Rattle.auction_rows.specs.declared.requests.Request.TheVariants as request
use Rattle.record_reading.specs.Fields.{number, item_id, name, quantity, stars}
use Rattle.record_reading.specs.{Kinds.{kind_of, has_count}, declared.fields.Kind.{Kind}}
use Rattle.record_reading.specs.declared.{fields.RequestKind.{RequestKind}, inputs.Cause.{Cause}}
use Rattle.record_reading.specs.declared.{inputs.ReadFault.{ReadFault}, record.Record.{Record}}
use Rattle.record_reading.specs.declared.inputs.Cause.TheVariants as cause
use Rattle.record_reading.specs.declared.inputs.ReadFault.TheVariants as fault
use Rattle.record_reading.specs.declared.fields.RequestKind.TheVariants as kind

-- the field at a place, empty past the last
abbrev pub field : List (List ℕ) → ℕ → List ℕ
field fields place = unwrap_or (field_at fields place) []

-- what the field at a place says, or what is wrong with it
abbrev pub number_at : ℕ → List (List ℕ) → ℕ → Result ℕ Cause
number_at bits fields place = ok_or (number bits (field fields place)) cause.Number

abbrev pub item_at : List (List ℕ) → ℕ → Result ItemId Cause
item_at fields place = ok_or (item_id (field fields place)) cause.Item

abbrev pub name_at : List (List ℕ) → ℕ → Result (List ℕ) Cause
name_at fields place = ok_or (name (field fields place)) cause.Name

abbrev pub quantity_at : List (List ℕ) → ℕ → Result ℕ Cause
quantity_at fields place = ok_or (quantity (field fields place)) cause.Quantity

abbrev pub stars_at : List (List ℕ) → ℕ → Result Stars Cause
stars_at fields place = ok_or (stars (field fields place)) cause.Stars

-- how many of an item are put up: what the ninth field says, or one
abbrev pub put_up : List (List ℕ) → Result ℕ Cause
put_up fields = if length fields == 9 then quantity_at fields 8 else Ok 1

-- a check, and then the next with what the first gave
abbrev pub and_then : {A B E : Type 0} → Result A E → (A → Result B E) → Result B E
and_then (Ok x) next = next x
and_then (Err e) next = Err e

-- the request that these fields of its kind state, or what is wrong with them
abbrev pub request_of : RequestKind → List (List ℕ) → Result Request Cause
request_of kind.Item fields =
    and_then (number_at 32 fields 2) (λ seller.
    and_then (number_at 32 fields 3) (λ category.
    and_then (name_at fields 4) (λ name.
    and_then (number_at 64 fields 5) (λ start.
    and_then (number_at 64 fields 6) (λ closes.
    and_then (number_at 64 fields 7) (λ time.
    and_then (put_up fields) (λ quantity.
    Ok (request.StoreItem (record {
      seller = seller;
      category = category;
      name = name;
      start = start;
      closes = closes;
      quantity = quantity;
    }) time))))))))
request_of kind.Bid fields =
    and_then (number_at 32 fields 2) (λ bidder.
    and_then (item_at fields 3) (λ item.
    and_then (number_at 64 fields 4) (λ amount.
    and_then (number_at 64 fields 5) (λ time.
    Ok (request.StoreBid bidder item amount time)))))
request_of kind.Comment fields =
    and_then (number_at 32 fields 2) (λ author.
    and_then (number_at 32 fields 3) (λ about.
    and_then (item_at fields 4) (λ item.
    and_then (stars_at fields 5) (λ stars.
    Ok (request.StoreComment author about item stars)))))
request_of kind.BuyNow fields =
    and_then (number_at 32 fields 2) (λ buyer.
    and_then (item_at fields 3) (λ item.
    and_then (quantity_at fields 4) (λ quantity.
    and_then (number_at 64 fields 5) (λ time.
    Ok (request.BuyNow buyer item quantity time)))))
request_of kind.ViewItem fields =
    and_then (item_at fields 2) (λ item.
    Ok (request.ViewItem item))
request_of kind.ViewBids fields =
    and_then (item_at fields 2) (λ item.
    Ok (request.ViewBids item))
request_of kind.ViewCategory fields =
    and_then (number_at 32 fields 2) (λ category.
    Ok (request.ViewCategory category))
request_of kind.ViewUser fields =
    and_then (number_at 32 fields 2) (λ user.
    Ok (request.ViewUser user))

-- the kind of a record, or why it has none
abbrev pub kind_in : List (List ℕ) → Result Kind Cause
kind_in fields =
    if nat_lt (length fields) 2 then Err cause.Fields
    else ok_or (kind_of (field fields 1)) cause.Kind

-- what a record of worker w says, or what is wrong with it; `begun` tells whether a request stands
-- before it
abbrev pub checked : Bool → ℕ → List (List ℕ) → Result Record Cause
checked begun w fields =
    and_then (kind_in fields) (λ kind.
    if kind.is_row && begun then Err cause.Late
    else if has_count kind.request (length fields)
    then and_then (request_of kind.request fields) (λ request.
    Ok (record { is_row = kind.is_row; worker = w; request = request }))
    else Err cause.Fields)

-- what the record with this number says, or its first fault
abbrev pub read_record : ℕ → ℕ → Bool → List (List ℕ) → Result Record ReadFault
read_record workers place begun fields =
    and_then (ok_or (number 32 (field fields 0)) (fault.Line place cause.Number)) (λ worker.
    if nat_lt worker workers
    then result_map_both (λ said. said) (λ cause. fault.Line place cause)
    (checked begun worker fields)
    else Err (fault.Worker place))

-- a worker that is one of so many
abbrev pub below : ℕ → Option ℕ → Option ℕ
below workers None = None
below workers (Some worker) = if nat_lt worker workers then Some worker else None

-- the worker that the first field of a record names, if it is one of so many
abbrev pub worker_of : ℕ → List (List ℕ) → Option ℕ
worker_of workers fields = below workers (number 32 (field fields 0))
