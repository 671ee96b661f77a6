-- A worker's slices of the objects that are split.
use Rattle.std.specs.List.{AllByRecursion}
use Rattle.std.specs.Prelude.{None, [], ◌∷◌, ◌≡◌, ℕ, ◌≤◌, ◌*◌, unsigned_abs, if◌then◌else◌, List, map, fold, Option, Some, IsSome, IsNone, slice_get, ⊤}
use Rattle.auction_rows.specs.{Book.{Book}, Requests.{same_object}}
use Rattle.auction_rows.specs.declared.requests.Object.TheVariants.{Item, User, Category}
use Rattle.auction_rows.specs.declared.{values.Stars.Stars, requests.Facts.Facts, requests.BidEntry.BidEntry, requests.ItemEntry.ItemEntry, requests.Object.Object}
use Rattle.item_shards.specs.Events.{Event, ListItem, Bid, Comment}
use Rattle.item_shards.specs.{Slices.{with_bid, with_comment, with_item}, Values.{Value, value}}
use Rattle.item_shards.specs.declared.shard.slices.Slice.{Slice}
use Rattle.item_shards.specs.declared.shard.slices.Slice.TheVariants as slice
use Rattle.worker_slices.specs.declared.slices.Hot.{Hot}

-- the hot objects, in the order handed in
abbrev pub hot_objects : {A : Type 0} → List (Object × A) → List Object
hot_objects hots = map (λ hot. hot.0) hots

-- this object stands at this place
abbrev pub IsAt : List (Object × Hot) → ℕ → Object → Type 0
IsAt hots place object = slice_get (hot_objects hots) place ≡ Some object

-- what is fixed of a hot object: of an item its facts and the number left, of users and categories
-- nothing
abbrev pub IsStocked : Object × Option (Facts × ℕ) → Type 0
IsStocked (Item id, stock) = IsSome stock
IsStocked (User user, stock) = IsNone stock
IsStocked (Category category, stock) = IsNone stock

-- what is fixed of each hot object
abbrev pub stocks_of : List (Object × Hot) → List (Object × Option (Facts × ℕ))
stocks_of hots = map (λ hot. (hot.0, hot.1.stock)) hots

-- the slice of each hot object
abbrev pub slices_in : List (Object × Hot) → List (Object × Slice)
slices_in hots = map (λ hot. (hot.0, hot.1.slice)) hots

-- the slice that has an object's value
abbrev pub slice_of : Object → Value → Slice
slice_of (Item id) value = slice.Item value.bids
slice_of (User user) value = slice.User value.comments
slice_of (Category category) value = slice.Category value.items

-- the slices that rows make: each has the value that the rows give its object, whatever their order
abbrev pub slices_of : List (Object × Option (Facts × ℕ)) → Book → List (Object × Hot)
slices_of stocks rows =
    map
    (λ stock.
    (stock.0, record { stock = stock.1; slice = slice_of stock.0 (value rows stock.0) }))
    stocks

-- a slice of its kind with one operation more
abbrev pub slice_with_bid : BidEntry → Slice → Slice
slice_with_bid bid (slice.Item s) = slice.Item (with_bid s bid)
slice_with_bid bid (slice.User s) = slice.User s
slice_with_bid bid (slice.Category s) = slice.Category s

abbrev pub slice_with_comment : Stars → Slice → Slice
slice_with_comment stars (slice.Item s) = slice.Item s
slice_with_comment stars (slice.User s) = slice.User (with_comment s stars)
slice_with_comment stars (slice.Category s) = slice.Category s

abbrev pub slice_with_item : ItemEntry → Slice → Slice
slice_with_item item (slice.Item s) = slice.Item s
slice_with_item item (slice.User s) = slice.User s
slice_with_item item (slice.Category s) = slice.Category (with_item s item)

-- the slices with that of one object changed
abbrev pub with_slice_changed : Object → (Slice → Slice) → List (Object × Hot) → List (Object × Hot)
with_slice_changed object change hots =
    map
    (λ hot.
    let after = record hot.1 { slice = change hot.1.slice } in
    (hot.0, if same_object object hot.0 then after else hot.1))
    hots

-- the slices after an act: the splittable ones are applied to the slice of their object, if it is
-- hot
abbrev pub slices_after_act : List (Object × Hot) → Event → List (Object × Hot)
slices_after_act hots (ListItem category item) =
    with_slice_changed (Category category) (slice_with_item item) hots
slices_after_act hots (Bid id bid) = with_slice_changed (Item id) (slice_with_bid bid) hots
slices_after_act hots (Comment user stars) =
    with_slice_changed (User user) (slice_with_comment stars) hots
slices_after_act hots act = hots

abbrev pub slices_after_acts : List (Object × Hot) → List Event → List (Object × Hot)
slices_after_acts hots acts = fold slices_after_act hots acts

-- a slice of at most so many operations
abbrev pub HasAtMost : ℕ → Slice → Type 0
HasAtMost most (slice.Item s) = s.bids ≤ most
HasAtMost most (slice.User s) = (s.comments ≤ most) × (unsigned_abs s.rating ≤ 5 * most)
HasAtMost most (slice.Category s) = ⊤

-- each slice has at most so many operations
abbrev pub HaveAtMost : ℕ → List (Object × Hot) → Type 0
HaveAtMost most hots = AllByRecursion (λ hot. HasAtMost most hot.1.slice) hots

-- what is fixed of an object
abbrev pub stock_of : List (Object × Option (Facts × ℕ)) → Object → Option (Facts × ℕ)
stock_of [] object = None
stock_of (stock ∷ stocks) object =
    if same_object stock.0 object then stock.1 else stock_of stocks object
