-- How far acts can raise counts and ratings.
use Rattle.std.specs.{Int.{w64}, Prelude.{◌+◌, ◌<◌, ◌^◌, ◌+ℤ◌, FitsSigned, ⊤}}
use Rattle.auction_rows.specs.declared.requests.Object.TheVariants.{Item, User}
use Rattle.item_shards.specs.Contents.{Contents}
use Rattle.item_shards.specs.Events.{Event, AddItem, ListItem, Bid, Comment, Buy, Look}

-- the sums that an act makes fit their types
abbrev pub SumsFit : Contents → Event → Type 0
SumsFit contents (AddItem id facts) = ⊤
SumsFit contents (ListItem category entry) = ⊤
SumsFit contents (Bid id entry) = (contents (Item id)).bids.bids + 1 < 2 ^ 64
SumsFit contents (Comment user stars) =
    FitsSigned w64 ((contents (User user)).comments.rating +ℤ stars.value)
    × ((contents (User user)).comments.comments + 1 < 2 ^ 64)
SumsFit contents (Buy id quantity) = ⊤
SumsFit contents (Look shown) = ⊤
