-- That a book is within limits has one proof at most: a ghost field may hold it.
use Rattle.std.proofs.Props.{props}
use Rattle.auction_rows.specs.Book.{Book}
use Rattle.item_shards.specs.Limits.{IsWithinLimits}

pub IsWithinLimits-prop : (book : Book) → IsProp (IsWithinLimits book)
IsWithinLimits-prop book = hlevel props
