-- How large a book may be: then each count and rating fits.
use Rattle.std.specs.Prelude.{◌≤◌, length}
use Rattle.auction_rows.specs.{Book.{Book}, declared.limits.TheConstants.{MOST_ROWS}}

-- a book of no more rows than an auction may have
pub record IsWithinLimits (book : Book) : Type 0 where
  -- the rows are few enough
  pub few : length book ≤ MOST_ROWS
