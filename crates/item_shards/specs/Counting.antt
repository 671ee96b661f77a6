-- How many stores of each kind a worker has.
use Rattle.std.specs.Prelude.{ℕ, ◌+◌, ◌<◌}
use Rattle.auction_rows.specs.Book.{Book, items_stored, bids_stored, comments_stored, buys_stored}
use Rattle.auction_rows.specs.declared.{limits.TheConstants.{MOST_ROWS}, rows.Row.{Row}}
use Rattle.auction_rows.specs.declared.rows.Row.TheVariants as row
pub use Rattle.auction_rows.specs.Book.{worker_of}
use Rattle.item_shards.specs.declared.serial.StoreCounts.{StoreCounts}

-- how many stores of each kind of a worker stand in a book
abbrev pub stored_by : Book → ℕ → StoreCounts
stored_by book worker = record {
  items = items_stored book worker;
  bids = bids_stored book worker;
  comments = comments_stored book worker;
  buys = buys_stored book worker;
}

-- counts with one more store of the row's kind
abbrev pub counted : Row → StoreCounts → StoreCounts
counted (row.Item r) counts = record counts { items = counts.items + 1 }
counted (row.Bid r) counts = record counts { bids = counts.bids + 1 }
counted (row.Comment r) counts = record counts { comments = counts.comments + 1 }
counted (row.Buy r) counts = record counts { buys = counts.buys + 1 }

-- counts so small that one more fits
abbrev pub AreFew : StoreCounts → Type 0
AreFew counts =
    (counts.items < MOST_ROWS) × (counts.bids < MOST_ROWS)
    × (counts.comments < MOST_ROWS) × (counts.buys < MOST_ROWS)
