-- The state that an auction is resumed with.
use Rattle.std.specs.Prelude.{ℕ, ◌+◌}
use Rattle.auction_rows.specs.Book.{Book, items_stored, bids_stored, comments_stored, buys_stored}
use Rattle.auction_rows.specs.declared.rows.Row.{Row}
use Rattle.auction_rows.specs.declared.rows.Row.TheVariants as row
use Rattle.item_shards.specs.OpeningRows.{rows_by}
use Rattle.worker_slices.specs.declared.counters.Counters.{Counters}

-- a worker's counters by its rows of a book: each row was a commit
abbrev pub counters_in : Book → ℕ → Counters
counters_in book worker = record {
  items = items_stored book worker;
  bids = bids_stored book worker;
  comments = comments_stored book worker;
  buys = buys_stored book worker;
  commits = rows_by book worker;
}

-- counters with one more row of its kind, which was a commit
abbrev pub with_row : Row → Counters → Counters
with_row (row.Item r) counters =
    record counters { items = counters.items + 1; commits = counters.commits + 1 }
with_row (row.Bid r) counters =
    record counters { bids = counters.bids + 1; commits = counters.commits + 1 }
with_row (row.Comment r) counters =
    record counters { comments = counters.comments + 1; commits = counters.commits + 1 }
with_row (row.Buy r) counters =
    record counters { buys = counters.buys + 1; commits = counters.commits + 1 }
