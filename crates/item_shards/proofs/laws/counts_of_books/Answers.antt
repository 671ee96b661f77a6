use Rattle.item_shards.proofs.CountLemmas.{bids_at_most, comments_at_most, rating_at_most}
use Rattle.item_shards.proofs.laws.counts_of_books.Goals as goal

pub returns : goal.returns
returns c = record { bids = bids_at_most; comments = comments_at_most; ratings = rating_at_most }
