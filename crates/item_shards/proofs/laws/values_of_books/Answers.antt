use Rattle.item_shards.proofs.{RowLemmas.{value_next}, StandingLemmas.{blank_of_none}}
use Rattle.item_shards.proofs.laws.values_of_books.Goals as goal

pub returns : goal.returns
returns c = record { none = blank_of_none; one_more = value_next }
