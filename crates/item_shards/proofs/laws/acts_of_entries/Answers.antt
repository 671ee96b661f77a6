use Rattle.item_shards.proofs.{EntryLemmas.{entry_stands, untaken_stands}, LookLemmas.{entry_true}}
use Rattle.item_shards.proofs.laws.acts_of_entries.Goals as goal

pub returns-clause-stands : goal.returns-clause-stands
returns-clause-stands c opening number shards contents book hot saw entry stands right = entry_stands number shards hot opening contents book saw entry right stands

pub returns-clause-elsewhere : goal.returns-clause-elsewhere
returns-clause-elsewhere c opening number shards contents book hot entry stands right e = untaken_stands number shards hot opening contents book entry stands right e

pub returns-clause-looks : goal.returns-clause-looks
returns-clause-looks c opening number shards contents book hot entry stands right = entry_true number shards hot contents opening book stands entry right
