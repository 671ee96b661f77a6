use Rattle.auction_rows.proofs.RequestLemmas.{same_items, same_objects}
use Rattle.auction_rows.proofs.laws.equalities.Goals as goal

pub returns-clause-items_same : goal.returns-clause-items_same
returns-clause-items_same c = same_items

pub returns-clause-objects_same : goal.returns-clause-objects_same
returns-clause-objects_same c = same_objects
