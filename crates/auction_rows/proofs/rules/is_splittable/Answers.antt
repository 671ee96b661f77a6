use Rattle.std.proofs.Common.{rules}
use Rattle.auction_rows.proofs.rules.is_splittable.Goals as goal

pub returns-in-StoreItem : goal.returns-in-StoreItem
returns-in-StoreItem c = search rules
