use Rattle.std.proofs.Common.{ap, sym}
use Rattle.auction_rows.specs.Requests.{touches}
use Rattle.auction_rows.proofs.rules.touches.Goals as goal

pub returns-in-StoreComment : goal.returns-in-StoreComment
returns-in-StoreComment c = ap touches (sym c.in-StoreComment.is)
