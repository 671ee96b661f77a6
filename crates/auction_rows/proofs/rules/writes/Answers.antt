use Rattle.std.proofs.Common.{ap, sym}
use Rattle.auction_rows.specs.Requests.{writes}
use Rattle.auction_rows.proofs.rules.writes.Goals as goal

pub returns-in-StoreComment : goal.returns-in-StoreComment
returns-in-StoreComment c = ap writes (sym c.in-StoreComment.is)
