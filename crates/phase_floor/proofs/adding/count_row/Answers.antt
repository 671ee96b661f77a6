use Rattle.std.proofs.Common.{sym, ap}
use Rattle.auction_rows.specs.declared.rows.Row.{Row}
use Rattle.phase_floor.specs.Resuming.{with_row}
use Rattle.phase_floor.proofs.adding.count_row.Goals as goal

pub returns-in-Item : goal.returns-in-Item
returns-in-Item c = ap (λ (row : Row). with_row row c.args.counters.now) (sym c.in-Item.is)

pub returns-in-Bid : goal.returns-in-Bid
returns-in-Bid c = ap (λ (row : Row). with_row row c.args.counters.now) (sym c.in-Bid.is)

pub returns-in-Comment : goal.returns-in-Comment
returns-in-Comment c = ap (λ (row : Row). with_row row c.args.counters.now) (sym c.in-Comment.is)

pub returns-in-Buy : goal.returns-in-Buy
returns-in-Buy c = ap (λ (row : Row). with_row row c.args.counters.now) (sym c.in-Buy.is)
