use Rattle.std.proofs.Common.{◌≤◌, length, arith}
use Rattle.published_parts.proofs.Prefixes.{comparable_shorter}
use Rattle.auction_window.proofs.auction_copy.AuctionCopy.view.Goals as goal

pub returns-clause-onward : goal.returns-clause-onward
returns-clause-onward g c =
    let known = c.args.known.now in let phases = c.self.inside.phases in
    let no_more : length known ≤ length phases = omega arith in
    rw c.again.ensures (comparable_shorter known phases c.agrees.ensures no_more)
