use Rattle.std.proofs.Common.{◌+◌, ◌*◌, length}
use Rattle.auction_reading.proofs.parcel_joins.+joining.Given as goal

abbrev pub decreases-join_from : goal.decreases-join_from
decreases-join_from g l = 2 * length l.scripts.now

abbrev pub decreases-others : goal.decreases-others
decreases-others g l = 2 * length l.rest.now + 1
