use Rattle.std.proofs.Common.{◌+◌, ◌*◌, length}
use Rattle.auction_reading.proofs.parcels.+reading.Given as goal

abbrev pub decreases-read_from : goal.decreases-read_from
decreases-read_from g l = 2 * length l.parcels.now

abbrev pub decreases-others : goal.decreases-others
decreases-others g l = 2 * length l.rest.now + 1
