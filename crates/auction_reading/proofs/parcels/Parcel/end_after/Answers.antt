use Rattle.std.proofs.Common.{arith}
use Rattle.auction_reading.proofs.parcels.Parcel.end_after.Goals as goal

pub returns-clause-follows : goal.returns-clause-follows
returns-clause-follows c = record {
  begins = omega (arith, c.if-self-at.false);
  ends = c.in-Some.is;
  joins = c.can_join.ensures.0 c.if-not-can_join.false;
}
