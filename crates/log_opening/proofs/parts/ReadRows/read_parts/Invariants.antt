use Rattle.std.proofs.Common.{◌≡◌, ◌≤◌, ◌*◌, take, length}
use Rattle.phase_floor.specs.Adding.{IsSameAuction}
use Rattle.log_opening.specs.{Parts.{HasNoEnd}, inner.Reading.{IsReadTo}}
use Rattle.log_opening.proofs.parts.ReadRows.read_parts.Given as goal

abbrev pub invariant-loop : goal.invariant-loop
invariant-loop g l = record {
  len : length l.buffer ≡ 65536;
  filled : l.filled ≤ 189;
  few : l.self.kept ≤ 65536 * l.counter;
  same : IsSameAuction l.fn.self.auction l.self.auction;
  no_end : HasNoEnd (take l.filled l.buffer);
  read : IsReadTo (g.R.Read.remaining l.fn.reader) (g.R.Read.remaining l.reader) (g.W.Write.contents l.fn.told) (g.W.Write.contents l.told) l.self (take l.filled l.buffer);
}
