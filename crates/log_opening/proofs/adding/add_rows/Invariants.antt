use Rattle.std.proofs.Common.{take}
use Rattle.auction_rows.specs.Book.{Book}
use Rattle.phase_floor.specs.Adding.{HasBook, IsSameAuction, IsStartOf}
use Rattle.log_opening.specs.Parts.{HasAdded}
use Rattle.log_opening.proofs.adding.add_rows.Given as goal

abbrev pub invariant-loop-place : goal.invariant-loop-place
invariant-loop-place l = record {
  has : HasBook l.auction;
  same : IsSameAuction l.fn.auction l.auction;
  added : (book : Book) → IsStartOf l.fn.auction book → HasAdded l.fn.auction l.auction book (take l.place l.opened) l.rows.items;
}
