use Rattle.std.proofs.Common.{◌≡◌, ◌≤◌, take}
use Rattle.item_shards.specs.OpeningRows.{opening_rows, AreRows}
use Rattle.item_shards.specs.Serial.{serial_opening, HoldsBook}
use Rattle.item_shards.proofs.openings.OpeningBook.new.Given as goal

abbrev pub invariant-loop-index : goal.invariant-loop-index
invariant-loop-index l = record {
  opening_is : serial_opening l.auction ≡ l.opening;
  holds : HoldsBook l.auction l.book.items;
  rows_are : l.book.items ≡ opening_rows l.opening (take l.index l.opened-items);
  accepted : AreRows l.opening (take l.index l.opened-items);
  few : l.index ≤ 16000000;
}
