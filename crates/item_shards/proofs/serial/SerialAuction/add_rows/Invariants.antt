use Rattle.std.proofs.Common.{◌≡◌, ◌++◌, take}
use Rattle.auction_rows.specs.Book.{Book}
use Rattle.item_shards.specs.Serial.{HoldsBook, CanFollow, serial_opening}
use Rattle.item_shards.proofs.serial.SerialAuction.add_rows.Given as goal

abbrev pub invariant-loop-row : goal.invariant-loop-row
invariant-loop-row l = record {
  opening_is : serial_opening l.self ≡ serial_opening l.fn.self;
  holds : (book : Book) → HoldsBook l.fn.self book → CanFollow (serial_opening l.fn.self) book l.rows → HoldsBook l.self (book ++ take l.row-index l.rows);
}
