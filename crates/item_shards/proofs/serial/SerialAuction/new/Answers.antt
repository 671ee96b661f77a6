use Rattle.std.proofs.Common.{[], arith}
use Rattle.item_shards.proofs.SerialLemmas.{none_stored}
use Rattle.item_shards.proofs.serial.SerialAuction.new.Goals as goal

pub returns-clause-book : goal.returns-clause-book
returns-clause-book c = record {
  records = c.in_ok-new.ensures.stands [];
  counts = none_stored;
  limits = record { few = omega arith };
}
