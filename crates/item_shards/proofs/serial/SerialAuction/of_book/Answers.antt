use Rattle.std.proofs.Common.{[], subst, sym, arith}
use Rattle.item_shards.specs.Serial.{CanFollow}
use Rattle.item_shards.proofs.serial.SerialAuction.of_book.Goals as goal

pub returns-clause-book : goal.returns-clause-book
returns-clause-book c =
    c.in_ok-add_rows.ensures.book [] c.in_ok-auction.ensures.book
    (subst (λ start. CanFollow start [] c.args.rows.now) (sym c.in_ok-auction.ensures.opening) (record { is_book = c.requires.book; workers = c.requires.workers; few = omega (arith, c.requires.limits.few) }))
