use Rattle.std.proofs.Common.{◌≡◌, max, refl, ap, ◌∙◌, arith}
use Rattle.item_shards.specs.ShardContents.{clock}
use Rattle.phase_transactions.proofs.NumberLemmas.{some_number, some_within, none_full}
use Rattle.phase_transactions.proofs.taken.number_on.Goals as goal

pub returns-in-Nothing : goal.returns-in-Nothing
returns-in-Nothing g c =
    let own = c.args.own in
    let next = c.next_number in record {
      number = rw c.in-Nothing.is (some_number own 0 (max own 0) refl next.result next.ensures.number);
      within = some_within own 0 next.result next.ensures.number next.ensures.none;
      full = rw c.in-Nothing.is (none_full own 0 (max own 0) refl next.result next.ensures.none);
    }

pub returns-in-One : goal.returns-in-One
returns-in-One g c =
    let next = c.number_with.ensures in record {
      number = rw c.in-One.is next.number;
      within = next.within;
      full = rw c.in-One.is next.full;
    }

pub returns-in-Two : goal.returns-in-Two
returns-in-Two g c =
    let own = c.args.own in let found = c.clock-in-Two.result in
    let next = c.next_number-in-Two in
    let most = max own (max (clock c.in-Two.item.shard) (max (clock c.in-Two.other.shard) 0)) in
    let other : c.clock.result ≡ clock c.in-Two.other.shard = c.clock.ensures ∙ ap clock c.shard.ensures in
    let item : found ≡ clock c.in-Two.item.shard = c.clock-in-Two.ensures ∙ ap clock c.shard-in-Two.ensures in
    let greatest : max c.max.result found ≡ most = omega (arith, c.max.ensures, other, item) in
    record {
      number = rw c.in-Two.is (some_number c.max.result found most greatest next.result next.ensures.number);
      within = some_within c.max.result found next.result next.ensures.number next.ensures.none;
      full = rw c.in-Two.is (none_full c.max.result found most greatest next.result next.ensures.none);
    }
