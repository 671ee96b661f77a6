use Rattle.std.proofs.Common.{◌≡◌, max, ap, ◌∙◌, arith}
use Rattle.item_shards.specs.ShardContents.{clock}
use Rattle.phase_transactions.proofs.NumberLemmas.{some_number, some_within, none_full}
use Rattle.phase_transactions.proofs.taken.number_with.Goals as goal

pub returns : goal.returns
returns g c =
    let own = c.args.own in let found = c.clock.result in let next = c.next_number in
    let most = max own (max (clock c.args.held.now.shard) 0) in
    let one : found ≡ clock c.args.held.now.shard = c.clock.ensures ∙ ap clock c.shard.ensures in
    let greatest : max own found ≡ most = omega (arith, one) in record {
      number = some_number own found most greatest next.result next.ensures.number;
      within = some_within own found next.result next.ensures.number next.ensures.none;
      full = none_full own found most greatest next.result next.ensures.none;
    }
