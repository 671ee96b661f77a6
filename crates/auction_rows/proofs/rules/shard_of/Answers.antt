use Rattle.std.proofs.Common.{ap, sym, ◌∙◌, ◌%◌}
use Rattle.auction_rows.proofs.rules.shard_of.Goals.{in-Item, in-User, in-Category}
use Rattle.auction_rows.specs.{Requests.{shard_of}, declared.requests.Object.{Object}}
use Rattle.auction_rows.proofs.rules.shard_of.Goals as goal

pub returns-clause-shard : goal.returns-clause-shard
returns-clause-shard c =
    let shards = c.args.shards in
    elim c.match-object.branch [
      | in-Item w ↦ ap (λ n. n % shards) w.number-is ∙ ap (λ (o : Object). shard_of o shards) (sym w.in-Item.is)
      | in-User w ↦ ap (λ n. n % shards) w.number-is ∙ ap (λ (o : Object). shard_of o shards) (sym w.in-User.is)
      | in-Category w ↦ ap (λ n. n % shards) w.number-is ∙ ap (λ (o : Object). shard_of o shards) (sym w.in-Category.is)
    ]
