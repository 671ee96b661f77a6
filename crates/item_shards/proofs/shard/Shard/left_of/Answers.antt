use Rattle.std.proofs.Common.{ap, ◌∙◌, rules}
use Rattle.auction_rows.specs.declared.requests.Object.TheVariants.{Item}
use Rattle.item_shards.{proofs.AnswerLemmas.{left_is}, specs.Values.{quantity_left}}
use Rattle.item_shards.proofs.shard.Shard.left_of.Goals as goal

pub returns-in-Some-clause-contents : goal.returns-in-Some-clause-contents
returns-in-Some-clause-contents c = search rules

pub returns-in-Some-clause-book : goal.returns-in-Some-clause-book
returns-in-Some-clause-book c book hot stands cold =
    returns-in-Some-clause-contents c ∙ ap quantity_left (stands (Item c.args.item) c.requires.here cold) ∙ left_is book c.args.item
