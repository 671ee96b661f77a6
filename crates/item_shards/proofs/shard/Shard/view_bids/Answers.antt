use Rattle.std.proofs.Common.{ap, ◌∙◌, rules}
use Rattle.auction_rows.specs.declared.requests.Object.TheVariants.{Item}
use Rattle.item_shards.{proofs.AnswerLemmas.{bids_reply}, specs.ShardContents.{opening}}
use Rattle.item_shards.specs.Views.{bids_view}
use Rattle.item_shards.proofs.shard.Shard.view_bids.Goals as goal

pub returns-in-Some-clause-contents : goal.returns-in-Some-clause-contents
returns-in-Some-clause-contents c = search rules

pub returns-in-Some-clause-book : goal.returns-in-Some-clause-book
returns-in-Some-clause-book c book hot stands cold worker =
    returns-in-Some-clause-contents c ∙ ap bids_view (stands (Item c.args.item) c.requires.here cold) ∙ bids_reply (opening c.args.self.now) book worker c.args.item

pub returns-in_default-clause-contents : goal.returns-in_default-clause-contents
returns-in_default-clause-contents c = search rules

pub returns-in_default-clause-book : goal.returns-in_default-clause-book
returns-in_default-clause-book c book hot stands cold worker =
    returns-in_default-clause-contents c ∙ ap bids_view (stands (Item c.args.item) c.requires.here cold) ∙ bids_reply (opening c.args.self.now) book worker c.args.item
