use Rattle.std.proofs.Common.{ap, sym, ◌∙◌}
use Rattle.auction_rows.specs.{ItemViews.{item_told}, declared.requests.Object.TheVariants.{Item}}
use Rattle.item_shards.{proofs.AnswerLemmas.{item_reply}, specs.ShardContents.{opening}}
use Rattle.item_shards.specs.Views.{item_view}
use Rattle.item_shards.proofs.shard.Shard.view_item.Goals as goal

pub returns-in-Some-clause-contents : goal.returns-in-Some-clause-contents
returns-in-Some-clause-contents c = c.to_reply.ensures ∙ ap item_told (sym c.in-Some.is) ∙ c.item_seen.ensures

pub returns-in-Some-clause-book : goal.returns-in-Some-clause-book
returns-in-Some-clause-book c book hot stands cold worker =
    returns-in-Some-clause-contents c ∙ ap item_view (stands (Item c.args.item) c.requires.here cold) ∙ item_reply (opening c.args.self.now) book worker c.args.item

pub returns-in-None-clause-contents : goal.returns-in-None-clause-contents
returns-in-None-clause-contents c = ap item_told (sym c.in-None.is) ∙ c.item_seen.ensures

pub returns-in-None-clause-book : goal.returns-in-None-clause-book
returns-in-None-clause-book c book hot stands cold worker =
    returns-in-None-clause-contents c ∙ ap item_view (stands (Item c.args.item) c.requires.here cold) ∙ item_reply (opening c.args.self.now) book worker c.args.item
