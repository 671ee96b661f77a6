use Rattle.std.proofs.Common.{subst}
use Rattle.auction_rows.specs.declared.requests.Object.TheVariants.{Item, User, Category}
use Rattle.item_shards.specs.ShardContents.{LiesIn, contents, opening}
use Rattle.item_shards.specs.declared.shard.slices.Slice.TheVariants as slice
use Rattle.auction_shards.{proofs.Merges.{room_of, with_merged}, specs.Merging.{CanMergeInto}}
use Rattle.auction_shards.specs.Shards.{IsKnown}
use Rattle.auction_shards.proofs.merging.merge_into.Goals as goal

pub merge_item-requires : goal.merge_item-requires
merge_item-requires c =
    let can = subst (λ pair. CanMergeInto (contents c.args.shard.now pair.0) pair) (λ i. (c.in-Item-Item.is-0 i, c.in-Item-Item.is-1 i)) c.requires.can in
    record {
      here = subst (LiesIn c.args.shard.now) c.in-Item-Item.is-0 c.requires.lies;
      room = room_of c.args.shard.now c.in-Item-Item.item can.0;
      count = can.1;
    }

pub returns-in-Item-Item : goal.returns-in-Item-Item
returns-in-Item-Item c =
    let e = c.merge_item.ensures.merged in
    with_merged c.args.shard.now c.merge_item.new.self c.args.object (Item c.in-Item-Item.item) c.args.slice (slice.Item c.in-Item-Item.slice) c.in-Item-Item.is-0 c.in-Item-Item.is-1 e.same e.clock e.contents

pub merge_user-requires : goal.merge_user-requires
merge_user-requires c =
    let can = subst (λ pair. CanMergeInto (contents c.args.shard.now pair.0) pair) (λ i. (c.in-User-User.is-0 i, c.in-User-User.is-1 i)) c.requires.can in
    record {
      here = subst (LiesIn c.args.shard.now) c.in-User-User.is-0 c.requires.lies;
      known = subst (IsKnown (opening c.args.shard.now)) c.in-User-User.is-0 c.requires.known;
      rating = can.0;
      count = can.1;
    }

pub returns-in-User-User : goal.returns-in-User-User
returns-in-User-User c =
    let e = c.merge_user.ensures.merged in
    with_merged c.args.shard.now c.merge_user.new.self c.args.object (User c.in-User-User.user) c.args.slice (slice.User c.in-User-User.slice) c.in-User-User.is-0 c.in-User-User.is-1 e.same e.clock e.contents

pub merge_category-requires : goal.merge_category-requires
merge_category-requires c =
    record {
      here = subst (LiesIn c.args.shard.now) c.in-Category-Category.is-0 c.requires.lies;
      known = subst (IsKnown (opening c.args.shard.now)) c.in-Category-Category.is-0 c.requires.known;
    }

pub returns-in-Category-Category : goal.returns-in-Category-Category
returns-in-Category-Category c =
    let e = c.merge_category.ensures.merged in
    with_merged c.args.shard.now c.merge_category.new.self c.args.object (Category c.in-Category-Category.category) c.args.slice (slice.Category c.in-Category-Category.slice) c.in-Category-Category.is-0 c.in-Category-Category.is-1 e.same e.clock e.contents
