use Rattle.std.proofs.Common.{◌+◌, ◌<◌, ◌^◌, refl, subst, ◌∙◌}
use Rattle.auction_rows.specs.declared.requests.Object.TheVariants.{Item}
use Rattle.item_shards.proofs.Changes.{is_same, unchanged}
use Rattle.item_shards.proofs.Stored.{contents_here, place_filled, value_lent, contents_left, rooms_left}
use Rattle.item_shards.specs.{Contents.{bid_on}, Values.{Value}}
use Rattle.item_shards.proofs.shard.Shard.try_bid.Goals as goal

pub bid-requires : goal.bid-requires
bid-requires c =
    subst (λ (v : Value). v.bids.bids + 1 < 2 ^ 64)
    (contents_here c.args.self.now (Item c.args.item) c.requires.here
    ∙ value_lent c.deref_mut.ensures.value c.args.item c.in-Some.place c.in-Some.ensures.place c.in-Some-get_index_mut.found.now c.get_index_mut.ensures.unique c.in-Some-get_index_mut.ensures.value)
    c.requires.count

pub returns-in_default-clause-after : goal.returns-in_default-clause-after
returns-in_default-clause-after c = unchanged c.args.self.now

pub returns-in-Some-bid_refusal_with-clause-after : goal.returns-in-Some-bid_refusal_with-clause-after
returns-in-Some-bid_refusal_with-clause-after c = unchanged c.args.self.now

pub returns-in-Some-get_index_mut-clause-after : goal.returns-in-Some-get_index_mut-clause-after
returns-in-Some-get_index_mut-clause-after c = record {
  contents = contents_left c.deref_mut.ensures.value c.args.item c.in-Some.place c.in-Some.ensures.place c.in-Some-get_index_mut.found.now c.get_index_mut.ensures.unique c.in-Some-get_index_mut.ensures.value c.bid.new.self (bid_on c.args.bid) c.requires.here c.bid.ensures;
  clock = refl;
  rooms = rooms_left c.deref_mut.ensures.value c.args.item c.in-Some.place c.in-Some.ensures.place c.in-Some-get_index_mut.found.now c.get_index_mut.ensures.unique c.in-Some-get_index_mut.ensures.value c.bid.new.self;
  same = is_same c.args.self.now _ _ c.deref_mut.ensures.value refl refl refl;
}

pub returns-in_default-get_index_mut-clause-after : goal.returns-in_default-get_index_mut-clause-after
returns-in_default-get_index_mut-clause-after c = absurd (place_filled c.deref_mut.ensures.value c.args.item c.in-Some.place c.in-Some.ensures.place c.in_default-get_index_mut.ensures.value)
