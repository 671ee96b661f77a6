use Rattle.std.proofs.Common.{ℕ, ◌≡◌, ◌<◌, length, refl, sym, ap, subst, ◌∙◌}
use Rattle.item_shards.proofs.CommitLemmas.{same_on}
use Rattle.item_shards.specs.{Contents.{after_acts}, Looking.{events_of}}
use Rattle.item_shards.specs.ShardContents.{IsSameShard, clock, contents}
use Rattle.item_shards.specs.declared.shard.Shard.{Shard}
use Rattle.shard_boxes.proofs.PutLemmas.{acted_may, acted_put, bid_done}
use Rattle.shard_boxes.specs.{Helds.{CanBid}, Keys.{holds_at}, inner.Grants.{IsBoxAt}}
use Rattle.shard_boxes.specs.Lines.{bid_acts, bid_refusal_on}
use Rattle.shard_boxes.proofs.key.Key.put_bid.Goals as goal

pub try_bid-refused-requires : goal.try_bid-refused-requires
try_bid-refused-requires g c =
    let can = subst (λ (s : Shard). CanBid s c.args.bid) (sym c.open-number.ensures.shard) c.requires.can in
    record { here = can.here; count = can.count }

pub set_clock-requires : goal.set_clock-requires
set_clock-requires g c = record {
  later = subst (λ n. n < c.args.at.number) (sym c.try_bid-refused.ensures.after.clock)
      (subst (λ (s : Shard). clock s < c.args.at.number) (sym c.open-number.ensures.shard) c.requires.held.later);
  within = c.requires.held.within;
}

pub put-requires : goal.put-requires
put-requires g c =
    let bid = c.args.bid in let new = c.set_clock.new.self in let old = c.open-number.result.1 in
    let tried = c.try_bid-refused.ensures in let clocked = c.set_clock.ensures in
    let is = c.open-number.ensures.number in let opened = c.open-number.ensures.shard in
    let acts = bid_acts bid.item bid.entry (bid_refusal_on c.args.held.shard bid) in
    let why = tried.by ∙ ap (λ (s : Shard). bid_refusal_on s bid) opened in
    let done : contents new ≡ after_acts (contents old) (events_of (contents old) acts) =
    clocked.contents ∙ tried.after.contents ∙ bid_done (contents old) bid.item bid.entry c.try_bid-refused.result ∙ (λ i. after_acts (contents old) (events_of (contents old) (bid_acts bid.item bid.entry (why i)))) in
    record {
      known = subst (λ (n : ℕ). n < length g.N.PhaseName.initial) (sym is) c.open-number.ensures.known;
      place = subst (λ (n : ℕ). IsBoxAt c.args.self.now.boxes n c.args.shard_box.now) (sym is) c.requires.place;
      holds = ap (holds_at c.args.self.now) is ∙ c.requires.held.holder;
      may = acted_may c.requires.held c.args.at.index acts refl new (subst (λ (s : Shard). IsSameShard s new) opened (same_on tried.after.same clocked.same))
          (subst (λ (s : Shard). contents new ≡ after_acts (contents s) (events_of (contents s) acts)) opened done) clocked.clock c.open-number.result.0 is g.L.LineName.line c.requires.named;
    }

pub returns-clause-by : goal.returns-clause-by
returns-clause-by g c = c.try_bid-refused.ensures.by ∙ ap (λ (s : Shard). bid_refusal_on s c.args.bid) c.open-number.ensures.shard

pub returns-clause-put : goal.returns-clause-put
returns-clause-put g c =
    let bid = c.args.bid in let new = c.set_clock.new.self in let old = c.open-number.result.1 in
    let tried = c.try_bid-refused.ensures in let clocked = c.set_clock.ensures in
    let opened = c.open-number.ensures.shard in
    let acts = bid_acts bid.item bid.entry (bid_refusal_on c.args.held.shard bid) in
    let why = tried.by ∙ ap (λ (s : Shard). bid_refusal_on s bid) opened in
    let done : contents new ≡ after_acts (contents old) (events_of (contents old) acts) =
    clocked.contents ∙ tried.after.contents ∙ bid_done (contents old) bid.item bid.entry c.try_bid-refused.result ∙ (λ i. after_acts (contents old) (events_of (contents old) (bid_acts bid.item bid.entry (why i)))) in
    acted_put c.requires.held c.args.at.index acts refl new (subst (λ (s : Shard). IsSameShard s new) opened (same_on tried.after.same clocked.same))
    (subst (λ (s : Shard). contents new ≡ after_acts (contents s) (events_of (contents s) acts)) opened done) clocked.clock
    c.open-number.result.0 c.open-number.ensures.number g.L.LineName.line c.requires.named c.put.new.self c.put.ensures
