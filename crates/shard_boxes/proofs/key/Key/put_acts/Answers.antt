use Rattle.std.proofs.Common.{ℕ, ◌≡◌, ◌<◌, length, sym, ap, subst, ◌∙◌}
use Rattle.item_shards.specs.{Acting.{CanDo}, Contents.{after_acts}, Looking.{events_of}}
use Rattle.item_shards.specs.ShardContents.{IsSameShard, clock, contents}
use Rattle.item_shards.specs.declared.shard.Shard.{Shard}
use Rattle.shard_boxes.proofs.PutLemmas.{acted_may, acted_put}
use Rattle.shard_boxes.specs.{Keys.{holds_at}, inner.Grants.{IsBoxAt}}
use Rattle.shard_boxes.proofs.key.Key.put_acts.Goals as goal

pub apply_acts-requires : goal.apply_acts-requires
apply_acts-requires g c =
    let is = sym c.open-number.ensures.shard in record {
      later = subst (λ (s : Shard). clock s < c.args.at.number) is c.requires.held.later;
      within = c.requires.held.within;
      can = subst (λ (s : Shard). CanDo s c.args.acts.now) is c.requires.can;
    }

pub put-requires : goal.put-requires
put-requires g c =
    let acts = c.args.acts.now in let new = c.apply_acts.new.self in let made = c.apply_acts.ensures in
    let is = c.open-number.ensures.number in let opened = c.open-number.ensures.shard in record {
      known = subst (λ (n : ℕ). n < length g.N.PhaseName.initial) (sym is) c.open-number.ensures.known;
      place = subst (λ (n : ℕ). IsBoxAt c.args.self.now.boxes n c.args.shard_box.now) (sym is) c.requires.place;
      holds = ap (holds_at c.args.self.now) is ∙ c.requires.held.holder;
      may = acted_may c.requires.held c.args.at.index acts c.type_inv.acts new (subst (λ (s : Shard). IsSameShard s new) opened made.same)
          (subst (λ (s : Shard). contents new ≡ after_acts (contents s) (events_of (contents s) acts)) opened made.contents) made.clock c.open-number.result.0 is g.L.LineName.line c.requires.named;
    }

pub returns : goal.returns
returns g c =
    let acts = c.args.acts.now in let new = c.apply_acts.new.self in let made = c.apply_acts.ensures in
    let opened = c.open-number.ensures.shard in
    acted_put c.requires.held c.args.at.index acts c.type_inv.acts new (subst (λ (s : Shard). IsSameShard s new) opened made.same)
    (subst (λ (s : Shard). contents new ≡ after_acts (contents s) (events_of (contents s) acts)) opened made.contents) made.clock
    c.open-number.result.0 c.open-number.ensures.number g.L.LineName.line c.requires.named c.put.new.self c.put.ensures
