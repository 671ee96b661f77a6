use Rattle.std.proofs.Common.{ℕ, ◌<◌, Option, length, sym, subst, ap, ◌∙◌}
use Rattle.item_shards.specs.declared.shard.Shard.{Shard}
use Rattle.shard_boxes.{proofs.EventLemmas.{may_put}, specs.Helds.{taken_at}}
use Rattle.shard_boxes.specs.inner.Passing.{MayPut}
use Rattle.shard_boxes.specs.{Keys.{holds_at, putting}, Lines.{Line}, States.{state_of}}
use Rattle.shard_boxes.specs.inner.Grants.{IsBoxAt}
use Rattle.shard_boxes.proofs.key.Key.put_made.Goals as goal

pub put-requires : goal.put-requires
put-requires g c =
    let is = c.open-number.ensures.number in let opened = c.open-number.ensures.shard in
    let initial = g.N.PhaseName.initial in let key = c.args.self.now in record {
      known = subst (λ (n : ℕ). n < length initial) (sym is) c.open-number.ensures.known;
      place = subst (λ (n : ℕ). IsBoxAt key.boxes n c.args.shard_box.now) (sym is) c.requires.place;
      holds = ap (holds_at key) is ∙ c.requires.holder;
      may = subst (λ (back : ℕ × Shard × Option Line). MayPut (taken_at initial key back.0) (state_of back.1) back.2) (λ i. (sym is i, sym opened i, sym c.requires.named i))
          (may_put _ _ _ c.requires.may);
    }

pub returns : goal.returns
returns g c = c.put.ensures ∙ (λ i. putting c.args.self.now (c.open-number.ensures.number i) (c.requires.named i))
