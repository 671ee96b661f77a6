use Rattle.std.proofs.Common.{ap, ◌∙◌}
use Rattle.item_shards.specs.{Contents.{Contents, after_act}, Looking.{event_at}}
use Rattle.item_shards.specs.declared.shard.acts.Act.TheVariants.{Look}
use Rattle.item_shards.specs.declared.shard.acts.Look.TheVariants.{Category}
use Rattle.phase_tests.proofs.box_tests.list.Goals as goal

pub returns-clause-after : goal.returns-clause-after
returns-clause-after c =
    let one = c.act.ensures in let two = c.act-2.ensures in let end = c.set_clock.ensures in
    λ i. record {
      number = (end.same.number ∙ two.same.number ∙ one.same.number) i;
      shards = (end.same.shards ∙ two.same.shards ∙ one.same.shards) i;
      opening = (end.same.opening ∙ two.same.opening ∙ one.same.opening) i;
      clock = end.clock i;
      contents = (end.contents ∙ two.contents ∙ ap (λ (k : Contents). after_act k (event_at k (Look (Category 0)))) one.contents) i;
    }
