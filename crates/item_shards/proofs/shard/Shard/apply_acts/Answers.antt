use Rattle.std.proofs.Common.{get_or, sym, ap, subst, ◌∙◌, List}
use Rattle.item_shards.proofs.CommitLemmas.{two_of, can_next, same_on}
use Rattle.item_shards.specs.{Acting.{CanActIn, CanDo}, Contents.{Contents, after_act, after_acts}}
use Rattle.item_shards.specs.{Looking.{event_at, events_of}, ShardContents.{contents, rooms}}
use Rattle.item_shards.specs.declared.shard.acts.Act.{Act}
use Rattle.item_shards.proofs.shard.Shard.apply_acts.Goals as goal

pub act-requires : goal.act-requires
act-requires c =
    let acts = two_of c.args.acts.now c.index-acts-0.result c.index-acts-1.result c.type_inv.acts in
    (subst (CanDo c.args.self.now) acts c.requires.can).0

pub act-requires-2 : goal.act-requires-2
act-requires-2 c =
    let old = c.args.self.now in
    let first = event_at (contents old) (get_or c.args.acts.now 0 c.index-acts-0.result) in
    let second = get_or c.args.acts.now 1 c.index-acts-1.result in
    let acts = two_of c.args.acts.now c.index-acts-0.result c.index-acts-1.result c.type_inv.acts in
    let can = subst (CanDo old) acts c.requires.can in
    subst (λ (found : Contents). CanActIn c.act.new.self (rooms c.act.new.self) (contents c.act.new.self) (event_at found second)) (sym c.act.ensures.contents)
    (can_next old c.act.new.self first (event_at (after_act (contents old) first) second)
    c.act.ensures.same c.act.ensures.rooms c.act.ensures.contents can.1.0)

pub returns : goal.returns
returns c =
    let old = contents c.args.self.now in
    let second = get_or c.args.acts.now 1 c.index-acts-1.result in
    let acts = two_of c.args.acts.now c.index-acts-0.result c.index-acts-1.result c.type_inv.acts in
    let one = c.act.ensures in let two = c.act-2.ensures in
    let set = c.set_clock.ensures in record {
      contents = set.contents ∙ two.contents
          ∙ ap (λ (now : Contents). after_act now (event_at now second)) one.contents
          ∙ ap (λ (both : List Act). after_acts old (events_of old both)) (sym acts);
      clock = set.clock;
      rooms = set.rooms ∙ two.rooms ∙ one.rooms;
      same = same_on one.same (same_on two.same set.same);
    }
