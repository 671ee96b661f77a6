use Rattle.std.proofs.{Common.{sym, ap, ◌∙◌, subst}, lemmas.List.{nil_from_length}}
use Rattle.crossbeam_queue.specs.Passes.{view}
use Rattle.shard_boxes.proofs.BoxSteps.{takes, learns_full}
use Rattle.shard_boxes.specs.Passes.{GrantState}
use Rattle.shard_boxes.specs.inner.Passing.{SpeaksForAll}
use Rattle.shard_boxes.specs.{declared.shard_box.Knowledge.{Knowledge}, inner.Steps.{TakenBy}}
use Rattle.shard_boxes.proofs.shard_box.ShardBox.take_last.Goals as goal

pub pop_as-requires-clause-rule : goal.pop_as-requires-clause-rule
pop_as-requires-clause-rule g c =
    let knows = ap (λ (l : GrantState). l.knows) c.grant.view_is in
    let all = subst SpeaksForAll (sym knows) c.requires.all in
    (takes _ _ all.some, learns_full _ _ all (ap (λ (v : Knowledge). v.holds) knows ∙ c.requires.free))

pub pop_as-requires-clause-queue : goal.pop_as-requires-clause-queue
pop_as-requires-clause-queue g c = (ap (λ (l : GrantState). l.box_id) c.grant.view_is ∙ c.requires.place ∙ sym c.self.view_is, c.grant.invariant)

pub returns-clause-taken : goal.returns-clause-taken
returns-clause-taken g c = subst (λ (v : Knowledge). TakenBy v c.in-Some.shard (view c.pop_as.new.pass)) (ap (λ (l : GrantState). l.knows) c.grant.view_is) c.in-Some.ensures.rule

pub unreachable-requires : goal.unreachable-requires
unreachable-requires g c =
    let none = c.in-None.ensures.rule.1 in
    none.2 (nil_from_length none.0 none.1)
