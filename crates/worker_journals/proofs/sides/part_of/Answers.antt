use Rattle.std.proofs.Common.{◌-◌, ◌+◌, ◌∙◌, ap, drop, rules, take}
use Rattle.worker_journals.proofs.KeptLemmas.{one_read, part_left, part_read}
use Rattle.worker_journals.proofs.sides.part_of.Goals as goal

pub loop-value-preserved : goal.loop-value-preserved
loop-value-preserved g c =
    let place = c.get-start.result in
    let part = take (place + c.args.count - place) (drop place c.args.list.now) in
    one_read part c.loop-value.value-index c.loop-value.shown c.push.new.self c.value-item.result c.loop-value-test.true c.value-item.is
    c.loop-value.invariant c.push.ensures.added

pub push-requires : goal.push-requires
push-requires g c = (
  search rules,
  part_left c.args.list.now c.get-start.result c.args.count c.loop-value.value-index c.loop-value.shown c.loop-value-test.true c.loop-value.invariant c.requires.few,
)

pub returns : goal.returns
returns g c =
    part_read c.args.list.now c.get-start.result c.args.count c.loop-value.value-index c.loop-value.shown c.loop-value-test.false c.loop-value.invariant
    ∙ ap (λ place. take c.args.count (drop place c.args.list.now)) c.get-start.ensures
