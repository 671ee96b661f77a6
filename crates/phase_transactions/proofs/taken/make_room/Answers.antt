use Rattle.std.proofs.Common.{[], ◌∷◌, sym, ap, ◌∙◌}
use Rattle.shard_boxes.specs.States.{state_of}
use Rattle.phase_transactions.proofs.RoomLemmas.{same_state, has_room}
use Rattle.phase_transactions.specs.inner.Begun.{states_in}
use Rattle.phase_transactions.proofs.taken.make_room.Goals as goal

pub returns-in-One-clause-same : goal.returns-in-One-clause-same
returns-in-One-clause-same g c =
    let one = c.in-One.one in let made = c.prepare_item.ensures in
    let shows = same_state one.shard c.shard_mut.result.now c.prepare_item.new.self c.shard_mut.ensures.value made.same made.contents made.clock in
    (λ i. (one.number, shows i) ∷ []) ∙ ap states_in (sym c.in-One.is)

pub returns-in-One-clause-room : goal.returns-in-One-clause-room
returns-in-One-clause-room g c = has_room c.prepare_item.result c.shard_mut.result.now c.prepare_item.new.self c.args.item c.prepare_item.ensures.granted

pub returns-in-Two-clause-same : goal.returns-in-Two-clause-same
returns-in-Two-clause-same g c =
    let one = c.in-Two.one in let other = c.in-Two.field-1 in
    let made = c.prepare_item-in-Two.ensures in
    let shows = same_state one.shard c.shard_mut-in-Two.result.now c.prepare_item-in-Two.new.self c.shard_mut-in-Two.ensures.value made.same made.contents made.clock in
    (λ i. (one.number, shows i) ∷ (other.number, state_of other.shard) ∷ []) ∙ ap states_in (sym c.in-Two.is)

pub returns-in-Two-clause-room : goal.returns-in-Two-clause-room
returns-in-Two-clause-room g c = has_room c.prepare_item-in-Two.result c.shard_mut-in-Two.result.now c.prepare_item-in-Two.new.self c.args.item c.prepare_item-in-Two.ensures.granted
