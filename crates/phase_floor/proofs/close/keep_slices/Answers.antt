use Rattle.phase_floor.proofs.close.keep_slices.Goals as goal

pub returns-then-not-IS_JOINED-clause-one : goal.returns-then-not-IS_JOINED-clause-one
returns-then-not-IS_JOINED-clause-one g c = λ split. c.push_reserved.ensures.items

pub returns-then-not-IS_JOINED-clause-len : goal.returns-then-not-IS_JOINED-clause-len
returns-then-not-IS_JOINED-clause-len g c = λ split. c.push_reserved.ensures.len
