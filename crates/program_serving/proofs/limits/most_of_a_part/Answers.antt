use Rattle.std.proofs.{Common.{◌∙◌, arith, refl, sym}, lemmas.Bool.{false≢true}}
use Rattle.program_serving.proofs.limits.most_of_a_part.Goals as goal

pub returns-then-not-has_room-clause-asked : goal.returns-then-not-has_room-clause-asked
returns-then-not-has_room-clause-asked c = λ some. some

pub returns-then-not-has_room-clause-room : goal.returns-then-not-has_room-clause-room
returns-then-not-has_room-clause-room c = λ many. absurd (omega (arith, many))

pub returns-then-not-has_room-clause-full : goal.returns-then-not-has_room-clause-full
returns-then-not-has_room-clause-full c = λ room some few. absurd (false≢true (sym c.if-not-has_room.true ∙ c.has_room.ensures.full room))

pub returns-clause-asked : goal.returns-clause-asked
returns-clause-asked c = λ some. omega arith

pub returns-clause-full : goal.returns-clause-full
returns-clause-full c = λ room some few. refl
