use Rattle.std.proofs.Common.{[]}
use Rattle.phase_floor.proofs.Blank.{new_start}
use Rattle.text_tests.proofs.logs.opening_tests.auction.Goals as goal

pub returns-in-Ok-clause-start : goal.returns-in-Ok-clause-start
returns-in-Ok-clause-start c =
    new_start c.in-Ok.auction c.lasting.result 2 c.in-Ok.ensures.counters c.in-Ok.ensures.stands c.lasting.ensures.lasts

pub returns-in-Ok-clause-has : goal.returns-in-Ok-clause-has
returns-in-Ok-clause-has c = record { book = []; is_of = (returns-in-Ok-clause-start c).is_of }
