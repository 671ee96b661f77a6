use Rattle.engine_tests.proofs.part_tests.next_part.Goals as goal

pub returns : goal.returns
returns g c = c.in-Ok.ensures.up_to_date c.requires
