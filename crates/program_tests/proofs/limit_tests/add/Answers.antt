use Rattle.program_tests.proofs.limit_tests.add.Goals as goal

pub returns : goal.returns
returns g c = record { book = _; is_of = c.in-Ok.ensures.book c.requires.book c.requires.is_of }
