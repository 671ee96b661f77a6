use Rattle.phase_floor.proofs.memory.Memory.slices.Goals as goal

pub renewed-requires-clause-distinct : goal.renewed-requires-clause-distinct
renewed-requires-clause-distinct c = c.requires.distinct

pub returns-in-Some : goal.returns-in-Some
returns-in-Some c = c.renewed.ensures
