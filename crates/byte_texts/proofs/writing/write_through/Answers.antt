use Rattle.byte_texts.proofs.writing.write_through.Goals as goal

pub returns-clause-bytes : goal.returns-clause-bytes
returns-clause-bytes g c = c.loop.invariant.kept
