use Rattle.std.specs.Prelude.{Some}
use Rattle.shard_boxes.specs.Lines.{line_of}
use Rattle.shard_boxes.proofs.boxes.Boxes.put_acts.Given as goal

-- the line of the acts
abbrev pub ghosts-put_acts : goal.ghosts-put_acts
ghosts-put_acts g a = record { line = Some (line_of a.at.number a.at.index a.acts.now a.held.shard) }
