use Rattle.std.proofs.Common.{option_map}
use Rattle.shard_boxes.specs.{Helds.{taken_at}, Lines.{seen_line}}
use Rattle.shard_boxes.proofs.boxes.Boxes.put.Given as goal

-- the line that is put, with what its looks showed
abbrev pub ghosts-put_made : goal.ghosts-put_made
ghosts-put_made g a = record { line = option_map (seen_line (taken_at g.N.PhaseName.initial a.self.now a.held.number)) a.made }
