use Rattle.std.specs.Prelude.{Some}
use Rattle.shard_boxes.specs.Lines.{line_of_bid}
use Rattle.shard_boxes.proofs.boxes.Boxes.put_bid.Given as goal

-- the line of the bid
abbrev pub ghosts-put_bid : goal.ghosts-put_bid
ghosts-put_bid g a = record { line = Some (line_of_bid a.at.number a.at.index a.bid a.held.shard) }
