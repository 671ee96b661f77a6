use Rattle.std.{proofs.Common.{◌≤◌, ◌-◌, length, take}, specs.Io.KnownBytes.{Appends}}
use Rattle.byte_texts.proofs.writing.write_part.Given as goal

abbrev pub invariant-loop-written : goal.invariant-loop-written
invariant-loop-written g l = record {
  within : l.written ≤ length l.part;
  wrote : Appends (g.W.Write.contents l.initial.writer) (g.W.Write.contents l.writer) (take l.written l.part);
}

abbrev pub decreases-loop-written : goal.decreases-loop-written
decreases-loop-written g l = length l.part - l.written
