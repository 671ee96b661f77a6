use Rattle.std.{proofs.Common.{[], drop}, specs.List.{flat_map}}
use Rattle.auction_text.proofs.PutLemmas.{IsTold}
use Rattle.auction_text.proofs.writing.text_blocks.write_parts.Given as goal

-- the parts so far, and those that are left
abbrev pub invariant-loop-part : goal.invariant-loop-part
invariant-loop-part g l = IsTold (g.W.Write.contents l.initial.writer) [] (g.W.Write.contents l.writer) []
    (flat_map (λ part. part.items) (drop l.part-index l.parts)) (flat_map (λ part. part.items) l.parts)
