use Rattle.std.proofs.Common.{arith, take-add, length-drop, subst, sym}
use Rattle.std.proofs.{KnownBytes.{Appends-trans}, lemmas.List.{take_rest}}
use Rattle.std.specs.Io.KnownBytes.{Appends}
use Rattle.byte_texts.proofs.writing.write_part.Goals as goal

pub loop-written-preserved : goal.loop-written-preserved
loop-written-preserved g c =
    let inv = c.loop-written.invariant in
    let rest = take_rest c.args.part.now c.loop-written.written in
    let bytes = rw rest at c.in-Ok.ensures.bytes in let bound = rw rest at c.in-Ok.ensures.bound in
    let within = inv.within in record {
      within = omega (arith, bound, within, length-drop c.loop-written.written c.args.part.now);
      wrote = subst (Appends _ _) (sym (take-add c.loop-written.written c.in-Ok.count c.args.part.now)) (Appends-trans _ _ _ _ _ inv.wrote bytes);
    }
