use Rattle.std.proofs.Common.{◌≡◌, ◌∙◌, ◌+◌, ℕ, List, [], Option, ap, append-nil, length, subst, sym, take}
use Rattle.std.proofs.{KnownBytes.{Appends-trans}, Math.Seq.{take-append-add}}
use Rattle.std.{proofs.lemmas.Result.{IfErr-weaker}, specs.Io.KnownBytes.{Appends}}
use Rattle.byte_texts.specs.Writing.{IsPartWritten}
use Rattle.byte_texts.specs.declared.writing.WriteFault.TheVariants.{Write}
use Rattle.byte_texts.proofs.writing.write_last.Goals as goal

-- where nothing more was written, a whole text is a part of it
part_of_end : (old mid new : Option (List ℕ)) (text : List ℕ) → Appends old mid text → IsPartWritten mid new [] → IsPartWritten old new text
part_of_end old mid new text whole part =
    let n = length text + part.0 in
    (n, subst (Appends old new) (sym (take-append-add text [] part.0) ∙ ap (take n) (append-nil text)) (Appends-trans old mid new text (take part.0 []) whole part.1))

pub returns-clause-part : goal.returns-clause-part
returns-clause-part g c =
    let old = g.W.Write.contents c.args.writer.now in
    let new = g.W.Write.contents c.flush.new.writer in let part = c.args.part.now in
    IfErr-weaker c.flush.result _ (λ fault. (fault ≡ Write) × IsPartWritten old new part)
    (λ fault ended. (ended.0, part_of_end old _ new part c.in_ok-write_part.ensures.whole ended.1)) c.flush.ensures.fault
