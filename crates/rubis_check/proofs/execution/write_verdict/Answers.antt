use Rattle.std.proofs.{Common.{◌++◌, ◌∙◌, ℕ, List, ap, subst}, lemmas.Result.{on_ok_weaker}}
use Rattle.std.specs.Io.KnownBytes.{Appends}
use Rattle.byte_texts.specs.Writing.{IsPartWritten}
use Rattle.history_check.specs.declared.lines.Verdict.{TheVariants.{WrongAt}, Verdict}
use Rattle.rubis_check.specs.VerdictLines.{Says}
use Rattle.rubis_check.proofs.execution.write_verdict.Goals as goal

-- what holds of all that a text may be holds of what it says
says_so : (line : List ℕ) (verdict : Verdict) (P Q : List ℕ → Type 0) → ((said : List ℕ) → P said → Q said) → Says line verdict P → Says line verdict Q
says_so line (WrongAt number wrong) P Q so says = record { commit_id = says.commit_id; reply = says.reply; reads = says.reads; holds = so _ says.holds }
says_so line verdict P Q so says = so _ says

pub returns-clause-whole : goal.returns-clause-whole
returns-clause-whole g c =
    let Whole = Appends (g.W.Write.contents c.args.writer.now) (g.W.Write.contents c.write_last.new.writer) in
    on_ok_weaker c.write_last.result (λ written. says_so c.args.line.now c.args.verdict.now _ Whole
    (λ said is. subst Whole (c.as_slice.ensures.value ∙ is ∙ ap (λ text. text ++ said) c.new-text.ensures.items) written) c.in-Ok.ensures) c.write_last.ensures.whole

pub returns-clause-part : goal.returns-clause-part
returns-clause-part g c = λ failed.
    let Part = IsPartWritten (g.W.Write.contents c.args.writer.now) (g.W.Write.contents c.write_last.new.writer) in
    says_so c.args.line.now c.args.verdict.now _ Part
    (λ said is. subst Part (c.as_slice.ensures.value ∙ is ∙ ap (λ text. text ++ said) c.new-text.ensures.items) (rw failed at c.write_last.ensures.part).1) c.in-Ok.ensures
