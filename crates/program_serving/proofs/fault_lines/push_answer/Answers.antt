use Rattle.std.proofs.Common.{◌∙◌, ◌++◌, List, ℕ, ap, append_assoc, codes}
use Rattle.std.proofs.lemmas.Result.{on_ok_weaker}
use Rattle.byte_texts.specs.Labels.{labelled}
use Rattle.program_serving.specs.inner.Sessions.{turned_text}
use Rattle.program_serving.proofs.fault_lines.push_answer.Goals as goal

pub returns : goal.returns
returns c =
    let next = labelled (codes ",") c.args.index in let why = turned_text c.args.turned in
    on_ok_weaker c.push_text-2.result (λ last.
    last ∙ ap (λ (l : List ℕ). l ++ codes "\n") (c.in_ok-push_turned.ensures ∙ ap (λ (l : List ℕ). l ++ why) (c.in_ok-push_text.ensures
    ∙ ap (λ (l : List ℕ). l ++ codes ",fault ") (c.in_ok-push_labelled.ensures ∙ ap (λ (l : List ℕ). l ++ next) (rw c.from.ensures at c.in_ok-push_number.ensures))))
    ∙ simp append_assoc) c.push_text-2.ensures
