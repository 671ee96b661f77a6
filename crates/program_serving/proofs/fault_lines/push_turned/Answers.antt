use Rattle.std.proofs.Common.{◌++◌, ◌∙◌, ℕ, List, ap, append_assoc, codes, sym}
use Rattle.std.proofs.lemmas.Result.{on_ok_weaker}
use Rattle.byte_texts.specs.Labels.{labelled}
use Rattle.program_serving.specs.inner.Sessions.{turned_text}
use Rattle.program_serving.proofs.fault_lines.push_turned.Goals as goal

pub returns-in_ok-push_labelled-in-Past : goal.returns-in_ok-push_labelled-in-Past
returns-in_ok-push_labelled-in-Past c =
    let words : List ℕ = codes " requests for a worker" in let old = c.args.text.now.items in
    on_ok_weaker c.push_text.result (λ last.
    last ∙ ap (λ (xs : List ℕ). xs ++ words) c.in_ok-push_labelled-in-Past.ensures ∙ append_assoc old (labelled (codes "more than ") c.in-Past.limit) words
    ∙ ap (λ turned. old ++ turned_text turned) (sym c.in-Past.is)) c.push_text.ensures
