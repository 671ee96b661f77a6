use Rattle.std.proofs.Common.{◌∙◌, ◌++◌, List, ℕ, ap, append_assoc, codes}
use Rattle.byte_texts.specs.Labels.{labelled}
use Rattle.auction_text.proofs.writing.replies.put_place.Goals as goal

pub returns-clause-text : goal.returns-clause-text
returns-clause-text g c =
    let entry = c.args.entry.now in let number = labelled (codes " ") entry.number in
    let worker = labelled (codes " ") entry.worker in
    let index = labelled (codes " ") c.args.index in
    c.push_labelled-3.ensures.text ∙ ap (λ (l : List ℕ). l ++ index) ((rw (c.from.ensures, c.worker.ensures) at c.push_labelled-2.ensures.text)
    ∙ ap (λ (l : List ℕ). l ++ worker) ((rw c.number.ensures at c.push_labelled.ensures.text) ∙ ap (λ (l : List ℕ). l ++ number) c.push_number.ensures.text))
    ∙ simp append_assoc
