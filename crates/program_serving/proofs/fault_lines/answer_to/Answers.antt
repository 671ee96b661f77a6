use Rattle.std.proofs.Common.{◌∙◌, ◌++◌, ◌||◌, [], ap, if◌then◌else◌, sym}
use Rattle.auction_text.specs.Moved.{gone_by}
use Rattle.program_serving.specs.{FaultLines.{answer_line}, Serving.{named_answer}}
use Rattle.program_serving.specs.inner.Sessions.{turned_text}
use Rattle.program_serving.proofs.fault_lines.answer_to.Goals as goal

pub returns-in-Ok-clause-text : goal.returns-in-Ok-clause-text
returns-in-Ok-clause-text c =
    let words = turned_text c.args.line.turned in
    let named = named_answer (gone_by c.args.before.now) c.args.line.worker words in
    c.in-Ok.ensures ∙ ap (λ text. text ++ answer_line c.in-Some.worker c.requests_of.result words) c.new-text.ensures.items
    ∙ ap (λ index. answer_line c.in-Some.worker index words) c.requests_of.ensures
    ∙ ap (λ worker. named_answer (gone_by c.args.before.now) worker words) (sym c.in-Some.is)
    ∙ ap (λ b. if b then [] else named) (sym c.if-options-2.false) ∙ ap (λ b. if b || c.args.options.now.history then [] else named) (sym c.if-options.false)
