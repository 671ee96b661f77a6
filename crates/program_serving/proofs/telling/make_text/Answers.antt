use Rattle.std.proofs.Common.{◌++◌, ◌∙◌, ap, refl}
use Rattle.auction_text.specs.Moved.{gone_by}
use Rattle.program_serving.specs.Serving.{part_text}
use Rattle.program_serving.proofs.telling.make_text.Goals as goal

pub returns-in-Ok-clause-text : goal.returns-in-Ok-clause-text
returns-in-Ok-clause-text c =
    let committed = c.args.committed.now in
    (rw c.in-Ok.is at c.write_asked.ensures.whole)
    ∙ ap (λ text. text ++ part_text c.args.options.now (gone_by committed.before) committed.rows.items committed.history.entries) c.clear.ensures.items

pub returns-in-Err-clause-memory : goal.returns-in-Err-clause-memory
returns-in-Err-clause-memory c = refl
