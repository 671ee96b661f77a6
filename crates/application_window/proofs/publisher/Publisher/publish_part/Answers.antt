use Rattle.std.proofs.Common.{[], ◌∷◌, ◌++◌, ◌∙◌, arith, length, ap, sym}
use Rattle.application_window.proofs.Growing.{with_part-is}
use Rattle.application_window.proofs.publisher.Publisher.publish_part.Goals as goal

pub add-requires : goal.add-requires
add-requires g c = omega (arith, c.if-len.false, c.len.ensures, c.len.type_inv, ap length c.again-parts.ensures)

pub returns-clause-published : goal.returns-clause-published
returns-clause-published g c =
    let parts = c.again.ensures ∙ c.again-told.ensures ∙ c.if-not-add.ensures ∙ ap (λ parts. parts ++ c.args.part.items ∷ []) c.again-parts.ensures in
    sym (with_part-is _ c.args.self.now c.args.part.items c.again.result c.len-more.result c.self.view_is parts (omega arith))
