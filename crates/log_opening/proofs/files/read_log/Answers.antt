use Rattle.std.proofs.Common.{◌∙◌, IfErr, IfOk, IfSome, subst}
use Rattle.log_opening.specs.Opening.{IsRefusedBy, Opens, TellsFirst}
use Rattle.log_opening.proofs.files.read_log.Goals as goal

pub returns-clause-opens : goal.returns-clause-opens
returns-clause-opens g c =
    subst (λ text. IfOk c.open_parts.result (Opens text (g.W.Write.contents c.args.told.now) (g.W.Write.contents c.open_parts.new.told)))
    (c.of-reader.ensures ∙ c.of.ensures) c.open_parts.ensures.opens

pub returns-clause-refused : goal.returns-clause-refused
returns-clause-refused g c =
    let auction = c.args.auction in
    subst (λ text. IfErr c.open_parts.result (λ fault. IfSome text (IsRefusedBy fault auction)))
    (c.of-reader.ensures ∙ c.of.ensures) c.open_parts.ensures.refused

pub returns-clause-told : goal.returns-clause-told
returns-clause-told g c =
    subst (λ text. IfErr c.open_parts.result (λ _. TellsFirst text (g.W.Write.contents c.args.told.now) (g.W.Write.contents c.open_parts.new.told)))
    (c.of-reader.ensures ∙ c.of.ensures) c.open_parts.ensures.told
