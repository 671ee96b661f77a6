use Rattle.std.proofs.Common.{◌<◌, length, ap, refl, sym, ◌∙◌, arith}
use Rattle.std.{proofs.lemmas.List.{get_or_default}}
use Rattle.split_engine.specs.{Serial.{record_at}, Serving.{total}}
use Rattle.application_window.proofs.Growing.{as_long, seen_after}
use Rattle.application_window.proofs.table_copy.TableCopy.look.Goals as goal

pub index-requires : goal.index-requires
index-requires g c = omega (arith, c.requires, as_long g.A.Application.rules c.self.invariant, c.self.inside.table.ok.0)

pub returns : goal.returns
returns g c =
    let rules = g.A.Application.rules in let parts_are = c.in_ok-parts.ensures.parts ∙ sym c.self.view_is in
    let table = c.self.inside.table.items in let key = c.args.key in
    let there : key < length table = omega (arith, c.requires, as_long rules c.self.invariant) in record {
      onward = c.in_ok-parts.ensures.onward;
      commits = c.self.invariant.count ∙ ap total (sym parts_are);
      value = seen_after rules (λ t. rules.look (record_at rules t key)) c.look.result table table g.J.WindowName.opened c.self.inside.parts c.in_ok-parts.parts
          (c.look.ensures ∙ ap rules.look (c.index.ensures ∙ get_or_default table key c.index.result.now rules.blank there)) refl c.self.invariant.table_is parts_are;
    }
