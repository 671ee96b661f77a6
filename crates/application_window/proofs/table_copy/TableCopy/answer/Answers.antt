use Rattle.std.proofs.Common.{length, ap, sym, subst, ◌∙◌}
use Rattle.split_engine.specs.{Serial.{IsWithin, reply}, Serving.{total}}
use Rattle.application_window.proofs.Growing.{as_long, seen_after}
use Rattle.application_window.proofs.table_copy.TableCopy.answer.Goals as goal

pub reply_to-requires : goal.reply_to-requires
reply_to-requires g c =
    subst (λ len. IsWithin g.A.Application.rules len c.args.request.now) (sym (ap length c.deref.ensures.value ∙ as_long g.A.Application.rules c.self.invariant)) c.requires

pub returns : goal.returns
returns g c =
    let rules = g.A.Application.rules in let parts_are = c.in_ok-parts.ensures.parts ∙ sym c.self.view_is in record {
      onward = c.in_ok-parts.ensures.onward;
      commits = c.self.invariant.count ∙ ap total (sym parts_are);
      value = seen_after rules (λ t. reply rules t c.args.request.now) c.reply_to.result c.deref.result.now c.self.inside.table.items g.J.WindowName.opened c.self.inside.parts c.in_ok-parts.parts
          c.reply_to.ensures c.deref.ensures.value c.self.invariant.table_is parts_are;
    }
