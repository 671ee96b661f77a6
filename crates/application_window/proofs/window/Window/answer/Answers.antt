use Rattle.std.proofs.{Common.{[], ◌∙◌, sym, subst, refl, true≢false}, lemmas.List.{append-nil}}
use Rattle.split_engine.specs.Serial.{IsWithin}
use Rattle.application_window.proofs.window.Window.answer.Goals as goal

pub returns-in_err-parts-clause-onward : goal.returns-in_err-parts-clause-onward
returns-in_err-parts-clause-onward g c = ([], append-nil c.args.self.now ∙ sym c.self.view_is)

pub returns-then-not-is_within-clause-none : goal.returns-then-not-is_within-clause-none
returns-then-not-is_within-clause-none g c = (
  λ none within. true≢false (sym (c.is_within.ensures.1 (subst (λ records. IsWithin g.A.Application.rules records c.args.request) (sym c.self.invariant) within)) ∙ c.if-not-is_within.true),
  λ beyond. refl,
)
