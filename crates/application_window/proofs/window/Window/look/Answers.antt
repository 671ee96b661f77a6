use Rattle.std.proofs.{Common.{[], refl, ◌∙◌, sym, arith}, lemmas.List.{append-nil}}
use Rattle.application_window.proofs.window.Window.look.Goals as goal

pub returns-in_err-parts-clause-onward : goal.returns-in_err-parts-clause-onward
returns-in_err-parts-clause-onward g c = ([], append-nil c.args.self.now ∙ sym c.self.view_is)

pub returns-then-key-self-clause-none : goal.returns-then-key-self-clause-none
returns-then-key-self-clause-none g c = (λ _. omega (arith, c.if-key-self.true, c.self.invariant), λ _. refl)
