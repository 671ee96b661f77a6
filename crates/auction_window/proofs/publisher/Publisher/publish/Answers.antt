use Rattle.std.proofs.{Common.{arith, length, true, sym, ap, ◌∙◌}, lemmas.Bool.{false≢true}}
use Rattle.std.proofs.lemmas.Result.{IfOk-from_err, MatchResult-from_err}
use Rattle.auction_window.specs.Published.{Published}
use Rattle.auction_window.proofs.publisher.Publisher.publish.Goals as goal

-- the same phases, and that it was refused memory
abbrev failing : Published → Published
failing p = record { phases = p.phases; failed = true }

pub returns-then-self-clause-refused : goal.returns-then-self-clause-refused
returns-then-self-clause-refused g c = λ i. record {
  phases = c.args.self.now.phases;
  failed = (ap (λ (p : Published). p.failed) (sym c.self.view_is) ∙ c.if-self.true) i;
}

pub add-requires : goal.add-requires
add-requires g c = omega (arith, c.if-len.false, c.len.ensures, c.len.type_inv, ap length c.again-phases.ensures)

pub returns-then-not-add-clause-refused : goal.returns-then-not-add-clause-refused
returns-then-not-add-clause-refused g c = ap failing c.self.view_is

pub returns-in_err-show-clause-published : goal.returns-in_err-show-clause-published
returns-in_err-show-clause-published g c = IfOk-from_err c.from_residual.result _ c.from_residual.ensures.0

pub returns-in_err-show-clause-told : goal.returns-in_err-show-clause-told
returns-in_err-show-clause-told g c = IfOk-from_err c.from_residual.result _ c.from_residual.ensures.0

pub returns-in_err-show-clause-refused : goal.returns-in_err-show-clause-refused
returns-in_err-show-clause-refused g c = MatchResult-from_err c.from_residual.result _ _ c.from_residual.ensures.0 (λ _. ap failing c.self.view_is)

pub returns-in_err-show-clause-for_good : goal.returns-in_err-show-clause-for_good
returns-in_err-show-clause-for_good g c failed = absurd (false≢true (sym c.if-self.false ∙ ap (λ (p : Published). p.failed) c.self.view_is ∙ failed))

pub returns-clause-for_good : goal.returns-clause-for_good
returns-clause-for_good g c failed = absurd (false≢true (sym c.if-self.false ∙ ap (λ (p : Published). p.failed) c.self.view_is ∙ failed))
