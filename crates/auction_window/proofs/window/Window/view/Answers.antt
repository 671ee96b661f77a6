use Rattle.std.proofs.Common.{◌≡◌, [], ◌∙◌, ap, None, Ok, Option, Result, Some, refl, sym}
use Rattle.std.proofs.lemmas.{Bool.{false≢true, true≢false}, List.{append-nil}}
use Rattle.std.specs.Result.{is_err}
use Rattle.auction_window.proofs.window.Window.view.Goals as goal

some_or_none : {T E A : Type 0} {shown : Result (Option T) E} {seen : T} → shown ≡ Ok (Some seen) → shown ≡ Ok None → A
some_or_none some none = absurd (cc (some, none))

pub returns-then-not-is_view-clause-none : goal.returns-then-not-is_view-clause-none
returns-then-not-is_view-clause-none g c = (λ _. sym c.is_view.ensures ∙ c.if-not-is_view.true, λ _. refl)

pub returns-then-not-is_view-clause-shown : goal.returns-then-not-is_view-clause-shown
returns-then-not-is_view-clause-shown g c = tt

pub returns-then-not-is_view-clause-phases : goal.returns-then-not-is_view-clause-phases
returns-then-not-is_view-clause-phases g c = tt

pub returns-in_err-phases-clause-none : goal.returns-in_err-phases-clause-none
returns-in_err-phases-clause-none g c = let err = c.from_residual.ensures.0 in (λ e. absurd (true≢false (sym err ∙ ap is_err e)), λ no. absurd (false≢true (sym no ∙ sym c.is_view.ensures ∙ c.if-not-is_view.false)))

pub returns-in_err-phases-clause-onward : goal.returns-in_err-phases-clause-onward
returns-in_err-phases-clause-onward g c = ([], append-nil c.args.self.now ∙ sym c.self.view_is)

pub returns-clause-none : goal.returns-clause-none
returns-clause-none g c = (λ e. some_or_none refl e, λ no. absurd (false≢true (sym no ∙ sym c.is_view.ensures ∙ c.if-not-is_view.false)))

pub returns-clause-phases : goal.returns-clause-phases
returns-clause-phases g c = c.len-count.ensures

pub returns-clause-no_view : goal.returns-clause-no_view
returns-clause-no_view g c = tt

pub returns-clause-refused : goal.returns-clause-refused
returns-clause-refused g c = tt
