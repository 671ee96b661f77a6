use Rattle.std.proofs.Common.{rules, ◌≡◌, ◌∙◌, [], List, length, ap, sym, subst, MatchOption}
use Rattle.std.proofs.lemmas.Option.{IfSome_then}
use base.Growing.{prefix_refl}
use Rattle.auction_rows.{proofs.HistoryLemmas.{book_after-replays}, specs.Book.{Book}}
use Rattle.auction_rows.specs.{History.{book_after, ReplaysFrom}, declared.rows.Row.{Row}}
use Rattle.auction_run.{proofs.BoardLemmas.{rows_length}, specs.Boards.{phase_rows}}
use Rattle.phase_boards.specs.Boards.{book_of}
use Rattle.item_shards.specs.OpeningBooks as opened
use Rattle.phase_floor.specs.States.{StandsFor}
use Rattle.program_opening.{proofs.ErrorLemmas.{error_is}, specs.Options.{opening_asked}}
use Rattle.program_opening.specs.declared.faults.Fault.TheVariants.{Run}
use Rattle.auction_program.{proofs.Answering.{not_run}, specs.Execution.{IsNotRun}}
use Rattle.auction_program.specs.inner.Performing.{HasLastViews, RefusesAsked}
use Rattle.auction_program.specs.inner.Views.{AreViews, IsEnd}
use Rattle.auction_program.proofs.execution.watch.Goals as goal

pub returns-clause-performs : goal.returns-clause-performs
returns-clause-performs g c =
    let W = g.J.WindowName in let asked = c.args.asked in let options = asked.options.now in
    let rows = opened.rows_of_book asked.book.now in let outcome = c.in_ok-outcome.outcome in
    let answers = c.in_ok-outcome.ensures in let history = outcome.history.entries in
    let shown = answers.board in
    let all : List (List Row) = phase_rows (length outcome.hot.items) history in
    let book : Book = book_after (opening_asked options) rows history in
    let replays = subst (λ o. ReplaysFrom o rows history) asked.opens answers.answer.outcome.replays in
    let end : IsEnd W.opening W.rows all all outcome.state book = record {
      known = prefix_refl all;
      counted = rows_length (length outcome.hot.items) history ∙ sym answers.answer.outcome.phases;
      book_is = ap (λ (rs : Book). book_of rs all) (sym c.requires.book.rows_are) ∙ shown.book_is ∙ sym (book_after-replays (opening_asked options) rows history replays);
      opening_is = answers.answer.outcome.opening_is ∙ c.requires.book.opening_is;
      stands = subst (λ o. StandsFor outcome.state (book_after o rows history)) asked.opens answers.answer.outcome.stands;
    } in
    let told = subst (λ o. MatchOption o (all ≡ []) (λ last. last ≡ all)) (sym c.take-told.ensures.value) shown.has_them.told_last in
    record {
      allowed = search rules;
      answer = search rules;
      lines = subst (HasLastViews options rows) (sym c.told_of.ensures)
          (IfSome_then c.last_lines-lines.result c.last_lines-lines.ensures
          (λ lines holds. subst (λ o. AreViews o book lines.categories.items lines.users.items) (sym c.requires.book.opening_is ∙ asked.opens) (holds all book told end)));
    }

pub returns-in_err-outcome-clause-cause : goal.returns-in_err-outcome-clause-cause
returns-in_err-outcome-clause-cause g c =
    let asked = c.args.asked in let rows = opened.rows_of_book asked.book.now in let scripts = asked.scripts.items in
    let fault = c.in_err-outcome.field-0.0 in let refused = c.run_shown.ensures.answer.refused in
    error_is c.from_residual.result (Run fault) (RefusesAsked asked) c.from_residual.ensures
    (subst (λ p. IsNotRun p fault rows scripts) c.policy.ensures
    (not_run c.policy.result rows scripts c.run_shown.result fault c.in_err-outcome.was refused.workers refused.shards refused.quota refused.too_long
    c.run_shown.ensures.answer.spawn c.run_shown.ensures.answer.numbers))
