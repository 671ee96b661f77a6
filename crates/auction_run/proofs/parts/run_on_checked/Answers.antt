use Rattle.std.proofs.Common.{◌≡◌, ◌≤◌, ◌∙◌, ap, length, refl, subst, sym}
use Rattle.auction_rows.specs.{Book.{Book}, History.{book_after}}
use Rattle.phase_boards.specs.Boards.{book_of}
use Rattle.phase_floor.specs.States.{JoinedState, IsBookOf}
use Rattle.job_threads.proofs.ThreadLemmas.{err_as}
use Rattle.auction_run.proofs.AnswerLemmas.{answered_stopped, no_outcome}
use Rattle.auction_run.proofs.GoingOnLemmas.{begins_of, left_book}
use Rattle.auction_run.specs.GoingOn.{HasShownFirstNext, HasShownNext}
use Rattle.auction_run.specs.declared.checks.Stopped.TheVariants.{Failed}
use Rattle.auction_run.proofs.parts.run_on_checked.Goals as goal
use Rattle.run_phases.{proofs.BoardLemmas.{up_to_date}, specs.Beginning.{BeginsWith}}
use Rattle.run_phases.specs.Boards.{HasShownAfter, IsUpToDate}
use Rattle.run_phases.specs.Outcomes.{HasShownFirstAfter, IsOutcome}

pub run_from-requires-clause-begins : goal.run_from-requires-clause-begins
run_from-requires-clause-begins g c κs within = λ cannot.
    let next = c.for_next_run-state.ensures in
    next.of_a_book (λ book of. cannot book (begins_of c.args.state c.for_next_run-state.result book c.args.work.policy _ c.args.work.scripts.now of
    refl c.requires.few c.requires.ready next.next next.stands))

pub run_from-requires-clause-board : goal.run_from-requires-clause-board
run_from-requires-clause-board g c κs within = λ watched.
    let next = c.for_next_run-state.ensures in let is = c.requires.board watched in record {
      rows = is.rows;
      before = is.phases;
      begins = begins_of c.args.state c.for_next_run-state.result (book_of is.rows is.phases) c.args.work.policy _ c.args.work.scripts.now is.book
          refl c.requires.few c.requires.ready next.next next.stands;
      has_them = subst (λ state. g.B.Board.has c.args.board.now state.opening is.rows is.phases) (sym next.next) is.has_them;
      few = subst (λ state. state.limit ≤ 1000000) (sym next.next) is.few;
    }

pub returns : goal.returns
returns g c =
    let B = g.B.Board in
    let state = c.args.state in let policy = c.args.work.policy in let scripts = c.args.work.scripts.now in
    let next = c.for_next_run-state.ensures in let outcome = c.in_ok-outcome.outcome in
    let begins : (book : Book) → IsBookOf state book → BeginsWith c.for_next_run-state.result book policy scripts =
    λ book of. begins_of state c.for_next_run-state.result book policy _ scripts of refl c.requires.few c.requires.ready next.next next.stands in
    let is : (book : Book) → IsBookOf state book → IsOutcome state.opening book policy scripts outcome =
    λ book of. subst (λ s. IsOutcome s.opening book policy scripts outcome) next.next (c.in_ok-outcome.ensures.outcome book (begins book of)) in
    let left : (book : Book) → IsBookOf state book → IsBookOf outcome.state (book_after state.opening book outcome.history.entries) =
    λ book of. left_book state.opening book policy scripts of.is_book (begins book of).own outcome (is book of) in
    let limit : outcome.state.limit ≡ state.limit = c.in_ok-outcome.ensures.limit ∙ ap (λ (s : JoinedState). s.limit) next.next in
    let shown : HasShownNext B.has state c.args.board.now c.run_from.new.board outcome =
    λ rows before has of.
    subst (λ state. HasShownAfter B.has state.opening rows before (length outcome.hot.items) outcome.history.entries c.run_from.new.board) next.next
    (c.in_ok-outcome.ensures.board rows before (begins (book_of rows before) of) (subst (λ state. B.has c.args.board.now state.opening rows before) (sym next.next) has)) in record {
      answer = record { ready = c.requires.ready; outcome = is; left = left; limit = limit; stopped = tt };
      board = shown;
      up_to_date = λ was.
          let book = book_of was.rows was.phases in let answers = is book was.book in
          up_to_date B.has state.opening was.rows was.phases (length outcome.hot.items) outcome.history.entries c.run_from.new.board outcome.state
          (shown was.rows was.phases was.has_them was.book) answers.replays answers.opening_is (subst (λ n. n ≤ 1000000) (sym limit) was.few) (left book was.book);
      board_after_fault = tt;
    }

pub returns-in_err-outcome : goal.returns-in_err-outcome
returns-in_err-outcome g c =
    let B = g.B.Board in
    let next = c.for_next_run-state.ensures in let state = c.args.state in let policy = c.args.work.policy in let scripts = c.args.work.scripts.now in let fault = c.in_err-outcome.field-0.0 in
    let told = c.from_residual.ensures.1 in record {
      answer = answered_stopped state policy scripts c.from_residual.result (Failed fault) told (c.requires.ready, c.in_err-outcome.ensures.fault);
      board = no_outcome c.from_residual.result _ (HasShownNext B.has state c.args.board.now c.run_from.new.board) told;
      up_to_date = no_outcome c.from_residual.result _ (λ outcome. IsUpToDate B.has c.args.board.now state → IsUpToDate B.has c.run_from.new.board outcome.state) told;
      board_after_fault = err_as c.from_residual.result (Failed fault)
          (HasShownFirstNext B.has B.has_refused state policy scripts c.args.board.now c.run_from.new.board) told
          (λ rows before has of.
          let begins = begins_of state c.for_next_run-state.result (book_of rows before) policy _ scripts of refl c.requires.few c.requires.ready next.next next.stands in
          subst (λ s. HasShownFirstAfter B.has B.has_refused s.opening rows before policy scripts c.run_from.new.board fault) next.next
          (c.in_err-outcome.ensures.board_after_fault rows before begins (subst (λ s. B.has c.args.board.now s.opening rows before) (sym next.next) has)));
    }
