use Rattle.std.proofs.Common.{◌≡◌, ◌<◌, ◌∙◌, [], All, ap, arith, length, subst, sym}
use Rattle.std.{proofs.lemmas.Result.{IfErr-weaker, IfOk-weaker}, specs.Prelude.{IfOk}}
use Rattle.auction_rows.specs.{Book.{worker_of}, declared.limits.TheConstants.{MOST_OF_A_WORKER}}
use Rattle.job_threads.proofs.ThreadLemmas.{err_as}
use Rattle.item_shards.specs.OpeningBooks.{opening_of, rows_of_book}
use Rattle.run_phases.{proofs.BoardLemmas.{none_shown, up_to_date}, specs.Beginning.{BeginsWith}}
use Rattle.run_phases.specs.{Boards.{IsUpToDate}, Outcomes.{IsOutcome}}
use Rattle.run_phases.specs.declared.course.Outcome.{Outcome}
use Rattle.run_phases.specs.declared.faults.RunFault.TheVariants.{Memory}
use Rattle.auction_run.proofs.AnswerLemmas.{answered, answered_memory, no_outcome}
use Rattle.auction_run.proofs.GoingOnLemmas.{begins_resumed, left_book, of_both}
use Rattle.auction_run.proofs.runs.run_checked.Goals.{After-run_from}
use Rattle.auction_run.specs.Runs.{AnswersRun, HasShownAll, HasShownFirst}
use Rattle.auction_run.proofs.runs.run_checked.Given as given
use Rattle.auction_run.proofs.runs.run_checked.Goals as goal

pub overflow_cast-workers : goal.overflow_cast-workers
overflow_cast-workers g c = omega (arith, ap length c.as_slice.ensures, c.requires.workers.few)

pub resume-requires-clause-workers : goal.resume-requires-clause-workers
resume-requires-clause-workers g c =
    let many = ap length c.as_slice.ensures in
    (omega (arith, many, c.requires.workers.some), omega (arith, many, c.requires.workers.few))

pub resume-requires-clause-own : goal.resume-requires-clause-own
resume-requires-clause-own g c =
    subst (λ n. All (λ row. worker_of row < n) (rows_of_book c.args.book.now)) (sym (ap length c.as_slice.ensures)) c.requires.workers.own

pub run_from-requires-clause-begins : goal.run_from-requires-clause-begins
run_from-requires-clause-begins g c κs within = λ cannot.
    let made = c.in_ok-state.ensures in let book = c.args.book.now in
    cannot (rows_of_book book) (begins_resumed (opening_of book) (rows_of_book book) c.args.work.policy c.args.work.scripts.now c.in_ok-state.state _
    made.opening made.limit made.phase made.shards made.workers (sym (ap length c.as_slice.ensures)) made.counters made.stands book.is_book c.requires.workers c.requires.short)

pub run_from-requires-clause-board : goal.run_from-requires-clause-board
run_from-requires-clause-board g c κs within = λ watched.
    let made = c.in_ok-state.ensures in let book = c.args.book.now in record {
      rows = rows_of_book book;
      before = [];
      begins = begins_resumed (opening_of book) (rows_of_book book) c.args.work.policy c.args.work.scripts.now c.in_ok-state.state _
          made.opening made.limit made.phase made.shards made.workers (sym (ap length c.as_slice.ensures)) made.counters made.stands book.is_book c.requires.workers c.requires.short;
      has_them = subst (λ o. g.B.Board.has c.args.board.now o (rows_of_book book) []) (sym made.opening) c.requires.board;
      few = omega (arith, made.limit);
    }

module _ (g : given.Over) (c : After-run_from g) where
  begins : BeginsWith c.in_ok-state.state (rows_of_book c.args.book.now) c.args.work.policy c.args.work.scripts.now
  begins =
      let made = c.in_ok-state.ensures in let book = c.args.book.now in
      begins_resumed (opening_of book) (rows_of_book book) c.args.work.policy c.args.work.scripts.now c.in_ok-state.state _
      made.opening made.limit made.phase made.shards made.workers (sym (ap length c.as_slice.ensures)) made.counters made.stands book.is_book c.requires.workers c.requires.short

  has_none : g.B.Board.has c.args.board.now c.in_ok-state.state.opening (rows_of_book c.args.book.now) []
  has_none = subst (λ o. g.B.Board.has c.args.board.now o (rows_of_book c.args.book.now) []) (sym c.in_ok-state.ensures.opening) c.requires.board

  outcome_is : IfOk c.run_from.result (IsOutcome (opening_of c.args.book.now) (rows_of_book c.args.book.now) c.args.work.policy c.args.work.scripts.now)
  outcome_is =
      let rows = rows_of_book c.args.book.now in let scripts = c.args.work.scripts.now in
      IfOk-weaker c.run_from.result _ (IsOutcome (opening_of c.args.book.now) rows c.args.work.policy scripts)
      (λ outcome each. subst (λ o. IsOutcome o rows c.args.work.policy scripts outcome) c.in_ok-state.ensures.opening (each rows begins)) c.run_from.ensures.outcome

  limit_is : IfOk c.run_from.result (λ outcome. outcome.state.limit ≡ MOST_OF_A_WORKER)
  limit_is = IfOk-weaker c.run_from.result _ _ (λ outcome same. same ∙ c.in_ok-state.ensures.limit) c.run_from.ensures.limit

  answer_is : AnswersRun (opening_of c.args.book.now) (rows_of_book c.args.book.now) c.args.work.policy c.args.work.scripts.now c.run_from.result
  answer_is =
      let book = c.args.book.now in
      answered (opening_of book) (rows_of_book book) c.args.work.policy c.args.work.scripts.now book.is_book
      (c.requires.workers, (c.requires.shards, (c.requires.quotas, c.requires.short))) c.run_from.result outcome_is limit_is c.run_from.ensures.fault

  board_is : IfOk c.run_from.result (HasShownAll g.B.Board.has (opening_of c.args.book.now) (rows_of_book c.args.book.now) c.run_from.new.board)
  board_is =
      let rows = rows_of_book c.args.book.now in
      IfOk-weaker c.run_from.result _ (HasShownAll g.B.Board.has (opening_of c.args.book.now) rows c.run_from.new.board)
      (λ outcome each. subst (λ o. HasShownAll g.B.Board.has o rows c.run_from.new.board outcome) c.in_ok-state.ensures.opening (each rows [] begins has_none)) c.run_from.ensures.board

  up_to_date_is : IfOk c.run_from.result (λ outcome. IsUpToDate g.B.Board.has c.run_from.new.board outcome.state)
  up_to_date_is =
      let book = c.args.book.now in
      let Shown : Outcome → Type 0 = HasShownAll g.B.Board.has (opening_of book) (rows_of_book book) c.run_from.new.board in
      let Limited : Outcome → Type 0 = λ outcome. outcome.state.limit ≡ MOST_OF_A_WORKER in
      of_both c.run_from.result _ (λ outcome. Shown outcome × Limited outcome) _
      (λ outcome is rest. up_to_date g.B.Board.has (opening_of book) (rows_of_book book) [] _ outcome.history.entries c.run_from.new.board outcome.state rest.0 is.replays is.opening_is
      (omega (arith, rest.1)) (left_book (opening_of book) (rows_of_book book) c.args.work.policy c.args.work.scripts.now book.is_book c.requires.workers.own outcome is))
      outcome_is (of_both c.run_from.result Shown Limited (λ outcome. Shown outcome × Limited outcome) (λ outcome shown limit. (shown, limit)) board_is limit_is)

pub returns : goal.returns
returns g c =
    let rows = rows_of_book c.args.book.now in let opening = opening_of c.args.book.now in record {
      answer = answer_is g c;
      board = board_is g c;
      up_to_date = up_to_date_is g c;
      board_after_fault = IfErr-weaker c.run_from.result _ (HasShownFirst g.B.Board.has g.B.Board.has_refused opening rows c.args.work.policy c.args.work.scripts.now c.run_from.new.board)
          (λ fault each. subst (λ o. HasShownFirst g.B.Board.has g.B.Board.has_refused o rows c.args.work.policy c.args.work.scripts.now c.run_from.new.board fault) c.in_ok-state.ensures.opening
          (each rows [] (begins g c) (has_none g c))) c.run_from.ensures.board_after_fault;
    }

pub returns-in_err-state : goal.returns-in_err-state
returns-in_err-state g c =
    let B = g.B.Board in let book = c.args.book.now in
    let rows = rows_of_book book in let opening = opening_of book in let kept = c.args.board.now in
    let told = c.from_residual.ensures.1 in record {
      answer = answered_memory opening rows c.args.work.policy c.args.work.scripts.now book.is_book
          (c.requires.workers, (c.requires.shards, (c.requires.quotas, c.requires.short))) c.from_residual.result told;
      board = no_outcome c.from_residual.result _ (HasShownAll B.has opening rows kept) told;
      up_to_date = no_outcome c.from_residual.result _ (λ outcome. IsUpToDate B.has kept outcome.state) told;
      board_after_fault = err_as c.from_residual.result Memory (HasShownFirst B.has B.has_refused opening rows c.args.work.policy c.args.work.scripts.now kept) told
          (none_shown B.has B.has_refused opening rows [] c.args.work.policy c.args.work.scripts.now kept c.requires.board Memory);
    }
