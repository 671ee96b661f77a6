use Rattle.std.{proofs.Common.{◌≡◌, ◌≤◌, length, refl, subst, sym}, specs.Prelude.{IfErr}}
use Rattle.auction_rows.specs.declared.limits.TheConstants.{MOST_WORKERS}
use Rattle.job_threads.proofs.ThreadLemmas.{err_as}
use Rattle.run_phases.proofs.BoardLemmas.{none_shown}
use Rattle.run_phases.specs.declared.faults.RunFault.TheVariants.{Memory}
use Rattle.auction_run.proofs.AnswerLemmas.{answered_stopped, not_given_back}
use Rattle.auction_run.specs.GoingOn.{AnswersNextRun, HasShownFirstNext, IsReadyFor}
use Rattle.auction_run.specs.declared.checks.Stopped.TheVariants.{Failed}
use Rattle.auction_run.proofs.parts.run_on_shown.Goals as goal

pub run_on_checked-requires-clause-ready : goal.run_on_checked-requires-clause-ready
run_on_checked-requires-clause-ready g c κs within =
    subst (IsReadyFor c.args.state c.args.policy) (sym c.in_ok-compact.ensures) c.in_default.ensures.checked

pub run_on_checked-requires-clause-few : goal.run_on_checked-requires-clause-few
run_on_checked-requires-clause-few g c κs within =
    subst (λ scripts. length scripts ≤ MOST_WORKERS) (sym c.in_ok-compact.ensures) c.in_default.ensures.few

pub run_on_checked-requires-clause-board : goal.run_on_checked-requires-clause-board
run_on_checked-requires-clause-board g c κs within = c.requires

pub returns-clause-answer : goal.returns-clause-answer
returns-clause-answer g c =
    subst (λ scripts. AnswersNextRun c.args.state c.args.policy scripts c.run_on_checked.result)
    c.in_ok-compact.ensures c.run_on_checked.ensures.answer

pub returns-clause-board_after_fault : goal.returns-clause-board_after_fault
returns-clause-board_after_fault g c =
    let B = g.B.Board in let state = c.args.state in
    subst (λ scripts. IfErr c.run_on_checked.result (HasShownFirstNext B.has B.has_refused state c.args.policy scripts c.args.board.now c.run_on_checked.new.board))
    c.in_ok-compact.ensures c.run_on_checked.ensures.board_after_fault

pub returns-clause-board : goal.returns-clause-board
returns-clause-board g c = c.run_on_checked.ensures.board

pub returns-clause-up_to_date : goal.returns-clause-up_to_date
returns-clause-up_to_date g c = c.run_on_checked.ensures.up_to_date

pub returns-in_err-compact-clause-answer : goal.returns-in_err-compact-clause-answer
returns-in_err-compact-clause-answer g c =
    answered_stopped c.args.state c.args.policy (g.S.Scripts.asked c.args.scripts) c.from_residual.result (Failed Memory) c.from_residual.ensures.1 (c.in_default.ensures.checked, tt)

pub returns-in_err-compact-clause-board_after_fault : goal.returns-in_err-compact-clause-board_after_fault
returns-in_err-compact-clause-board_after_fault g c =
    let B = g.B.Board in let state = c.args.state in let policy = c.args.policy in let scripts = g.S.Scripts.asked c.args.scripts in
    err_as c.from_residual.result (Failed Memory)
    (HasShownFirstNext B.has B.has_refused state policy scripts c.args.board.now c.args.board.now)
    c.from_residual.ensures.1
    (λ rows before has of. none_shown B.has B.has_refused state.opening rows before policy scripts c.args.board.now has Memory)

pub returns-in-Err-clause-answer : goal.returns-in-Err-clause-answer
returns-in-Err-clause-answer g c = record {
  ready = tt;
  outcome = tt;
  left = tt;
  limit = tt;
  stopped = (refl, c.in-Err.ensures.checked);
}

pub returns-in-Err-clause-board_after_fault : goal.returns-in-Err-clause-board_after_fault
returns-in-Err-clause-board_after_fault g c = λ rows before has of.
    none_shown g.B.Board.has g.B.Board.has_refused c.args.state.opening rows before c.args.policy (g.S.Scripts.asked c.args.scripts) c.args.board.now has c.in-Err.fault

pub returns-clause-untouched : goal.returns-clause-untouched
returns-clause-untouched g c =
    not_given_back c.args.state c.args.policy (g.S.Scripts.asked c.args.scripts) c.in_default.ensures.checked
    c.run_on_checked.result (returns-clause-answer g c) (c.run_on_checked.new.board ≡ c.args.board.now)

pub returns-in-Err-clause-untouched : goal.returns-in-Err-clause-untouched
returns-in-Err-clause-untouched g c = λ back. refl
