use Rattle.std.proofs.Common.{rules, arith, ◌≡◌, ◌<◌, ◌⊎◌, ◌+◌, List, suc, length, refl, inl, subst, sym, ap, ◌∙◌}
use Rattle.auction_rows.specs.{Book.{Book}, declared.rows.Row.{Row}}
use Rattle.phase_boards.specs.Boards.{book_of}
use Rattle.job_threads.proofs.ThreadLemmas.{err_as}
use Rattle.run_laws.specs.{Run.{HasLeft, first_index}, Serving.{script_of}}
use Rattle.run_phases.proofs.BoardLemmas.{begins_shown, can_show, first_shown, has_shown, next_runs, none_shown, not_shown}
use Rattle.run_phases.proofs.CourseLemmas.{few_phases_now, phase_now, stashes_now, still_goes_on}
use Rattle.run_phases.proofs.RunLemmas.{some_given, few_of, left_over, ended, phases_counted}
use Rattle.run_phases.specs.{Beginning.{HasShards, HasQuotas, BeginsWith}, Boards.{HasShownAfter}}
use Rattle.run_phases.specs.{Outcomes.{HasShownFirstAfter}, Phases.{IsMet}}
use Rattle.run_phases.specs.declared.faults.RunFault.TheVariants.{Memory}
use Rattle.run_phases.specs.inner.{Plans.{waiting_in, AreAsked, IsNoneLeft}, Running.{IsRunning}}
use Rattle.run_phases.proofs.course.run_from.Goals as goal

pub returns-then-not-is_left-clause-outcome : goal.returns-then-not-is_left-clause-outcome
returns-then-not-is_left-clause-outcome g c = λ rows begins.
    ended c.args.state.opening rows c.args.work.policy (some_given c.requires.quotas) c.args.work.scripts.now c.args.state.limit begins.short c.loop-phase._phase c.loop-phase.running
    (c.loop-phase.invariant.running rows begins) c.new-plan.result.round.first
    (c.new-plan.ensures.plan.1 ∙ ap (first_index c.new-plan.result.policy) (c.phase.ensures ∙ (c.loop-phase.invariant.running rows begins).phase_is)
    ∙ ap (λ policy. first_index policy c.loop-phase._phase) c.new-plan.ensures.policy)
    (subst (λ stashes. IsNoneLeft c.args.work.scripts.now stashes c.new-plan.result.round.first) c.deref.ensures.value
    (c.is_left.ensures.none (search rules)))

pub returns-then-not-is_left-clause-board : goal.returns-then-not-is_left-clause-board
returns-then-not-is_left-clause-board g c = λ rows before begins has.
    let running = c.loop-phase.invariant.running (book_of rows before) begins in
    let counted = phases_counted c.args.state.opening (book_of rows before) c.args.work.policy (some_given c.requires.quotas) c.args.work.scripts.now c.args.state.limit begins.short c.loop-phase._phase c.loop-phase.running running in
    subst (λ n. HasShownAfter g.B.Board.has c.args.state.opening rows before n c.loop-phase.running.history.entries c.loop-phase.board) (sym running.phase_is ∙ counted)
    (c.loop-phase.invariant.shown rows before begins has)

pub returns-then-not-is_left-clause-limit : goal.returns-then-not-is_left-clause-limit
returns-then-not-is_left-clause-limit g c = c.loop-phase.invariant.limit

pub new-plan-requires : goal.new-plan-requires
new-plan-requires g c =
    (few_of (c.phase.ensures ∙ phase_now c.args.state c.args.work.policy c.args.work.scripts.now c.requires.begins c.loop-phase._phase c.loop-phase.running c.loop-phase.invariant.running)
    c.loop-phase-test.true).0

pub is_left-requires : goal.is_left-requires
is_left-requires g c =
    ap length c.deref.ensures.value ∙ stashes_now c.args.state c.args.work.policy c.args.work.scripts.now c.requires.begins c.loop-phase._phase c.loop-phase.running c.loop-phase.invariant.running

pub next_phase-requires-clause-plan : goal.next_phase-requires-clause-plan
next_phase-requires-clause-plan g c κs within =
    let plan = c.new-plan.ensures.plan in
    (plan.0 ∙ c.phase.ensures, plan.1 ∙ ap (first_index c.new-plan.result.policy) c.phase.ensures)

pub next_phase-requires-clause-can : goal.next_phase-requires-clause-can
next_phase-requires-clause-can g c κs within =
    let some = c.is_left.ensures.some (search rules) in let same = c.new-plan.ensures in
    let plan = c.new-plan.ensures.plan in record {
      shards = subst HasShards (sym same.policy) c.requires.shards;
      quotas = some_given (subst HasQuotas (sym same.policy) c.requires.quotas);
      counted = (few_of (phase_now c.args.state c.args.work.policy c.args.work.scripts.now c.requires.begins c.loop-phase._phase c.loop-phase.running c.loop-phase.invariant.running) c.loop-phase-test.true).1;
      goes_on = still_goes_on c.args.state c.args.work.policy c.args.work.scripts.now c.requires.begins c.loop-phase._phase c.loop-phase.running c.loop-phase.invariant.running c.loop-phase.invariant.limit same.policy same.scripts;
      asked = subst (λ scripts. AreAsked scripts c.loop-phase.running.stashes.items) (sym same.scripts) c.loop-phase.invariant.asked;
      left = (
        some.0,
        subst (λ policy. HasLeft policy c.new-plan.result.round.scripts.now c.loop-phase.running.state.phase (waiting_in c.loop-phase.running.stashes.items) some.0) (sym same.policy)
            (subst (λ scripts. HasLeft c.args.work.policy scripts c.loop-phase.running.state.phase (waiting_in c.loop-phase.running.stashes.items) some.0) (sym same.scripts)
            (left_over c.args.work.policy c.args.work.scripts.now c.loop-phase.running.state.phase c.loop-phase.running c.new-plan.result.round.first some.0
            (plan.1 ∙ ap (first_index c.new-plan.result.policy) c.phase.ensures ∙ ap (λ policy. first_index policy c.loop-phase.running.state.phase) same.policy)
            (subst (λ stashes. (c.new-plan.result.round.first < length (script_of c.args.work.scripts.now some.0)) ⊎ (0 < length (waiting_in stashes some.0))) c.deref.ensures.value some.1))),
      );
    }

pub loop-phase-init : goal.loop-phase-init
loop-phase-init g c = record {
  limit = c.in_ok-running.ensures.limit;
  asked = c.in_ok-running.ensures.asked;
  running = λ rows begins. c.in_ok-running.ensures.running rows c.args.work.policy begins;
  shown = λ rows before begins has. begins_shown g.B.Board.has c.args.state.opening rows before c.args.work.policy c.args.work.scripts.now c.in_ok-running.running c.args.board.now
      (c.in_ok-running.ensures.running (book_of rows before) c.args.work.policy begins) has;
}

pub show_phase-requires : goal.show_phase-requires
show_phase-requires g c = λ watched.
    let can = c.requires.board watched in let same = c.new-plan.ensures in
    let rows = book_of can.rows can.before in
    let next = next_runs c.args.state.opening rows can.begins.is_book c.args.work.policy c.new-plan.result.policy c.args.work.scripts.now c.new-plan.result.round.scripts.now c.loop-phase._phase
    c.loop-phase.running c.in_ok-running-2.running same.policy same.scripts (c.loop-phase.invariant.running rows can.begins) c.in_ok-running-2.ensures.performed.runs in
    can_show c.args.state.opening rows can.begins.is_book c.args.work.policy c.args.work.scripts.now can.begins.few can.begins.own c.loop-phase._phase c.in_ok-running-2.running next
    c.loop-phase.running.history.entries c.in_ok-running-2.ensures.performed.grown g.B.Board.has c.loop-phase.board can.rows can.before refl (c.loop-phase.invariant.shown can.rows can.before can.begins can.has_them)
    c.args.state.limit can.few can.begins.short

pub loop-phase-preserved : goal.loop-phase-preserved
loop-phase-preserved g c =
    let same = c.new-plan.ensures in let scripts = c.args.work.scripts.now in
    let one_more : suc c.loop-phase._phase ≡ c.loop-phase._phase + 1 = omega arith in
    let next : (rows : Book) → BeginsWith c.args.state rows c.args.work.policy scripts → IsRunning c.args.state.opening rows c.args.work.policy scripts (suc c.loop-phase._phase) c.in_ok-running-2.running =
    λ rows begins. next_runs c.args.state.opening rows begins.is_book c.args.work.policy c.new-plan.result.policy scripts c.new-plan.result.round.scripts.now c.loop-phase._phase c.loop-phase.running
    c.in_ok-running-2.running same.policy same.scripts (c.loop-phase.invariant.running rows begins) c.in_ok-running-2.ensures.performed.runs in
    record {
      limit = c.in_ok-running-2.ensures.performed.limit ∙ c.loop-phase.invariant.limit;
      asked = subst (λ scripts. AreAsked scripts c.in_ok-running-2.running.stashes.items) same.scripts c.in_ok-running-2.ensures.performed.asked;
      running = λ rows begins. subst (λ n. IsRunning c.args.state.opening rows c.args.work.policy scripts n c.in_ok-running-2.running) one_more (next rows begins);
      shown = λ rows before begins has. subst (λ n. HasShownAfter g.B.Board.has c.args.state.opening rows before n c.in_ok-running-2.running.history.entries c.show_phase.new.board) one_more
          (has_shown c.args.state.opening (book_of rows before) begins.is_book c.args.work.policy scripts begins.few begins.own c.loop-phase._phase c.in_ok-running-2.running
          (next (book_of rows before) begins) c.loop-phase.running.history.entries c.in_ok-running-2.ensures.performed.grown g.B.Board.has c.loop-phase.board rows before refl
          (c.loop-phase.invariant.shown rows before begins has) c.show_phase.new.board c.in_ok-show_phase.ensures.shown);
    }

pub unreachable-requires : goal.unreachable-requires
unreachable-requires g c =
    let few = few_phases_now c.args.state c.args.work.policy c.args.work.scripts.now c.requires.begins c.loop-phase._phase c.loop-phase.running c.loop-phase.invariant.running (some_given c.requires.quotas) in
    omega (arith, few, c.loop-phase-test.false)

pub returns-in_err-running-2-clause-fault : goal.returns-in_err-running-2-clause-fault
returns-in_err-running-2-clause-fault g c =
    err_as c.from_residual-in_err-running-2.result c.in_err-running-2.field-0.0 (IsMet c.args.work.scripts.now) c.from_residual-in_err-running-2.ensures.1
    (subst (λ scripts. IsMet scripts c.in_err-running-2.field-0.0) c.new-plan.ensures.scripts c.in_err-running-2.ensures.fault)

pub returns-in_err-running-clause-board_after_fault : goal.returns-in_err-running-clause-board_after_fault
returns-in_err-running-clause-board_after_fault g c =
    let B = g.B.Board in let scripts = c.args.work.scripts.now in
    err_as c.from_residual.result Memory
    (λ fault. (rows : Book) (before : List (List Row)) → BeginsWith c.args.state (book_of rows before) c.args.work.policy scripts → B.has c.args.board.now c.args.state.opening rows before →
    HasShownFirstAfter B.has B.has_refused c.args.state.opening rows before c.args.work.policy scripts c.args.board.now fault)
    c.from_residual.ensures.1
    (λ rows before begins has. none_shown B.has B.has_refused c.args.state.opening rows before c.args.work.policy scripts c.args.board.now has Memory)

pub returns-in_err-running-2-clause-board_after_fault : goal.returns-in_err-running-2-clause-board_after_fault
returns-in_err-running-2-clause-board_after_fault g c =
    let B = g.B.Board in let scripts = c.args.work.scripts.now in
    let fault = c.in_err-running-2.field-0.0 in
    err_as c.from_residual-in_err-running-2.result fault
    (λ fault. (rows : Book) (before : List (List Row)) → BeginsWith c.args.state (book_of rows before) c.args.work.policy scripts → B.has c.args.board.now c.args.state.opening rows before →
    HasShownFirstAfter B.has B.has_refused c.args.state.opening rows before c.args.work.policy scripts c.loop-phase.board fault)
    c.from_residual-in_err-running-2.ensures.1
    (λ rows before begins has. first_shown B.has B.has_refused c.args.state.opening rows before c.args.work.policy scripts c.loop-phase._phase c.loop-phase.running
    (c.loop-phase.invariant.running (book_of rows before) begins) c.loop-phase.board fault (inl (c.loop-phase.invariant.shown rows before begins has)))

pub returns-in_err-show_phase-clause-board_after_fault : goal.returns-in_err-show_phase-clause-board_after_fault
returns-in_err-show_phase-clause-board_after_fault g c =
    let B = g.B.Board in let scripts = c.args.work.scripts.now in
    err_as c.from_residual-in_err-show_phase.result Memory
    (λ fault. (rows : Book) (before : List (List Row)) → BeginsWith c.args.state (book_of rows before) c.args.work.policy scripts → B.has c.args.board.now c.args.state.opening rows before →
    HasShownFirstAfter B.has B.has_refused c.args.state.opening rows before c.args.work.policy scripts c.show_phase.new.board fault)
    c.from_residual-in_err-show_phase.ensures.1
    (λ rows before begins has. not_shown B.has B.has_refused c.args.state.opening rows before c.args.work.policy scripts c.loop-phase._phase c.loop-phase.running
    (c.loop-phase.invariant.running (book_of rows before) begins) c.loop-phase.board c.show_phase.new.board (c.loop-phase.invariant.shown rows before begins has)
    c.in_err-show_phase.ensures.refused)
