use Rattle.std.{proofs.Common.{length, ap, sym, ◌∙◌, subst, IfOk}, specs.List.{AllByRecursion}}
use Rattle.job_threads.proofs.ThreadLemmas.{err_as}
use Rattle.split_engine.proofs.Counts.{unstarted, split_room, all_next_in}
use Rattle.split_engine.proofs.States.{same_table, state_worked, zip_map}
use Rattle.split_engine.specs.{Faults.{IsRunFault, fault_of_jobs}, Serving.{lists, IsScript}}
use Rattle.split_engine.specs.declared.state.TheConstants.{MOST_COMMITS}
use Rattle.split_engine.specs.inner.Assignments.{assignment, assignments, HasDone}
use Rattle.split_engine.proofs.phases.split_phase.Goals as goal

pub take_in_all-requires-clause-fits : goal.take_in_all-requires-clause-fits
take_in_all-requires-clause-fits g c = let given = c.requires.state in (given.0, given.2, given.4.fits)

pub take_in_all-requires-clause-done : goal.take_in_all-requires-clause-done
take_in_all-requires-clause-done g c =
    let s = g.A.Application in let given = c.requires.state in let scripts = lists c.args.scripts.now in
    let table = c.args.state.so_far.table.items in let history = c.args.state.so_far.history in
    let cursors = c.args.state.cursors.items in let hot = c.args.plan.hot.now in let quota = c.args.plan.quota in (
      assignments table hot quota 0 scripts cursors,
      split_room s.rules s.fits given.0 given.1 scripts table history cursors hot quota MOST_COMMITS c.requires.total given.4,
      all_next_in s.rules (length given.1) 0 table hot quota scripts cursors history given.4.served,
      same_table table hot quota 0 scripts cursors,
      zip_map c.in_ok-tasks.tasks.items c.in_ok-answers.answers.items _
          (λ task. assignment task.phase.table.now task.phase.plan.hot.now task.worker task.script.now task.phase.plan.quota task.start.cursor)
          (λ a answer. IfOk answer (λ own. HasDone s.rules s.is_small a own.cursor own.journal.items own.slices))
          (c.in_ok-tasks.ensures.tasks ∙ ap (λ t. assignments t c.args.plan.hot.now c.args.plan.quota 0 scripts c.args.state.cursors.items) c.deref.ensures.value)
          c.in_ok-answers.ensures.answers,
    )

pub returns-clause-state : goal.returns-clause-state
returns-clause-state g c = λ n opened few all f.
    let s = g.A.Application in let scripts = lists c.args.scripts.now in
    let table = c.args.state.so_far.table.items in let history = c.args.state.so_far.history in
    let cursors = c.args.state.cursors.items in let hot = c.args.plan.hot.now in let quota = c.args.plan.quota in
    let new = c.in_ok-take_in_all.field-0 in
    let here = subst (λ m. AllByRecursion (IsScript s.rules m) scripts) (sym f.size_is) all in
    let closed = c.in_ok-take_in_all.ensures (assignments table hot quota 0 scripts cursors)
    (all_next_in s.rules (length opened) 0 table hot quota scripts cursors history f.served)
    (same_table table hot quota 0 scripts cursors)
    (zip_map c.in_ok-tasks.tasks.items c.in_ok-answers.answers.items _
    (λ task. assignment task.phase.table.now task.phase.plan.hot.now task.worker task.script.now task.phase.plan.quota task.start.cursor)
    (λ a answer. IfOk answer (λ own. HasDone s.rules s.is_small a own.cursor own.journal.items own.slices))
    (c.in_ok-tasks.ensures.tasks ∙ ap (λ t. assignments t c.args.plan.hot.now c.args.plan.quota 0 scripts c.args.state.cursors.items) c.deref.ensures.value)
    c.in_ok-answers.ensures.answers) in
    let laws = (g.met.A.Application g.world.𝓛 g.world.𝓜 g.world.𝓡 ((λ s x. x), (λ x. x), (λ x. x), λ x. x)).laws in
    state_worked s.rules s.fits s.slice_fits s.is_small laws table hot quota n opened scripts new.so_far.table.items history new.so_far.history
    cursors new.cursors.items closed.journals here f closed.worked closed.merged closed.size_is closed.history_is (closed.fits n f.fits)

pub returns-in_err-answers-clause-fault : goal.returns-in_err-answers-clause-fault
returns-in_err-answers-clause-fault g c =
    let workers = length c.args.scripts.now in let fault = c.in_err-answers.field-0.0 in
    err_as c.from_residual-in_err-answers.result (fault_of_jobs fault) (IsRunFault workers) c.from_residual-in_err-answers.ensures.1
    (unstarted (length c.in_ok-tasks.tasks.items) workers fault c.in_ok-tasks.ensures.len c.in_err-answers.ensures.fault)
