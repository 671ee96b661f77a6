use Rattle.std.proofs.Common.{◌≤◌, length, vec_capacity, sym, subst, ◌∙◌}
use Rattle.job_threads.proofs.ThreadLemmas.{err_as}
use Rattle.job_threads.specs.Threads.{IsUnstarted}
use Rattle.phase_workers.proofs.TaskLemmas.{as_many, all_done, all_received, first_stopped, unstarted_by, tasks_of_few}
use Rattle.phase_workers.specs.Tasks.{task, tasks}
use Rattle.phase_workers.proofs.round.serve_all.Goals as goal

pub receipts_of-requires-clause-room : goal.receipts_of-requires-clause-room
receipts_of-requires-clause-room g c =
    let answered = as_many (λ own. task own.permit own.script.now own.first) g.K.Kind.IS_JOINED g.N.PhaseName.initial
    c.in_ok-own_tasks.own_tasks.items c.in_ok-answers.answers.items c.in_ok-answers.ensures.answers in
    subst (λ n. n ≤ vec_capacity c.in_ok-room.room) (sym (c.in_ok-answers.answers.ok.0 ∙ answered ∙ sym c.in_ok-own_tasks.own_tasks.ok.0 ∙ sym c.len.ensures)) c.in_ok-room.ensures.capacity

pub returns-clause-receipts : goal.returns-clause-receipts
returns-clause-receipts g c =
    all_received (λ own. task own.permit own.script.now own.first) g.K.Kind.IS_JOINED g.N.PhaseName.initial
    c.in_ok-own_tasks.own_tasks.items c.in_ok-answers.answers.items c.receipts_of.result.0.items c.receipts_of.result.1 (tasks c.args.permits.items c.args.round.scripts.now c.args.round.first)
    c.in_ok-answers.ensures.answers c.receipts_of.ensures.receipts c.receipts_of.ensures.done c.in_ok-own_tasks.ensures.tasks

pub returns-clause-done : goal.returns-clause-done
returns-clause-done g c =
    all_done (λ own. task own.permit own.script.now own.first) g.K.Kind.IS_JOINED g.N.PhaseName.initial
    c.in_ok-own_tasks.own_tasks.items c.in_ok-answers.answers.items c.receipts_of.result.0.items c.receipts_of.result.1 (tasks c.args.permits.items c.args.round.scripts.now c.args.round.first)
    c.in_ok-answers.ensures.answers c.receipts_of.ensures.receipts c.receipts_of.ensures.done c.in_ok-own_tasks.ensures.tasks

pub returns-clause-stopped : goal.returns-clause-stopped
returns-clause-stopped g c =
    first_stopped (λ own. task own.permit own.script.now own.first) g.K.Kind.IS_JOINED g.N.PhaseName.initial
    c.in_ok-own_tasks.own_tasks.items c.in_ok-answers.answers.items c.receipts_of.result.0.items c.receipts_of.result.1 (tasks c.args.permits.items c.args.round.scripts.now c.args.round.first)
    c.in_ok-answers.ensures.answers c.receipts_of.ensures.receipts c.receipts_of.ensures.done c.in_ok-own_tasks.ensures.tasks

pub returns-in_err-answers-clause-fault : goal.returns-in_err-answers-clause-fault
returns-in_err-answers-clause-fault g c =
    let few = tasks_of_few (λ own. task own.permit own.script.now own.first) c.in_ok-own_tasks.own_tasks.items c.args.permits.items c.args.round.scripts.now c.args.round.first
    c.in_ok-own_tasks.ensures.tasks in
    err_as c.from_residual-in_err-answers.result c.in_err-answers.field-0.0 (IsUnstarted (length c.args.round.scripts.now)) c.from_residual-in_err-answers.ensures.1
    (unstarted_by (length c.in_ok-own_tasks.own_tasks.items) (length c.args.round.scripts.now) c.in_err-answers.field-0.0 few c.in_err-answers.ensures.fault)
