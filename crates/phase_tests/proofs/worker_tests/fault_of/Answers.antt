use Rattle.std.proofs.Common.{List, [], ◌∷◌, length, sym, ap, subst, arith}
use Rattle.std.specs.List.{AllByRecursion}
use Rattle.auction_rows.specs.declared.requests.Request.{Request}
use Rattle.phase_transactions.specs.Workers.{WorkerState}
use Rattle.phase_workers.specs.{Tasks.{tasks, CanBeDone}, Working.{ArePermitsOf}}
use Rattle.phase_tests.proofs.worker_tests.fault_of.Goals as goal

pub serve_all-served-requires-clause-workers : goal.serve_all-served-requires-clause-workers
serve_all-served-requires-clause-workers g c = λ lifetimes within. omega (arith, ap length c.list_of.ensures, ap length c.requires.scripts, c.list_of.result.ok.0)

pub serve_all-served-requires-clause-can : goal.serve_all-served-requires-clause-can
serve_all-served-requires-clause-can g c = λ lifetimes within.
    subst (λ (ps : List WorkerState). AllByRecursion (CanBeDone g.N.PhaseName.initial c.args.boxes.now) (tasks ps c.args.scripts.now 0)) (sym c.list_of.ensures)
    (subst (λ (ss : List (List Request)). AllByRecursion (CanBeDone g.N.PhaseName.initial c.args.boxes.now) (tasks (c.args.permit ∷ []) ss 0)) (sym c.requires.scripts) (c.requires.can, tt))

pub serve_all-served-requires-clause-of : goal.serve_all-served-requires-clause-of
serve_all-served-requires-clause-of g c = λ lifetimes within. subst (ArePermitsOf 0 0) (sym c.list_of.ensures) (c.requires.of, tt)
