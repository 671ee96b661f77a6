-- What the workers of a phase give, and the first fault that one of them met.
use Rattle.std.specs.Prelude.{List, [], ◌∷◌, Result, Ok}
use Rattle.std.specs.Result.{result_and}
use Rattle.phase_transactions.specs.declared.fault.PermitFault.{PermitFault}
use Rattle.phase_workers.specs.declared.round.WorkerAnswer.{WorkerAnswer}

-- the receipt of a worker
abbrev pub receipt_in : {T : Type 0} → WorkerAnswer T → T
receipt_in answer = answer.receipt

-- what all have done: the fault of the least worker that met one, if any
abbrev pub done_by_all : {T : Type 0} → List (WorkerAnswer T) → Result Unit PermitFault
done_by_all [] = Ok tt
done_by_all (answer ∷ more) = result_and answer.done (done_by_all more)
