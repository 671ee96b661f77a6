use Rattle.std.proofs.Common.{arith, ◌≡◌, ◌<◌, ◌∙◌, ℕ, Some, true, ap, nat_lt, refl, sym}
use Rattle.std.proofs.lemmas.Bool.Decides.{nat_tests}
use Rattle.record_reading.specs.{Fields.{number}, Records.{below}}
use Rattle.record_reading.proofs.record.worker_of.Goals as goal

below_is : (workers worker : ℕ) → worker < workers → below workers (Some worker) ≡ Some worker
below_is workers worker within = let test : nat_lt worker workers ≡ true = grind (arith, nat_tests) in rw test refl

pub returns-then-worker-workers : goal.returns-then-worker-workers
returns-then-worker-workers c =
    let workers = c.args.workers in
    sym (below_is workers c.in_ok-worker.worker c.if-worker-workers.true) ∙ ap (below workers) (sym c.in_ok-worker.was ∙ c.read_u32.ensures ∙ ap (number 32) c.field_of.ensures)
