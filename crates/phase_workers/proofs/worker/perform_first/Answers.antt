use Rattle.std.proofs.{Common.{◌≡◌, Bool, true, false, [], sym, subst}, lemmas.Result.{IfOk-at_ok}}
use Rattle.phase_permits.specs.Dealing.{HasPerformedFirstSome}
use Rattle.phase_transactions.specs.Workers.{with_try}
use Rattle.phase_workers.proofs.WorkLemmas.{first_performed}
use Rattle.phase_workers.specs.inner.Steps.{HasPerformedWaiting}
use Rattle.phase_workers.proofs.worker.perform_first.Goals as goal

pub returns-clause-performed : goal.returns-clause-performed
returns-clause-performed g c =
    let initial = g.N.PhaseName.initial in let old = c.args.permit.now in
    let new = c.commit_stashed-done.new.self in let done = c.commit_stashed-done.ensures in
    subst (λ (b : Bool). HasPerformedWaiting b old new) (sym c.requires.joined)
    (first_performed initial old new c.in_ok-done.field-0
    (IfOk-at_ok (λ (some : Bool). some ≡ false → old.stash.requests ≡ []) c.in_ok-done.was done.none)
    (IfOk-at_ok (λ (some : Bool). some ≡ false → new ≡ with_try old) c.in_ok-done.was done.unchanged)
    (IfOk-at_ok (λ (some : Bool). some ≡ true → HasPerformedFirstSome initial (with_try old) new) c.in_ok-done.was done.performed))
