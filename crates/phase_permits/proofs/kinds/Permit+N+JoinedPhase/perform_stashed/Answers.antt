use Rattle.std.proofs.Common.{◌<◌, length, sym, ◌≡◌, Some, subst}
use Rattle.phase_transactions.specs.Workers.{with_first_unstashed, WorkerState, last_reply, with_try}
use Rattle.phase_permits.proofs.{LastLemmas.{some_entry, as_read}, RightLemmas.{first_reply_read}}
use Rattle.phase_permits.proofs.kinds.Permit+N+JoinedPhase.perform_stashed.Goals.{then-branch, else-branch}
use Rattle.phase_permits.proofs.kinds.Permit+N+JoinedPhase.perform_stashed.Goals as goal

pub returns-clause-reply : goal.returns-clause-reply
returns-clause-reply g c = elim c.if-branch.branch [
  | then-branch w ↦
      rw w.result-is
      (first_reply_read g.N.PhaseName.initial (with_try c.args.self.now) c.commit_stashed.new.self w.last_reply.result (c.in_ok-commit_stashed.ensures.performed w.if-branch.true)
      (subst (λ (s : WorkerState). last_reply s.journal.entries ≡ Some w.last_reply.result) c.self.view_is w.last_reply.ensures))
  | else-branch w ↦ rw w.result-is tt
]

pub last_reply-requires : goal.last_reply-requires
last_reply-requires g c =
    let done = c.in_ok-commit_stashed.ensures.performed c.if-branch.true in
    subst (λ (s : WorkerState). 0 < length s.journal.entries) (sym c.self.view_is)
    (some_entry g.N.PhaseName.initial (with_first_unstashed (with_try c.args.self.now)) c.commit_stashed.new.self done.1.request done.1.index done.0 done.1.committed)

pub returns-clause-none : goal.returns-clause-none
returns-clause-none g c = elim c.if-branch.branch [
  | then-branch w ↦ rw w.result-is tt
  | else-branch w ↦ rw w.result-is (c.in_ok-commit_stashed.ensures.none w.if-branch.false)
]

pub returns-clause-unchanged : goal.returns-clause-unchanged
returns-clause-unchanged g c = elim c.if-branch.branch [
  | then-branch w ↦ rw w.result-is tt
  | else-branch w ↦ rw w.result-is (c.in_ok-commit_stashed.ensures.unchanged w.if-branch.false)
]

pub returns-clause-performed : goal.returns-clause-performed
returns-clause-performed g c = elim c.if-branch.branch [
  | then-branch w ↦
      let done = c.in_ok-commit_stashed.ensures.performed w.if-branch.true in
      rw w.result-is
      (record {
        index = done.1.index;
        request = done.1.request;
        first = done.1.first;
        committed = as_read g.N.PhaseName.initial (with_first_unstashed (with_try c.args.self.now)) c.commit_stashed.new.self done.1.request done.1.index done.0 done.1.committed w.last_reply.result
            (subst (λ (s : WorkerState). last_reply s.journal.entries ≡ Some w.last_reply.result) c.self.view_is w.last_reply.ensures);
      })
  | else-branch w ↦ rw w.result-is tt
]
