use Rattle.std.proofs.Common.{◌≡◌, ◌++◌, sym, ap, ◌∙◌, subst, arith}
use Rattle.std.specs.Io.KnownBytes.{Appends}
use Rattle.application_log.proofs.LogLemmas.{none_added}
use Rattle.application_log.proofs.commit_log.CommitLog.log_commits.Goals.{then-added-gt0+in_default, else-added-gt0}
use Rattle.application_log.specs.Logs.{log_text, requests_of}
use Rattle.application_log.proofs.commit_log.CommitLog.log_commits.Goals as goal

pub returns-clause-logged : goal.returns-clause-logged
returns-clause-logged g c =
    let log = g.L.Log.accepted in let old = c.args.self.now.log in let line = g.A.Loggable.line in
    let qs = requests_of c.args.history.now in let text = log_text line qs in
    let buffer : c.write_lines.new.buffer.items ≡ text = c.in_ok-added.ensures.text ∙ ap (λ b. b ++ text) c.clear.ensures.items in
    elim c.if-added-gt0.branch [
      | then-added-gt0+in_default w ↦ subst (λ l. Appends (log old) (log l) text) (sym (ap (λ s. s.log) w.self-is))
          (subst (Appends (log old) (log w.put.new.self)) (w.deref.ensures.value ∙ buffer) w.in_default.ensures.accepted)
      | else-added-gt0 w ↦ subst (λ l. Appends (log old) (log l) text) (sym (ap (λ s. s.log) w.self-is))
          (none_added line qs (log old) (omega (arith, w.if-added-gt0.false, c.in_ok-added.ensures.count)))
    ]

pub returns-clause-found : goal.returns-clause-found
returns-clause-found g c same =
    let found = g.L.Log.found in let accepted = g.L.Log.accepted in
    elim c.if-added-gt0.branch [
      | then-added-gt0+in_default w ↦ subst (λ l. found l ≡ accepted l) (sym (ap (λ s. s.log) w.self-is)) w.in_default.ensures.found
      | else-added-gt0 w ↦ subst (λ l. found l ≡ accepted l) (sym (ap (λ s. s.log) w.self-is)) same
    ]

pub returns-clause-few : goal.returns-clause-few
returns-clause-few g c =
    elim c.if-added-gt0.branch [
      | then-added-gt0+in_default w ↦ omega (arith, ap (λ s. s.lines) w.self-is, c.if-added-saturating_sub.false, c.saturating_sub.ensures)
      | else-added-gt0 w ↦ omega (arith, ap (λ s. s.lines) w.self-is, c.if-added-saturating_sub.false, c.saturating_sub.ensures)
    ]

pub returns-then-added-saturating_sub-clause-full : goal.returns-then-added-saturating_sub-clause-full
returns-then-added-saturating_sub-clause-full g c =
    omega (arith, c.if-added-saturating_sub.true, c.saturating_sub.ensures, c.in_ok-added.ensures.count)
