use Rattle.std.proofs.Common.{◌≡◌, ◌∙◌, OnOk, ap, refl, subst, sym, take}
use Rattle.std.specs.Option.{option_map}
use Rattle.part_log.proofs.KeptLemmas.{cut_found, cut_kept, cut_twice, not_cut}
use Rattle.part_log.proofs.file_log.FileLog.take_back.Goals.{in-Ok, in-Err}
use Rattle.part_log.specs.Files.{LogState}
use Rattle.part_log.proofs.file_log.FileLog.take_back.Goals as goal

pub invariant_of-self : goal.invariant_of-self
invariant_of-self g c =
    let F = g.F.AppendFile in let log = c.self.inside in let new = c.cut.new.self in
    elim c.match-cut.branch [
      | in-Ok w ↦ cut_kept (F.held log.file) (F.synced log.file) (F.held new) (F.synced new) log.kept log.has_ended c.self.invariant.0 c.self.invariant.1 w.in-Ok.ensures.cut w.in-Ok.ensures.cut_synced
      | in-Err w ↦ not_cut (F.held log.file) (F.synced log.file) (F.held new) (F.synced new) log.kept log.has_ended c.self.invariant.0 c.self.invariant.1 (w.in-Err.ensures.kept refl) (w.in-Err.ensures.kept_synced refl)
    ]

pub returns-clause-taken : goal.returns-clause-taken
returns-clause-taken g c =
    let F = g.F.AppendFile in let log = c.self.inside in let new = c.cut.new.self in
    elim c.match-cut.branch [
      | in-Ok w ↦ subst (λ r. OnOk r (F.held new ≡ option_map (take log.kept) (F.synced new))) (sym w.result-is)
          (cut_found (F.held log.file) (F.synced log.file) (F.held new) (F.synced new) log.kept log.has_ended c.self.invariant.0 c.self.invariant.1 w.in-Ok.ensures.cut w.in-Ok.ensures.cut_synced)
      | in-Err w ↦ subst (λ r. OnOk r (F.held new ≡ option_map (take log.kept) (F.synced new))) (sym w.result-is) tt
    ]

pub returns-clause-accepted : goal.returns-clause-accepted
returns-clause-accepted g c =
    let log = c.self.inside in let was = ap (λ (state : LogState). state.accepted) c.self.view_is in
    elim c.match-cut.branch [
      | in-Ok w ↦ ap (option_map (take log.kept)) w.in-Ok.ensures.cut_synced ∙ cut_twice log.kept (g.F.AppendFile.synced log.file) ∙ was
      | in-Err w ↦ ap (option_map (take log.kept)) (w.in-Err.ensures.kept_synced refl) ∙ was
    ]
