use Rattle.std.{proofs.Common.{◌∙◌, false, ap, subst, sym, take}, specs.Option.{option_map}}
use Rattle.part_log.{proofs.KeptLemmas.{cut_holds, cut_twice}, specs.Files.{IsKeptIn}}
use Rattle.part_log.proofs.file_log.FileLog.open.Goals as goal

pub invariant_of-result : goal.invariant_of-result
invariant_of-result g c =
    let kept = c.args.kept in let held = c.sync.ensures.held ∙ c.in_ok-cut.ensures.cut in
    (subst (λ h. IsKeptIn h kept false) (sym held) (cut_holds (g.F.AppendFile.held c.args.file) kept false c.requires), ap (option_map (take kept)) (sym c.in_ok-sync.ensures.synced))

pub returns-clause-found : goal.returns-clause-found
returns-clause-found g c =
    let kept = c.args.kept in let held = c.sync.ensures.held ∙ c.in_ok-cut.ensures.cut in
    held ∙ sym (cut_twice kept (g.F.AppendFile.held c.args.file)) ∙ ap (option_map (take kept)) (sym held ∙ sym c.in_ok-sync.ensures.synced)
