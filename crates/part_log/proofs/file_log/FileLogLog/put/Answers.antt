use Rattle.std.proofs.{Common.{◌∙◌, refl, subst, sym, take}, lemmas.Bool.{false≢true}}
use Rattle.std.specs.{Io.KnownBytes.{Appends}, Option.{option_map}}
use Rattle.part_log.{proofs.KeptLemmas.{accepted_more, grown}, specs.Files.{IsKeptIn, LogState}}
use Rattle.part_log.proofs.file_log.FileLogLog.put.Goals as goal

pub returns-clause-accepted : goal.returns-clause-accepted
returns-clause-accepted g c =
    let F = g.F.AppendFile in let log = c.self.inside in let new = c.sync.new.self in
    let bytes = c.args.bytes.now in
    subst (λ (state : LogState). Appends state.accepted (option_map (take c.in-Some.kept) (F.synced new)) bytes) c.self.view_is
    (subst (λ kept. Appends (option_map (take log.kept) (F.synced log.file)) (option_map (take kept) (F.synced new)) bytes) (sym c.in-Some.ensures.1)
    (accepted_more (F.held log.file) (F.synced log.file) (F.held new) (F.synced new) log.kept bytes
    (subst (λ ended. IsKeptIn (F.held log.file) log.kept ended) c.if-self.false c.self.invariant.0) c.self.invariant.1 (c.sync.ensures.held ∙ c.in_default-append.ensures.whole) c.in_default-sync.ensures.synced))

pub invariant_of-self-in-Err-sync : goal.invariant_of-self-in-Err-sync
invariant_of-self-in-Err-sync g c =
    let F = g.F.AppendFile in let log = c.self.inside in let new = c.sync.new.self in
    let appended = c.in_default-append.ensures in let unsynced = c.in-Err-sync.ensures in
    let more = grown (F.held log.file) (F.synced log.file) (F.held new) (F.synced new) log.kept log.has_ended c.self.invariant.0 c.self.invariant.1
    c.args.bytes.now (unsynced.held ∙ appended.whole) (unsynced.kept refl ∙ appended.synced) in
    ((more.0, λ goes_on. absurd (false≢true (sym goes_on))), more.1)
