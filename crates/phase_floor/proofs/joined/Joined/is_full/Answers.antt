use Rattle.std.proofs.{Common.{◌<◌, length, ap, ◌∙◌, arith}, lemmas.Bool.{le-leb, leb-true}}
use Rattle.std.proofs.lemmas.List.{get_or_read}
use Rattle.worker_slices.specs.declared.counters.Counters.{Counters}
use Rattle.phase_transactions.specs.Workers.{no_counters}
use Rattle.closing_laws.specs.Standing.{counters_at}
use Rattle.phase_floor.specs.States.{JoinedState}
use Rattle.phase_floor.proofs.joined.Joined.is_full.Goals as goal

pub returns : goal.returns
returns c =
    let below : c.args.worker < length c.self.inside.counters.items = omega (arith, c.requires, ap (λ (s : JoinedState). length s.counters) c.self.view_is) in
    let read = get_or_read c.self.inside.counters.items c.args.worker c.index.result.now below c.index.ensures no_counters in
    let commits = ap (λ (counters : Counters). counters.commits) read ∙ ap (λ (s : JoinedState). (counters_at s.counters c.args.worker).commits) c.self.view_is in
    let limit = ap (λ (s : JoinedState). s.limit) c.self.view_is in (
      (λ full. let passed = leb-true c.self.inside.limit c.index.result.now.commits full in omega (arith, passed, commits, limit)),
      (λ past. le-leb c.self.inside.limit c.index.result.now.commits (omega (arith, past, commits, limit))),
    )
