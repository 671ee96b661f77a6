use Rattle.std.proofs.{Common.{◌<◌, ◌∙◌, length, ap, arith}, lemmas.List.{get_or_read}}
use Rattle.phase_transactions.specs.Workers.{no_counters}
use Rattle.closing_laws.specs.Standing.{counters_at, stores}
use Rattle.phase_floor.specs.States.{JoinedState}
use Rattle.phase_floor.proofs.joined.Joined.stored_by.Goals as goal

pub returns-clause-stored : goal.returns-clause-stored
returns-clause-stored c =
    let below : c.args.worker < length c.self.inside.counters.items = omega (arith, c.requires, ap (λ (s : JoinedState). length s.counters) c.self.view_is) in
    let read = get_or_read c.self.inside.counters.items c.args.worker c.index.result.now below c.index.ensures no_counters in
    c.stores.ensures ∙ ap stores read ∙ ap (λ (s : JoinedState). stores (counters_at s.counters c.args.worker)) c.self.view_is
