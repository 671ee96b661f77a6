use Rattle.std.proofs.Common.{sym, subst}
use Rattle.phase_transactions.specs.Workers.{CanStart, new_worker}
use Rattle.phase_permits.proofs.kinds.Permit+N+JoinedPhase.new.Goals as goal

pub from_start-requires-clause-can : goal.from_start-requires-clause-can
from_start-requires-clause-can g c = subst (λ slices. CanStart (new_worker c.args.key c.args.opening c.args.counters c.args.journal c.args.stash slices c.args.quota c.args.clock)) (sym c.none-slices.ensures) c.requires
