use Rattle.std.proofs.Common.{sym}
use Rattle.phase_transactions.proofs.worker.Worker.transact.Goals as goal

pub store-requires-clause-asks : goal.store-requires-clause-asks
store-requires-clause-asks g c = sym c.in-Store.ensures

pub show-requires-clause-view : goal.show-requires-clause-view
show-requires-clause-view g c = sym c.in-View.ensures
