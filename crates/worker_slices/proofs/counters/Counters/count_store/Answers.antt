use Rattle.std.proofs.Common.{sym, ap}
use Rattle.auction_rows.specs.StoreReplies.{reply_of}
use Rattle.worker_slices.specs.Counting.{counters_after}
use Rattle.worker_slices.proofs.counters.Counters.count_store.Goals as goal

pub returns-in-Refused : goal.returns-in-Refused
returns-in-Refused c = ap (λ reply. counters_after c.args.self.now (reply_of reply)) (sym c.in-Refused.is)
