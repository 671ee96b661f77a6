use Rattle.phase_permits.proofs.kinds.Permit+N+SplitPhase.bid_hot.Goals as goal

pub returns-clause-committed : goal.returns-clause-committed
returns-clause-committed g c = c.perform_hot.ensures.committed

pub returns-clause-reply : goal.returns-clause-reply
returns-clause-reply g c = c.perform_hot.ensures.reply
