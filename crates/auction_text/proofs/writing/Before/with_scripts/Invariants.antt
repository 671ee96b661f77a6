use Rattle.auction_text.proofs.MovedLemmas.{Counted}
use Rattle.auction_text.proofs.writing.Before.with_scripts.Given as goal

abbrev pub invariant-loop-worker : goal.invariant-loop-worker
invariant-loop-worker l = Counted l.initial.requests l.scripts l.requests l.worker
