use Rattle.std.proofs.Common.{◌≡◌, ◌+◌, ◌≤◌, ◌++◌, map, vec_len, vec_capacity}
use Rattle.std.specs.{Result.{result_and}, Vec.Iter.{into_iter_items, into_iter_len}}
use Rattle.phase_workers.specs.inner.Answers.{done_by_all, receipt_in}
use Rattle.phase_workers.proofs.round.receipts_of.Given as goal

-- the receipts so far are taken, and the first fault so far is known
abbrev pub invariant-loop-answer : goal.invariant-loop-answer
invariant-loop-answer g l =
    (l.receipts.items ++ map receipt_in (into_iter_items l.answer-iterator) ≡ map receipt_in l.fn.answers.items)
    × (result_and l.done (done_by_all (into_iter_items l.answer-iterator)) ≡ done_by_all l.fn.answers.items)
    × (vec_len l.receipts + into_iter_len l.answer-iterator ≤ vec_capacity l.receipts)
