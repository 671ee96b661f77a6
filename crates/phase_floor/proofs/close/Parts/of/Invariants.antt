use Rattle.std.proofs.Common.{◌≡◌, ◌+◌, ◌≤◌, false, drop, take, length, vec_len, vec_capacity}
use Rattle.std.specs.{List.{AllByRecursion}, Vec.Iter.{into_iter_items, into_iter_len}}
use Rattle.phase_floor.specs.inner.Parts.{ArePartsOf, IsFinished, slices_kept}
use Rattle.phase_floor.proofs.close.Parts.of.Given as goal

abbrev pub invariant-loop-receipt : goal.invariant-loop-receipt
invariant-loop-receipt g l = let all = l.fn.receipts.items in let n = vec_len l.keys in let done = take n all in record {
  count : n + into_iter_len l.receipt-iterator ≡ vec_len l.fn.receipts;
  rest : into_iter_items l.receipt-iterator ≡ drop n all;
  lens : (vec_len l.journals ≡ n) × (vec_len l.stashes ≡ n) × (vec_len l.counters ≡ n);
  room : (vec_len l.fn.receipts ≤ vec_capacity l.journals) × (vec_len l.fn.receipts ≤ vec_capacity l.stashes) × (vec_len l.fn.receipts ≤ vec_capacity l.keys)
      × (vec_len l.fn.receipts ≤ vec_capacity l.counters);
  slices_room : g.K.Kind.IS_JOINED ≡ false → (vec_len l.slices ≡ n) × (vec_len l.fn.receipts ≤ vec_capacity l.slices);
  parts : ArePartsOf done l.journals.items l.stashes.items l.keys.items l.counters.items;
  slices : l.slices.items ≡ slices_kept g.K.Kind.IS_JOINED done;
  finished : AllByRecursion (IsFinished (length g.N.PhaseName.initial)) done;
}
