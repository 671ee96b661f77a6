use Rattle.std.proofs.Common.{List, [], ◌∷◌, reverse}
use Rattle.std.proofs.lemmas.List.Sorted.{IsPermutation-refl, IsPermutation-append, IsPermutation-reverse}
use Rattle.std.specs.List.{Sorted.{IsPermutation}, flat_map}
use Rattle.phase_transactions.specs.Workers.{WorkerState}
use Rattle.worker_slices.specs.Slicing.{slices_in}
use Rattle.closing_laws.specs.Merging.{slices_left}
use Rattle.closing_laws.proofs.slices_may_be_popped.Goals as goal

each_popped : (receipts : List WorkerState) → IsPermutation (slices_left receipts) (flat_map (λ receipt. reverse (slices_in receipt.slices)) receipts)
each_popped [] = IsPermutation-refl []
each_popped (receipt ∷ receipts) =
    IsPermutation-append (slices_in receipt.slices) (reverse (slices_in receipt.slices)) (slices_left receipts) _
    (IsPermutation-reverse (slices_in receipt.slices)) (each_popped receipts)

pub returns : goal.returns
returns c = each_popped
