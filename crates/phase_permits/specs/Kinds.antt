-- What the kind of a phase says of what is hot.
use Rattle.std.specs.Prelude.{◌≡◌, Bool, true, false, List, [], ⊤}
use Rattle.auction_rows.specs.{Footprint.{is_hot}, declared.requests.Object.{Object}}
use Rattle.phase_transactions.specs.Workers.{WorkerState}
use Rattle.worker_slices.specs.Slicing.{hot_objects}

-- there are none in a joined phase
abbrev pub IsEmptyIf : {A : Type 0} → Bool → List A → Type 0
IsEmptyIf true items = items ≡ []
IsEmptyIf false items = ⊤

-- the object is one of the slices'
abbrev pub IsHot : WorkerState → Object → Type 0
IsHot w object = is_hot (hot_objects w.slices) object ≡ true
