-- What views give of a copy, and what is made of readers.
use denote.Ref.{Bor}
use Rattle.std.specs.{Fn.{Once, Shared, FnOnceReturnsAt}, Prelude.{Option, Some}}

-- a view may give this of some copy
abbrev pub IsGivenBy : {F T V : Type 0} → Once F (Bor T × Unit {0}) (Option V) → F → V → Type 0
IsGivenBy {F} {T} g view seen = (copy : T) × FnOnceReturnsAt g view copy (Some seen)

-- this may be made of some reader
abbrev pub IsMadeBy : {F X W : Type 0} → Shared F (X × Unit {0}) W → F → W → Type 0
IsMadeBy {F} {X} g make made = (reader : X) × g.post make (reader, tt) made
