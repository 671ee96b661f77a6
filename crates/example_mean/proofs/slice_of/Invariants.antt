use Rattle.std.proofs.Common.{◌≡◌, sum, take}
use Rattle.example_mean.proofs.slice_of.Given as goal

-- the slice has the prices before this one
abbrev pub invariant-loop-price : goal.invariant-loop-price
invariant-loop-price l = (l.slice.total ≡ sum (take l.price-index l.prices)) × (l.slice.numbers ≡ l.price-index)
