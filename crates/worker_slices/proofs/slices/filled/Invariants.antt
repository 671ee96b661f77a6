use Rattle.std.proofs.Common.{◌≡◌, take, []}
use Rattle.worker_slices.specs.{Guessing.{AreGuessed}, Slicing.{hot_objects, slices_of}}
use Rattle.worker_slices.proofs.slices.filled.Given as goal

-- the slices of the objects so far, which are noted
abbrev pub invariant-loop-object : goal.invariant-loop-object
invariant-loop-object l = record {
  slices : l.slices.entries ≡ slices_of (take l.object-index l.hot) [];
  guessed : AreGuessed l.guesses.places (hot_objects l.slices.entries);
}
