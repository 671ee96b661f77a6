use Rattle.std.{proofs.Common.{◌≡◌, ◌+◌, ℕ, length, drop}, specs.List.{zip, AllByRecursion}}
use Rattle.split_engine.specs.Splitting.{after_slice_acts}
use Rattle.split_engine.proofs.split.act_all.Given as goal

abbrev pub invariant-loop-place : goal.invariant-loop-place
invariant-loop-place g l = let s = g.A.Application in record {
  rest : after_slice_acts s.rules l.slices (drop l.place (zip l.keys l.acts)) ≡ after_slice_acts s.rules l.fn.slices (zip l.keys l.acts);
  len : length l.slices ≡ length l.fn.slices;
  fits : (n : ℕ) → AllByRecursion (s.slice_fits n) l.fn.slices → AllByRecursion (s.slice_fits (n + l.place)) l.slices;
}
