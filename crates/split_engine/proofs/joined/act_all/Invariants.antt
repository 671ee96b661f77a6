use Rattle.std.{proofs.Common.{◌≡◌, ◌+◌, ℕ, length, drop}, specs.List.{zip, AllByRecursion}}
use Rattle.split_engine.specs.Serial.{after_acts}
use Rattle.split_engine.proofs.joined.act_all.Given as goal

abbrev pub invariant-loop-place : goal.invariant-loop-place
invariant-loop-place g l = let s = g.A.Application in record {
  rest : after_acts s.rules l.table.items (drop l.place (zip l.keys l.acts)) ≡ after_acts s.rules l.fn.table.items (zip l.keys l.acts);
  len : length l.table.items ≡ length l.fn.table.items;
  fits : (n : ℕ) → AllByRecursion (s.fits n) l.fn.table.items → AllByRecursion (s.fits (n + l.place)) l.table.items;
}
