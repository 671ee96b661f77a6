use Rattle.std.{proofs.Common.{◌≡◌, ◌<◌, ℕ, false, Some}, specs.Prelude.{slice_get}}
use Rattle.application_check.proofs.marks.unmarked_in.Given as goal

abbrev pub invariant-loop-index : goal.invariant-loop-index
invariant-loop-index l = (i : ℕ) → i < l.index → slice_get l.row i ≡ Some false → ⊥
