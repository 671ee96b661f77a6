-- Counters as their model has them, and why additions may be done on slices.
use Rattle.std.proofs.Common.{true≢false, refl, sym, arith}
use Rattle.std.{proofs.Math.Nat.{add_assoc, add_right_comm, add-zero}, specs.List.{AllByRecursion}}
use Rattle.std.specs.Prelude.{◌≡◌, ℕ, ◌+◌, ◌*◌, ◌≤◌, min, Bool, true, false, List, [], ◌∷◌}
use Rattle.split_engine.specs.{Rules.{Rules, SplitLaws}, declared.entry.Decision.{Decision}}
use Rattle.application_tests.specs.declared.counters.CounterReply.{CounterReply}
use Rattle.application_tests.specs.declared.counters.CounterReply.TheVariants.{Added, Shows, Refused}
use Rattle.application_tests.specs.declared.counters.CounterRequest.{CounterRequest}
use Rattle.application_tests.specs.declared.counters.CounterRequest.TheVariants.{Add, Read, Least, Unknown}

abbrev pub decided : CounterReply → List ℕ → Decision CounterReply ℕ
decided reply acts = record { reply = reply; acts = acts }

abbrev pub keys : CounterRequest → List ℕ
keys (Add to by) = to.0 ∷ to.1 ∷ []
keys (Read counter) = counter ∷ []
keys (Least first second third fourth) = first ∷ second ∷ third ∷ fourth ∷ []
keys Unknown = []

abbrev pub splits : CounterRequest → Bool
splits (Add to by) = true
splits (Read counter) = false
splits (Least first second third fourth) = false
splits Unknown = false

abbrev pub decide : CounterRequest → (ℕ → ℕ) → Decision CounterReply ℕ
decide (Add to by) counters = decided Added (by ∷ by ∷ [])
decide (Read counter) counters = decided (Shows (counters 0)) []
decide (Least first second third fourth) counters =
    decided (Shows (min (min (counters 0) (counters 1)) (min (counters 2) (counters 3)))) []
decide Unknown counters = decided Refused []

abbrev pub counters : Rules ℕ ℕ ℕ CounterRequest CounterReply ℕ
counters = record {
  keys = keys;
  splits = splits;
  blank = 0;
  look = λ a. a;
  fixed = λ _. 0;
  decide = decide;
  applied = ◌+◌;
  is_splittable = λ _. true;
  empty = 0;
  sliced = ◌+◌;
  merged = ◌+◌;
}

-- the greatest u32 at most n times
abbrev pub IsMadeBy : ℕ → ℕ → Type 0
IsMadeBy n a = a ≤ n * 4294967295

abbrev pub IsWord : ℕ → Type 0
IsWord by = by ≤ 4294967295

by_fixed : (q : CounterRequest) (looks : ℕ → ℕ) → splits q ≡ true →
    decide q (λ _. 0) ≡ decide q looks
by_fixed (Add to by) looks h = refl
by_fixed (Read counter) looks h = absurd (true≢false (sym h))
by_fixed (Least first second third fourth) looks h = absurd (true≢false (sym h))
by_fixed Unknown looks h = absurd (true≢false (sym h))

acts_split : (acts : List ℕ) → AllByRecursion (λ _. true ≡ true) acts
acts_split [] = tt
acts_split (x ∷ xs) = (refl, acts_split xs)

pub counter_laws : SplitLaws counters IsMadeBy IsMadeBy IsWord
counter_laws = record {
  merge_nothing = λ n a _. add-zero a;
  merge_one_more = λ a s x _. sym (add_assoc a s x);
  commute = λ a x y _ _. add_right_comm a x y;
  keeps_fixed = λ a x _. refl;
  by_fixed = by_fixed;
  acts_split = λ q looks _. acts_split (decide q looks).acts;
  fits_more = λ n m a le h. omega (arith, le, h);
  fits_after = λ n a x small h. omega (arith, small, h);
  fits_merged = λ n m a s h g. omega (arith, h, g);
  slice_fits_none = omega arith;
  slice_fits_more = λ n m s le h. omega (arith, le, h);
  slice_fits_after = λ n s x small h. omega (arith, small, h);
}
