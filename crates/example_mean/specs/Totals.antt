-- The sum of numbers and how many they are: what slices of them keep.
use Rattle.std.proofs.Common.{refl, sym, ap₂, ◌∙◌}
use Rattle.std.proofs.Math.Nat.{add_assoc, add_comm, add_right_comm, add-zero}
use Rattle.std.proofs.{Math.Numerals.{suc-eq-add-one}, lemmas.List.{length-append}}
use Rattle.std.proofs.lemmas.List.Sorted.{length_permutation, sum_by-IsPermutation}
use Rattle.std.proofs.lemmas.List.Sums.{sum_by-cons, sum_by-append}
use Rattle.std.specs.Prelude.{◌+◌, ◌<◌, ◌^◌, ℕ, List, length, sum}
use Rattle.phase_laws.specs.Merging.{SliceLaws}
use Rattle.split_records.specs.Laws.{ValueLaws}

pub record Totals : Type 0 where
  pub total : ℕ
  pub numbers : ℕ

abbrev totals : ℕ → ℕ → Totals
totals total numbers = record { total = total; numbers = numbers }

-- of no number
abbrev pub nothing : Totals
nothing = totals 0 0

-- after one more
abbrev pub after : Totals → ℕ → Totals
after a x = totals (a.total + x) (a.numbers + 1)

-- of the numbers of both
abbrev pub together : Totals → Totals → Totals
together a b = totals (a.total + b.total) (a.numbers + b.numbers)

-- of a list, by a definition that knows no slices
abbrev pub totals_of : List ℕ → Totals
totals_of numbers = totals (sum numbers) (length numbers)

-- each of the two fits a word
abbrev pub Fits : Totals → Type 0
Fits a = (a.total < 2 ^ 64) × (a.numbers < 2 ^ 64)

-- slices may be changed apart and merged
pub mean_laws : SliceLaws (λ _. Unit {0}) nothing after together
mean_laws = record {
  identity_is_record = tt;
  apply_keeps_record = λ a x _. tt;
  merge_keeps_record = λ a b _ _. tt;
  applications_commute = λ a x y. ap₂ totals (add_right_comm a.total x y) refl;
  merge_associative = λ a b c. ap₂ totals (add_assoc a.total b.total c.total) (add_assoc a.numbers b.numbers c.numbers);
  merge_commutative = λ a b. ap₂ totals (add_comm a.total b.total) (add_comm a.numbers b.numbers);
  merge_identity = λ a _. ap₂ totals (add-zero a.total) (add-zero a.numbers);
  merge_applied = λ a b x. ap₂ totals (sym (add_assoc a.total b.total x)) (sym (add_assoc a.numbers b.numbers 1));
}

-- and what they come to is said of the numbers alone
pub mean_values : ValueLaws totals_of nothing after together
mean_values = record {
  of_none = refl;
  of_one_more = λ xs x. ap₂ totals (sum_by-cons (λ n. n) x xs ∙ add_comm x (sum xs)) (suc-eq-add-one (length xs));
  of_both = λ xs ys. ap₂ totals (sum_by-append (λ n. n) xs ys) (length-append xs ys);
  of_any_order = λ xs ys moved. ap₂ totals (sym (sum_by-IsPermutation (λ n. n) xs ys moved)) (sym (length_permutation xs ys moved));
}
