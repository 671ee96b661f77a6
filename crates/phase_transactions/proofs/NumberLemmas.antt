-- The number after two clocks, or that they are at the end of numbers.
use Rattle.std.proofs.Common.{◌≡◌, ◌↔◌, ℕ, suc, max, ◌≤◌, Bool, true, false, Option, Some, None, ok_or, refl, ap, subst, ◌∙◌, arith}
use Rattle.std.proofs.{Math.Nat.{lt_of_not-le}, lemmas.{Bool.{true≢false}, Option.{same_Some}}}
use Rattle.std.specs.Prelude.{IsNone, IfNone, IfSome, IfOk, IfErr, if◌then◌else◌, nat_lt}
use Rattle.item_shards.specs.CommitNumbers.{last_number, next_number}
use Rattle.phase_transactions.specs.declared.fault.PermitFault.TheVariants.{NumberFull}

chosen : (b : Bool) (m n : ℕ) → Some n ≡ (if b then Some (suc m) else None) → n ≡ suc m
chosen true m n is = same_Some n (suc m) is
chosen false m n is = absurd (cc)

module _ (a b : ℕ) where
  pub number_is : (o : Option ℕ) → o ≡ next_number a b → IfOk (ok_or o NumberFull) (λ n. n ≡ suc (max a b))
  number_is None is = tt
  number_is (Some n) is = chosen (nat_lt (max a b) last_number) (max a b) n is

  pub number_within : (o : Option ℕ) → o ≡ next_number a b → (IsNone o ↔ (last_number ≤ max a b)) → IfOk (ok_or o NumberFull) (λ n. n ≤ last_number)
  number_within None is none = tt
  number_within (Some n) is none =
      let below = lt_of_not-le (λ full. true≢false (none.1 full)) in
      let number = number_is (Some n) is in
      omega (arith, below, number)

  pub fault_is : (o : Option ℕ) → IfErr (ok_or o NumberFull) (λ fault. fault ≡ NumberFull)
  fault_is None = refl
  fault_is (Some n) = tt

  pub full_is : (o : Option ℕ) → (IsNone o ↔ (last_number ≤ max a b)) → IfErr (ok_or o NumberFull) (λ _. last_number ≤ max a b)
  full_is None none = none.0 refl
  full_is (Some n) none = tt

  -- the same of the option
  pub some_number : (m : ℕ) → max a b ≡ m → (o : Option ℕ) → o ≡ next_number a b → IfSome o (λ n. n ≡ suc m)
  some_number m greatest None is = tt
  some_number m greatest (Some n) is = let number : n ≡ suc (max a b) = number_is (Some n) is in number ∙ ap suc greatest

  pub some_within : (o : Option ℕ) → o ≡ next_number a b → (IsNone o ↔ (last_number ≤ max a b)) → IfSome o (λ n. n ≤ last_number)
  some_within None is none = tt
  some_within (Some n) is none = number_within (Some n) is none

  pub none_full : (m : ℕ) → max a b ≡ m → (o : Option ℕ) → (IsNone o ↔ (last_number ≤ max a b)) → IfNone o (last_number ≤ m)
  none_full m greatest None none = subst (λ n. last_number ≤ n) greatest (none.0 refl)
  none_full m greatest (Some n) none = tt
