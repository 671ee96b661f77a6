-- Why additions may be performed on slices.
use Rattle.std.proofs.Common.{true≢false, refl, sym, arith}
use Rattle.std.{proofs.Math.Nat.{add_assoc, add_right_comm, add-zero}, specs.List.{AllByRecursion}}
use Rattle.std.specs.Prelude.{◌≡◌, ℕ, suc, ◌+◌, true}
use Rattle.split_engine.specs.Rules.{SplitLaws}
use Rattle.example_ledger.specs.Model.{decide, splits, applied, is_splittable, sliced, ledger, Fits, SliceFits, IsSmall}
use Rattle.example_ledger.specs.declared.ledger.Change.{TheVariants.{Plus, Minus}, Change}
use Rattle.example_ledger.specs.declared.ledger.LedgerRequest.{LedgerRequest}
use Rattle.example_ledger.specs.declared.ledger.LedgerRequest.TheVariants.{Add, Take, Held}

pub ledger_laws : SplitLaws ledger Fits SliceFits IsSmall
ledger_laws = record {
  merge_nothing = λ n held _. add-zero held;
  merge_one_more = one_more;
  commute = swap;
  keeps_fixed = λ held x _. refl;
  by_fixed = by_fixed;
  acts_split = acts_split;
  fits_more = λ n m held le h. omega (arith, le, h);
  fits_after = fits_after;
  fits_merged = λ n m held s h g. omega (arith, h, g);
  slice_fits_none = omega arith;
  slice_fits_more = λ n m s le h. omega (arith, le, h);
  slice_fits_after = slice_fits_after;
}
  where
    one_more : (held s : ℕ) (x : Change) → is_splittable x ≡ true →
        held + sliced s x ≡ applied (held + s) x
    one_more held s (Plus n) p = sym (add_assoc held s n)
    one_more held s (Minus n) p = absurd (true≢false (sym p))

    swap : (held : ℕ) (x y : Change) → is_splittable x ≡ true → is_splittable y ≡ true →
        applied (applied held x) y ≡ applied (applied held y) x
    swap held (Plus n) (Plus m) p q = add_right_comm held n m
    swap held (Minus n) y p q = absurd (true≢false (sym p))
    swap held x (Minus m) p q = absurd (true≢false (sym q))

    by_fixed : (q : LedgerRequest) (accounts : ℕ → ℕ) → splits q ≡ true →
        decide q (λ place. 0) ≡ decide q accounts
    by_fixed (Add to n) accounts h = refl
    by_fixed (Take from n) accounts h = absurd (true≢false (sym h))
    by_fixed (Held of) accounts h = absurd (true≢false (sym h))

    acts_split : (q : LedgerRequest) (accounts : ℕ → ℕ) → splits q ≡ true →
        AllByRecursion (λ x. is_splittable x ≡ true) (decide q accounts).acts
    acts_split (Add to n) accounts h = (refl, tt)
    acts_split (Take from n) accounts h = absurd (true≢false (sym h))
    acts_split (Held of) accounts h = absurd (true≢false (sym h))

    fits_after : (n held : ℕ) (x : Change) → IsSmall x → Fits n held → Fits (suc n) (applied held x)
    fits_after n held (Plus m) small h = omega (arith, small, h)
    fits_after n held (Minus m) small h = omega (arith, h)

    slice_fits_after : (n s : ℕ) (x : Change) → IsSmall x → SliceFits n s →
        SliceFits (suc n) (sliced s x)
    slice_fits_after n s (Plus m) small h = omega (arith, small, h)
    slice_fits_after n s (Minus m) small h = omega (arith, h)
