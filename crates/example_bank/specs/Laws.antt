-- Why deposits may be performed on slices.
use Rattle.std.proofs.Common.{true≢false, refl, sym, ap, arith}
use Rattle.std.{proofs.Math.Nat.{add_assoc, add_right_comm, add-zero}, specs.List.{AllByRecursion}}
use Rattle.std.specs.Prelude.{◌≡◌, ℕ, suc, Bool, true, false}
use Rattle.split_engine.specs.Rules.{SplitLaws}
use Rattle.example_bank.specs.Model.{account, deposited, decide, splits, applied, is_splittable, sliced, merged, bank, Fits, SliceFits, IsSmall}
use Rattle.example_bank.specs.declared.bank.{Account.{Account}, BankRequest.{BankRequest}}
use Rattle.example_bank.specs.declared.bank.BankRequest.TheVariants.{Deposit, Transfer, Balance, Close}
use Rattle.example_bank.specs.declared.bank.Change.{TheVariants.{Add, Take, Shut}, Change}

pub bank_laws : SplitLaws bank Fits SliceFits IsSmall
bank_laws = record {
  merge_nothing = λ n a _ i. account (add-zero a.held i) a.is_open;
  merge_one_more = one_more;
  commute = swap;
  keeps_fixed = stays_open;
  by_fixed = by_fixed;
  acts_split = acts_split;
  fits_more = λ n m a le h. omega (arith, le, h);
  fits_after = fits_after;
  fits_merged = λ n m a s h g. omega (arith, h, g);
  slice_fits_none = omega arith;
  slice_fits_more = λ n m s le h. omega (arith, le, h);
  slice_fits_after = slice_fits_after;
}
  where
    one_more : (a : Account) (s : ℕ) (x : Change) → is_splittable x ≡ true →
        merged a (sliced s x) ≡ applied (merged a s) x
    one_more a s (Add n) p = ap (λ held. account held a.is_open) (sym (add_assoc a.held s n))
    one_more a s (Take n) p = absurd (true≢false (sym p))
    one_more a s Shut p = absurd (true≢false (sym p))

    swap : (a : Account) (x y : Change) → is_splittable x ≡ true → is_splittable y ≡ true →
        applied (applied a x) y ≡ applied (applied a y) x
    swap a (Add n) (Add m) p q = ap (λ held. account held a.is_open) (add_right_comm a.held n m)
    swap a (Take n) y p q = absurd (true≢false (sym p))
    swap a Shut y p q = absurd (true≢false (sym p))
    swap a x (Take m) p q = absurd (true≢false (sym q))
    swap a x Shut p q = absurd (true≢false (sym q))

    stays_open : (a : Account) (x : Change) → is_splittable x ≡ true →
        account 0 (applied a x).is_open ≡ account 0 a.is_open
    stays_open a (Add n) p = refl
    stays_open a (Take n) p = absurd (true≢false (sym p))
    stays_open a Shut p = absurd (true≢false (sym p))

    by_fixed : (q : BankRequest) (accounts : ℕ → Account) → splits q ≡ true →
        decide q (λ place. account 0 (accounts place).is_open) ≡ decide q accounts
    by_fixed (Deposit to n) accounts h = refl
    by_fixed (Transfer from to n) accounts h = absurd (true≢false (sym h))
    by_fixed (Balance of) accounts h = absurd (true≢false (sym h))
    by_fixed (Close of) accounts h = absurd (true≢false (sym h))

    additions : (is_open : Bool) (n : ℕ) →
        AllByRecursion (λ x. is_splittable x ≡ true) (deposited (account 0 is_open) n).acts
    additions true n = (refl, tt)
    additions false n = tt

    acts_split : (q : BankRequest) (accounts : ℕ → Account) → splits q ≡ true →
        AllByRecursion (λ x. is_splittable x ≡ true) (decide q accounts).acts
    acts_split (Deposit to n) accounts h = additions (accounts 0).is_open n
    acts_split (Transfer from to n) accounts h = absurd (true≢false (sym h))
    acts_split (Balance of) accounts h = absurd (true≢false (sym h))
    acts_split (Close of) accounts h = absurd (true≢false (sym h))

    fits_after : (n : ℕ) (a : Account) (x : Change) → IsSmall x → Fits n a →
        Fits (suc n) (applied a x)
    fits_after n a (Add m) small h = omega (arith, small, h)
    fits_after n a (Take m) small h = omega (arith, h)
    fits_after n a Shut small h = omega (arith, h)

    slice_fits_after : (n s : ℕ) (x : Change) → IsSmall x → SliceFits n s →
        SliceFits (suc n) (sliced s x)
    slice_fits_after n s (Add m) small h = omega (arith, small, h)
    slice_fits_after n s (Take m) small h = omega (arith, h)
    slice_fits_after n s Shut small h = omega (arith, h)
