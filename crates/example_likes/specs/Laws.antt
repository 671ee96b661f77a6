-- Why likes may be performed on slices: the laws are those of sums and of the greatest.
use Rattle.std.{proofs.Common.{true≢false, refl, sym, ap, arith}, specs.List.{AllByRecursion}}
use Rattle.std.specs.{Ordering.{nat_cmp}, Prelude.{◌≡◌, ℕ, suc, ◌+◌, true, List, [], ◌∷◌, None}}
use Rattle.phase_laws.specs.Ranking.{greater}
use Rattle.split_records.specs.{Records.{max_laws}, Sums.{sum_laws}}
use Rattle.split_engine.specs.Rules.{SplitLaws}
use Rattle.example_likes.specs.Model.{tally, splits, decide, applied, merged, likes, Fits}
use Rattle.example_likes.specs.declared.likes.Change.{TheVariants.{Note, Count}, Change}
use Rattle.example_likes.specs.declared.likes.LikeRequest.{TheVariants.{Like, View}, LikeRequest}
use Rattle.example_likes.specs.declared.likes.Tally.{Tally}

one_more : (a s : Tally) (x : Change) → true ≡ true →
    merged a (applied s x) ≡ applied (merged a s) x
one_more a s (Note time) p =
    ap (tally (a.likes + s.likes)) (max_laws.merge_applied a.last s.last time)
one_more a s Count p =
    ap (λ n. tally n (greater nat_cmp a.last s.last)) (sum_laws.merge_applied a.likes s.likes 1)

swap : (a : Tally) (x y : Change) → true ≡ true → true ≡ true →
    applied (applied a x) y ≡ applied (applied a y) x
swap a (Note n) (Note m) p q = ap (tally a.likes) (max_laws.applications_commute a.last n m)
swap a (Note n) Count p q = refl
swap a Count (Note m) p q = refl
swap a Count Count p q = refl

by_fixed : (q : LikeRequest) (tallies : ℕ → Tally) → splits q ≡ true →
    decide q (λ _. tally 0 None) ≡ decide q tallies
by_fixed (Like user page time) tallies h = refl
by_fixed (View user page) tallies h = absurd (true≢false (sym h))

acts_split : (xs : List Change) → AllByRecursion (λ _. true ≡ true) xs
acts_split [] = tt
acts_split (x ∷ xs) = (refl, acts_split xs)

fits_after : (n : ℕ) (a : Tally) (x : Change) → Unit {0} → Fits n a → Fits (suc n) (applied a x)
fits_after n a (Note time) small h = omega (arith, h)
fits_after n a Count small h = omega (arith, h)

pub likes_laws : SplitLaws likes Fits Fits (λ _. Unit {0})
likes_laws = record {
  merge_nothing = λ n a _ i.
      tally (sum_laws.merge_identity a.likes tt i) (max_laws.merge_identity a.last tt i);
  merge_one_more = one_more;
  commute = swap;
  keeps_fixed = λ a x _. refl;
  by_fixed = by_fixed;
  acts_split = λ q tallies _. acts_split (decide q tallies).acts;
  fits_more = λ n m a le h. omega (arith, le, h);
  fits_after = fits_after;
  fits_merged = λ n m a s h g. omega (arith, h, g);
  slice_fits_none = omega arith;
  slice_fits_more = λ n m s le h. omega (arith, le, h);
  slice_fits_after = fits_after;
}
