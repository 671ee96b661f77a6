-- Stars with one number are the same, and are the stars of that number.
use Rattle.std.proofs.{Common.{◌≡◌, ℤ, pos, negsuc, ◌≤ℤ◌, Some, refl, ap, subst}, Props.{props}}
use Rattle.std.specs.{Int.Signed.{le_z}, Prelude.{T}}
use mathlib.Core.HLevel.{is_prop→PathP}
use Rattle.auction_rows.specs.{Stars.{stars_of, stars_if, is_true}, declared.values.Stars.{Stars}}

low_prop : (v : ℤ) → IsProp (negsuc 4 ≤ℤ v)
low_prop v = hlevel props

high_prop : (v : ℤ) → IsProp (v ≤ℤ pos 5)
high_prop v = hlevel props

pub same_stars : (a b : Stars) → a.value ≡ b.value → a ≡ b
same_stars a b p = λ i. record {
  value = p i;
  at_least = is_prop→PathP (λ j. negsuc 4 ≤ℤ p j) (λ j. low_prop (p j)) a.at_least b.at_least i;
  at_most = is_prop→PathP (λ j. p j ≤ℤ pos 5) (λ j. high_prop (p j)) a.at_most b.at_most i;
}

pub stars_found : (stars : Stars) (value : ℤ) → stars.value ≡ value → Some stars ≡ stars_of value
unfolding stars_of
stars_found stars value p = subst (λ v. Some stars ≡ stars_of v) p (at (is_true (le_z (negsuc 4) stars.value)) (is_true (le_z stars.value (pos 5)))) where
  at : (d : Dec (T (le_z (negsuc 4) stars.value))) (e : Dec (T (le_z stars.value (pos 5)))) → Some stars ≡ stars_if stars.value d e
  at (yes low) (yes high) = ap Some (same_stars stars _ refl)
  at (yes low) (no over) = absurd (over stars.at_most.le)
  at (no under) e = absurd (under stars.at_least.le)
