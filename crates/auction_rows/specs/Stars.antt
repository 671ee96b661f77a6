-- The stars of a number.
use Rattle.std.specs.Int.Signed.{le_z, le_z_yes}
use Rattle.std.specs.Prelude.{ℤ, pos, negsuc, Bool, true, false, Option, Some, None, T}
use Rattle.auction_rows.specs.declared.values.Stars.{Stars}

abbrev pub is_true : (b : Bool) → Dec (T b)
is_true true = yes tt
is_true false = no (λ never. never)

-- the stars of a number, where it is at least -5 and at most 5
abbrev pub stars_if : (value : ℤ) → Dec (T (le_z (negsuc 4) value)) → Dec (T (le_z value (pos 5))) → Option Stars
stars_if value (yes low) (yes high) = Some (record { value = value; at_least = le_z_yes low; at_most = le_z_yes high })
stars_if value (yes low) (no over) = None
stars_if value (no under) high = None

-- the stars of a number: none where it is not from -5 to 5
unfoldable pub stars_of : ℤ → Option Stars
stars_of value = stars_if value (is_true (le_z (negsuc 4) value)) (is_true (le_z value (pos 5)))

-- the most stars
abbrev pub five : Stars
five = record { value = pos 5; at_least = le_z_yes tt; at_most = le_z_yes tt }
