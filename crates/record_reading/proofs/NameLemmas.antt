-- The test of a name says what a name is.
use Rattle.std.proofs.Common.{◌≡◌, ℕ, true, List, [], ◌∷◌, Option, Some, None, length, refl, ap, sym, ◌∙◌, IsSome, IfSome, ◌↔◌, inl, inr}
use Rattle.std.proofs.lemmas.Bool.{and_from, and_parts, cases_Bool, leb-true, le-leb}
use Rattle.std.proofs.lemmas.List.Elements.{All-from_recursion, recursion_from_All}
use Rattle.std.specs.List.{AllByRecursion, list_all}
use Rattle.auction_rows.specs.Name.{IsName, IsPrinting}
use Rattle.record_reading.specs.Fields.{is_name, is_printing, name}

printing_tested : (bytes : List ℕ) → AllByRecursion IsPrinting bytes → list_all is_printing bytes ≡ true
printing_tested [] all = refl
printing_tested (b ∷ bytes) all =
    and_from _ _ (and_from _ _ (le-leb 0x20 b all.0.0) (le-leb b 0x7E all.0.1)) (printing_tested bytes all.1)

tested_printing : (bytes : List ℕ) → list_all is_printing bytes ≡ true → AllByRecursion IsPrinting bytes
tested_printing [] e = tt
tested_printing (b ∷ bytes) e =
    let both = and_parts (is_printing b) (list_all is_printing bytes) e in
    let ends = and_parts _ _ both.0 in
    ((leb-true 0x20 b ends.0, leb-true b 0x7E ends.1), tested_printing bytes both.1)

-- what is a name passes the test
pub name_tested : (bytes : List ℕ) → IsName bytes → is_name bytes ≡ true
name_tested bytes named =
    and_from _ _ (and_from _ _ (le-leb 1 (length bytes) named.not_empty) (le-leb (length bytes) 32 named.not_long))
    (printing_tested bytes (recursion_from_All IsPrinting bytes named.printing))

-- and what passes it is one
pub tested_name : (bytes : List ℕ) → is_name bytes ≡ true → IsName bytes
tested_name bytes e =
    let both = and_parts _ (list_all is_printing bytes) e in
    let ends = and_parts _ _ both.0 in record {
      not_empty = leb-true 1 (length bytes) ends.0;
      not_long = leb-true (length bytes) 32 ends.1;
      printing = All-from_recursion IsPrinting bytes (tested_printing bytes both.1);
    }

some_is : (bytes : List ℕ) (found : Option (List ℕ)) → IsSome found → IfSome found (λ x. x ≡ bytes) → found ≡ Some bytes
some_is bytes (Some x) is same = ap Some same
some_is bytes None is same = absurd (cc is)

none_is : (found : Option (List ℕ)) → (IsSome found → ⊥) → found ≡ None
none_is (Some x) not = absurd (not refl)
none_is None not = refl

-- what is found exactly where the bytes are a name, and is the bytes, is the name that they are
pub name_of_bytes : (bytes : List ℕ) (found : Option (List ℕ)) → (IsSome found ↔ IsName bytes) → IfSome found (λ x. x ≡ bytes) → found ≡ name bytes
name_of_bytes bytes found variant value = elim (cases_Bool (is_name bytes)) [
  | inl named ↦ rw named (some_is bytes found (variant.1 (tested_name bytes named)) value)
  | inr not_named ↦ rw not_named (none_is found (λ some. absurd (cc (sym not_named ∙ name_tested bytes (variant.0 some)))))
]
