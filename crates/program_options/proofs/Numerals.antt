-- A text that passed a range of numbers.
use Rattle.std.proofs.Common.{◌≡◌, ◌==◌, ℕ, Bool, true, false, cond, List, [], ◌∷◌, drop, Option, Some, None, refl, sym, ap, subst, arith}
use Rattle.std.proofs.lemmas.{Bool.{ne_eqb}, Int.{ints}, Str.Parse.{digit_from_value}}
use Rattle.std.specs.Prelude.{pos, unwrap_or}
use Rattle.std.specs.Str.Parse.{IsNumeral, starts_with_minus, without_leading_plus}
use Rattle.clap.specs.{Lexer.{without_minus}, Values.{IsSignedIn}}
use Rattle.program_options.specs.Options.{IsNumberIn, SaysNumber, number_of}

minus_cut : (t : List ℕ) → without_minus t ≡ cond (starts_with_minus t) (drop 1 t) t
minus_cut [] = refl
minus_cut (x ∷ xs) = go (x == 45) where
  go : (b : Bool) → unwrap_or (cond b (Some xs) None) (x ∷ xs) ≡ cond b xs (x ∷ xs)
  go true = refl
  go false = refl

no_plus : (ds : List ℕ) → IsNumeral 10 ds → without_leading_plus ds ≡ ds
no_plus [] h = refl
no_plus (d ∷ ds) h =
    let plus : (d == 43) ≡ false = ne_eqb _ _ (λ e. omega (arith, digit_from_value d h.1.0)) in
    ap (λ (b : Bool). drop (cond b 1 0) (d ∷ ds)) plus

-- without its minus it is that of a number in the range
pub number_in_range : (least greatest : ℕ) (t : List ℕ) → IsSignedIn (pos least) (pos greatest) t → IsNumberIn least greatest (Some (without_minus t))
number_in_range least greatest t passed =
    subst (λ (u : List ℕ). IsNumberIn least greatest (Some u)) (sym (minus_cut t)) (go (starts_with_minus t) refl) where
      go : (b : Bool) → starts_with_minus t ≡ b → IsNumberIn least greatest (Some (cond b (drop 1 t) t))
      go true minus =
          let low_ok = rw minus at passed.2 in let high_ok = rw minus at passed.3 in
          let numeral : IsNumeral 10 (drop 1 t) = rw minus at passed.0 in
          let same = no_plus (drop 1 t) numeral in
          (rw same numeral, (rw same (omega (arith, ints)), rw same (omega (arith, ints))))
      go false minus =
          let low_ok = rw minus at passed.2 in let high_ok = rw minus at passed.3 in
          let numeral = rw minus at passed.0 in
          (numeral, (omega (arith, ints), omega (arith, ints)))

-- a number of the range is the one that its text says
pub number_said : (least greatest : ℕ) (text : Option (List ℕ)) (number : ℕ) → IsNumberIn least greatest text → SaysNumber least greatest text number → number ≡ number_of text
number_said least greatest None number is said = absurd is
number_said least greatest (Some text) number is said = said is.0 is.1.0 is.1.1
