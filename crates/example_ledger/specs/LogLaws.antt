-- Why a log of the ledger's requests leaves the ledger.
use Rattle.std.proofs.{Common.{refl, arith, length-append}, lemmas.Fmt.{decimal_by_steps, length-decimal-le}}
use Rattle.std.proofs.lemmas.Bool.{and_from, and_parts, le-leb, or_left, or_right}
use Rattle.std.specs.List.{list_all, AllByRecursion}
use Rattle.std.specs.Prelude.{◌≡◌, ◌≤◌, ◌<◌, ◌^◌, ℕ, zero, suc, ◌+◌, ◌%◌, true, List, [], ◌∷◌, ◌++◌, None, IfSome, codes, decimal, length, take}
use Rattle.application_log.specs.Lines.{HasNoEnd}
use Rattle.example_ledger.specs.{Log.{begins, is_cut, is_of_numbers, numbers, words, line_of, IsInRange}, Model.{decide}}
use Rattle.example_ledger.specs.declared.ledger.LedgerRequest.{LedgerRequest}
use Rattle.example_ledger.specs.declared.ledger.LedgerRequest.TheVariants.{Add, Take, Held}

-- digits alone
abbrev pub AreDigits : List ℕ → Type 0
AreDigits = AllByRecursion (λ byte. (48 ≤ byte) × (byte ≤ 57))

one_more : (bytes : List ℕ) (n : ℕ) → AreDigits bytes → AreDigits (bytes ++ (48 + n % 10) ∷ [])
one_more [] n h = ((omega arith, omega arith), tt)
one_more (byte ∷ bytes) n h = (h.0, one_more bytes n h.1)

pub decimal_are_digits : (n : ℕ) → n < 2 ^ 64 → AreDigits (decimal n)
decimal_are_digits = decimal_by_steps (λ n bytes. AreDigits bytes)
    (λ n few. ((omega arith, omega arith), tt)) (λ n bytes many h. one_more bytes n h)

digits_then : (bytes rest : List ℕ) → AreDigits bytes → HasNoEnd rest → HasNoEnd (bytes ++ rest)
digits_then [] rest h g = g
digits_then (byte ∷ bytes) rest h g = (λ e. omega (arith, h.0, e), digits_then bytes rest h.1 g)

digits_end : (bytes : List ℕ) → AreDigits bytes → HasNoEnd bytes
digits_end [] h = tt
digits_end (byte ∷ bytes) h = (λ e. omega (arith, h.0, e), digits_end bytes h.1)

numbers_one_line : (account amount : ℕ) → account < 2 ^ 32 → amount < 2 ^ 32 → HasNoEnd (numbers account amount)
numbers_one_line account amount few small =
    digits_then (decimal account) (32 ∷ decimal amount) (decimal_are_digits account (omega arith))
    (λ e. omega (arith, e), digits_end (decimal amount) (decimal_are_digits amount (omega arith)))

-- a line has no line feed
pub ledger_one_line : (q : LedgerRequest) → IsInRange q → IfSome (line_of q) HasNoEnd
ledger_one_line (Add to amount) fits = (
  λ e. omega (arith, e),
  (
    λ e. omega (arith, e),
    (
      λ e. omega (arith, e),
      (
        λ e. omega (arith, e),
        numbers_one_line to amount fits.0 fits.1,
      ),
    ),
  ),
)
ledger_one_line (Take from amount) fits = (
  λ e. omega (arith, e),
  (
    λ e. omega (arith, e),
    (
      λ e. omega (arith, e),
      (
        λ e. omega (arith, e),
        (λ e. omega (arith, e), numbers_one_line from amount fits.0 fits.1),
      ),
    ),
  ),
)
ledger_one_line (Held of) fits = tt

digits_numbers : (bytes : List ℕ) → AreDigits bytes → list_all is_of_numbers bytes ≡ true
digits_numbers [] h = refl
digits_numbers (byte ∷ bytes) h =
    and_from _ _ (or_left _ _ (and_from _ _ (le-leb 48 byte h.0.0) (le-leb byte 57 h.0.1))) (digits_numbers bytes h.1)

both_numbers : (bytes rest : List ℕ) → AreDigits bytes → list_all is_of_numbers rest ≡ true → list_all is_of_numbers (bytes ++ rest) ≡ true
both_numbers [] rest h g = g
both_numbers (byte ∷ bytes) rest h g =
    and_from _ _ (or_left _ _ (and_from _ _ (le-leb 48 byte h.0.0) (le-leb byte 57 h.0.1))) (both_numbers bytes rest h.1 g)

taken_numbers : (n : ℕ) (bytes : List ℕ) → list_all is_of_numbers bytes ≡ true → list_all is_of_numbers (take n bytes) ≡ true
taken_numbers zero [] h = refl
taken_numbers (suc n) [] h = refl
taken_numbers zero (byte ∷ bytes) h = refl
taken_numbers (suc n) (byte ∷ bytes) h =
    let both = and_parts (is_of_numbers byte) (list_all is_of_numbers bytes) h in and_from _ _ both.0 (taken_numbers n bytes both.1)

-- the beginning of a word and numbers may be one
add_begins : (n : ℕ) (rest : List ℕ) → list_all is_of_numbers rest ≡ true → begins (codes "add ") (take n (codes "add " ++ rest)) ≡ true
add_begins zero rest h = refl
add_begins (suc zero) rest h = refl
add_begins (suc (suc zero)) rest h = refl
add_begins (suc (suc (suc zero))) rest h = refl
add_begins (suc (suc (suc (suc n)))) rest h = taken_numbers n rest h

take_begins : (n : ℕ) (rest : List ℕ) → list_all is_of_numbers rest ≡ true → begins (codes "take ") (take n (codes "take " ++ rest)) ≡ true
take_begins zero rest h = refl
take_begins (suc zero) rest h = refl
take_begins (suc (suc zero)) rest h = refl
take_begins (suc (suc (suc zero))) rest h = refl
take_begins (suc (suc (suc (suc zero)))) rest h = refl
take_begins (suc (suc (suc (suc (suc n))))) rest h = taken_numbers n rest h

are_numbers : (account amount : ℕ) → account < 2 ^ 32 → amount < 2 ^ 32 → list_all is_of_numbers (numbers account amount) ≡ true
are_numbers account amount few small =
    both_numbers (decimal account) (32 ∷ decimal amount) (decimal_are_digits account (omega arith)) (digits_numbers (decimal amount) (decimal_are_digits amount (omega arith)))

-- a line is short, and so is its beginning
taken_short : (n : ℕ) (bytes : List ℕ) → length (take n bytes) ≤ length bytes
taken_short zero [] = omega arith
taken_short (suc n) [] = omega arith
taken_short zero (byte ∷ bytes) = omega arith
taken_short (suc n) (byte ∷ bytes) = omega (arith, taken_short n bytes)

short : (n : ℕ) → n < 2 ^ 32 → length (decimal n) ≤ 10
short n fits = length-decimal-le 10 n (omega arith) (omega (arith, fits)) (omega (arith, fits))

numbers_short : (account amount : ℕ) → account < 2 ^ 32 → amount < 2 ^ 32 → length (numbers account amount) ≤ 21
numbers_short account amount few small = omega (arith, length-append (decimal account) (32 ∷ decimal amount), short account few, short amount small)

-- a line may be cut at each of its bytes
pub ledger_cut_anywhere : (q : LedgerRequest) (n : ℕ) → IsInRange q → IfSome (line_of q) (λ line. is_cut (take n line) ≡ true)
ledger_cut_anywhere (Add to amount) n fits =
    let line = words (codes "add") to amount in
    and_from _ _ (le-leb (length (take n line)) 26 (omega (arith, taken_short n line, numbers_short to amount fits.0 fits.1)))
    (or_left _ _ (add_begins n (numbers to amount) (are_numbers to amount fits.0 fits.1)))
ledger_cut_anywhere (Take from amount) n fits =
    let line = words (codes "take") from amount in
    and_from _ _ (le-leb (length (take n line)) 26 (omega (arith, taken_short n line, numbers_short from amount fits.0 fits.1)))
    (or_right _ _ (take_begins n (numbers from amount) (are_numbers from amount fits.0 fits.1)))
ledger_cut_anywhere (Held of) n fits = tt

-- a view does nothing
pub ledger_does_nothing : (q : LedgerRequest) (looks : ℕ → ℕ) → line_of q ≡ None → (decide q looks).acts ≡ []
ledger_does_nothing (Add to amount) looks e = absurd (cc e)
ledger_does_nothing (Take from amount) looks e = absurd (cc e)
ledger_does_nothing (Held of) looks e = refl
