-- The lines of requests, such as `add 2 30`.
use Rattle.std.specs.{Char.{is_ascii_digit}, List.{list_all, starts_with}}
use Rattle.std.specs.Prelude.{◌≢◌, ◌==◌, ◌&&◌, ◌||◌, Bool, ℕ, ◌<◌, ◌^◌, drop, length, nat_le, slice_index, List, ◌∷◌, ◌++◌, Option, None, Some, codes, decimal, if◌then◌else◌, ⊤}
use Rattle.example_ledger.specs.declared.ledger.{LedgerRequest.{LedgerRequest}, TheConstants.{LONGEST}}
use Rattle.example_ledger.specs.declared.ledger.LedgerRequest.TheVariants.{Add, Take, Held}

-- two numbers with a blank between them
abbrev pub numbers : ℕ → ℕ → List ℕ
numbers account amount = decimal account ++ 32 ∷ decimal amount

-- a word, and two numbers
abbrev pub words : List ℕ → ℕ → ℕ → List ℕ
words word account amount = word ++ 32 ∷ numbers account amount

-- no blank is in a word
abbrev pub HasNoBlank : List ℕ → Type 0
HasNoBlank word = (i : ℕ) → i < length word → slice_index word i ≢ 32

-- the line of a request: a view has none
abbrev pub line_of : LedgerRequest → Option (List ℕ)
line_of (Add to amount) = Some (words (codes "add") to amount)
line_of (Take from amount) = Some (words (codes "take") from amount)
line_of (Held of) = None

-- a byte is of a number, or the blank before one
abbrev pub is_of_numbers : ℕ → Bool
is_of_numbers byte = is_ascii_digit byte || (byte == 32)

-- bytes may be the beginning of a word and two numbers
abbrev pub begins : List ℕ → List ℕ → Bool
begins word text =
    if starts_with (λ x y. x == y) text word then list_all is_of_numbers (drop (length word) text)
    else starts_with (λ x y. x == y) word text

-- bytes may be the beginning of a line that was being written: they are no longer than a line, and
-- begin as one does
abbrev pub is_cut : List ℕ → Bool
is_cut text = nat_le (length text) LONGEST && (begins (codes "add ") text || begins (codes "take ") text)

-- the numbers of a request are u32
abbrev pub IsInRange : LedgerRequest → Type 0
IsInRange (Add to amount) = (to < 2 ^ 32) × (amount < 2 ^ 32)
IsInRange (Take from amount) = (from < 2 ^ 32) × (amount < 2 ^ 32)
IsInRange (Held of) = ⊤
