-- The ledger as its model has it.
use Rattle.std.specs.Prelude.{ℕ, ◌+◌, ◌-◌, ◌*◌, ◌≤◌, nat_lt, Bool, true, false, List, [], ◌∷◌, if◌then◌else◌, ⊤}
use Rattle.split_engine.specs.{Rules.{Rules}, declared.entry.Decision.{Decision}}
use Rattle.example_ledger.specs.declared.ledger.Change.{TheVariants.{Plus, Minus}, Change}
use Rattle.example_ledger.specs.declared.ledger.LedgerReply.{LedgerReply}
use Rattle.example_ledger.specs.declared.ledger.LedgerReply.TheVariants.{Done, NotEnough, Holds}
use Rattle.example_ledger.specs.declared.ledger.LedgerRequest.{LedgerRequest}
use Rattle.example_ledger.specs.declared.ledger.LedgerRequest.TheVariants.{Add, Take, Held}

-- an answer, and what is done to each account
abbrev pub decided : LedgerReply → List Change → Decision LedgerReply Change
decided reply acts = record { reply = reply; acts = acts }

-- an answer, and nothing done
abbrev pub refused : LedgerReply → Decision LedgerReply Change
refused reply = decided reply []

-- an amount that is taken from what an account holds, if it is there
abbrev pub taken : ℕ → ℕ → Decision LedgerReply Change
taken held amount = if nat_lt held amount then refused NotEnough else decided Done (Minus amount ∷ [])

-- what a request is answered and does, by its account
abbrev pub decide : LedgerRequest → (ℕ → ℕ) → Decision LedgerReply Change
decide (Add to amount) accounts = decided Done (Plus amount ∷ [])
decide (Take from amount) accounts = taken (accounts 0) amount
decide (Held of) accounts = refused (Holds (accounts 0))

-- the key of the account that a request names
abbrev pub keys : LedgerRequest → List ℕ
keys (Add to amount) = to ∷ []
keys (Take from amount) = from ∷ []
keys (Held of) = of ∷ []

-- additions can be performed on slices
abbrev pub splits : LedgerRequest → Bool
splits (Add to amount) = true
splits (Take from amount) = false
splits (Held of) = false

-- an account after a change
abbrev pub applied : ℕ → Change → ℕ
applied held (Plus amount) = held + amount
applied held (Minus amount) = held - amount

-- additions can be done on slices
abbrev pub is_splittable : Change → Bool
is_splittable (Plus amount) = true
is_splittable (Minus amount) = false

-- a slice after a change: only additions are done on slices
abbrev pub sliced : ℕ → Change → ℕ
sliced slice (Plus amount) = slice + amount
sliced slice (Minus amount) = slice

-- the ledger
abbrev pub ledger : Rules ℕ ℕ ℕ LedgerRequest LedgerReply Change
ledger = record {
  keys = keys;
  splits = splits;
  blank = 0;
  look = λ held. held;
  fixed = λ held. 0;
  decide = decide;
  applied = applied;
  is_splittable = is_splittable;
  empty = 0;
  sliced = sliced;
  merged = λ held slice. held + slice;
}

-- what at most n additions of a u32 can make
abbrev pub Fits : ℕ → ℕ → Type 0
Fits n held = held ≤ n * 4294967295

-- the same of a slice
abbrev pub SliceFits : ℕ → ℕ → Type 0
SliceFits n slice = slice ≤ n * 4294967295

-- an amount is a u32
abbrev pub IsSmall : Change → Type 0
IsSmall (Plus amount) = amount ≤ 4294967295
IsSmall (Minus amount) = ⊤
