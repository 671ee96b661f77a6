-- The bank as its model has it.
use Rattle.std.specs.Prelude.{ℕ, ◌+◌, ◌-◌, ◌*◌, ◌≤◌, nat_lt, ◌&&◌, Bool, true, false, List, [], ◌∷◌, if◌then◌else◌, ⊤}
use Rattle.split_engine.specs.{Rules.{Rules}, declared.entry.Decision.{Decision}}
use Rattle.example_bank.specs.declared.bank.{Account.{Account}, BankReply.{BankReply}}
use Rattle.example_bank.specs.declared.bank.BankReply.TheVariants.{Done, Closed, NotEnough, Holds}
use Rattle.example_bank.specs.declared.bank.BankRequest.{BankRequest}
use Rattle.example_bank.specs.declared.bank.BankRequest.TheVariants.{Deposit, Transfer, Balance, Close}
use Rattle.example_bank.specs.declared.bank.Change.{TheVariants.{Add, Take, Shut}, Change}

-- an account that holds so much
abbrev pub account : ℕ → Bool → Account
account held is_open = record { held = held; is_open = is_open }

-- an answer, and what is done to each account
abbrev pub decided : BankReply → List Change → Decision BankReply Change
decided reply acts = record { reply = reply; acts = acts }

-- an answer, and nothing done
abbrev pub unchanged : BankReply → Decision BankReply Change
unchanged reply = decided reply []

-- a deposit into an account
abbrev pub deposited : Account → ℕ → Decision BankReply Change
deposited to amount = if to.is_open then decided Done (Add amount ∷ []) else unchanged Closed

-- an amount that is taken from what an account holds, if it is there
abbrev pub moved : ℕ → ℕ → Decision BankReply Change
moved held amount =
    if nat_lt held amount then unchanged NotEnough else decided Done (Take amount ∷ Add amount ∷ [])

-- a transfer from one account to another: both have to be open
abbrev pub transferred : Account → Account → ℕ → Decision BankReply Change
transferred from to amount =
    if from.is_open && to.is_open then moved from.held amount else unchanged Closed

-- what a request is answered and does, by its accounts
abbrev pub decide : BankRequest → (ℕ → Account) → Decision BankReply Change
decide (Deposit to amount) accounts = deposited (accounts 0) amount
decide (Transfer from to amount) accounts = transferred (accounts 0) (accounts 1) amount
decide (Balance of) accounts = unchanged (Holds (accounts 0).held)
decide (Close of) accounts = decided Done (Shut ∷ [])

-- the keys of the accounts that a request names
abbrev pub keys : BankRequest → List ℕ
keys (Deposit to amount) = to ∷ []
keys (Transfer from to amount) = from ∷ to ∷ []
keys (Balance of) = of ∷ []
keys (Close of) = of ∷ []

-- deposits can be performed on slices
abbrev pub splits : BankRequest → Bool
splits (Deposit to amount) = true
splits (Transfer from to amount) = false
splits (Balance of) = false
splits (Close of) = false

-- an account after a change
abbrev pub applied : Account → Change → Account
applied a (Add amount) = account (a.held + amount) a.is_open
applied a (Take amount) = account (a.held - amount) a.is_open
applied a Shut = account a.held false

-- additions can be done on slices
abbrev pub is_splittable : Change → Bool
is_splittable (Add amount) = true
is_splittable (Take amount) = false
is_splittable Shut = false

-- a slice after a change: only additions are done on slices
abbrev pub sliced : ℕ → Change → ℕ
sliced slice (Add amount) = slice + amount
sliced slice (Take amount) = slice
sliced slice Shut = slice

-- an account with what a worker deposited into it
abbrev pub merged : Account → ℕ → Account
merged a slice = account (a.held + slice) a.is_open

-- the bank
abbrev pub bank : Rules Account ℕ Account BankRequest BankReply Change
bank = record {
  keys = keys;
  splits = splits;
  blank = account 0 false;
  look = λ a. a;
  fixed = λ a. account 0 a.is_open;
  decide = decide;
  applied = applied;
  is_splittable = is_splittable;
  empty = 0;
  sliced = sliced;
  merged = merged;
}

-- what at most n additions of a u32 can make
abbrev pub Fits : ℕ → Account → Type 0
Fits n a = a.held ≤ n * 4294967295

-- the same of a slice
abbrev pub SliceFits : ℕ → ℕ → Type 0
SliceFits n slice = slice ≤ n * 4294967295

-- an amount is a u32
abbrev pub IsSmall : Change → Type 0
IsSmall (Add amount) = amount ≤ 4294967295
IsSmall (Take amount) = ⊤
IsSmall Shut = ⊤
