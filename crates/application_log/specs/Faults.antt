-- Why commits were not logged, and why a log opens no table.
use Rattle.std.specs.List.{AllByRecursion}
use Rattle.std.specs.Prelude.{◌≡◌, ◌⊎◌, ◌≤◌, ◌+◌, ◌^◌, ℕ, Bool, List, ◌∷◌, ◌++◌, Option, Some, length, ⊤}
use Rattle.part_log.specs.Files.{IsEndedAfter, IsFoundAfter}
use Rattle.split_engine.specs.{Rules.{Rules}, Serial.{IsWithin}}
use Rattle.application_log.specs.{Lines.{HasNoEnd, IsTail}, Logs.{log_text, IsReadBack}}
use Rattle.application_log.specs.declared.commit_log.CommitFault.{CommitFault}
use Rattle.application_log.specs.declared.loggable.TheConstants.{MOST_LINES}
use Rattle.application_log.specs.declared.opening.OpenFault.{OpenFault}
use Rattle.application_log.specs.declared.opening.OpenFault.TheVariants.{NoRequest, NoSuchKey, Tail, TooLong, Read, Memory}
use Rattle.application_log.specs.declared.commit_log.CommitFault.TheVariants as commit

-- whether a fault is one of the log
abbrev pub IsOfLog : CommitFault → Type 0
IsOfLog (commit.Log fault) = ⊤
IsOfLog _ = ⊥

-- a log with so many lines has no room for so many more
abbrev pub HasNoRoom : CommitFault → ℕ → ℕ → Type 0
HasNoRoom commit.Full lines more = MOST_LINES ≤ lines + more
HasNoRoom _ lines more = ⊤

-- what a start finds in a log after a fault: just what it has accepted, unless bytes that were not
-- put by could not be taken back
abbrev pub IsFoundBy : CommitFault → Option (List ℕ) → Option (List ℕ) → List ℕ → Type 0
IsFoundBy (commit.Log fault) accepted found bytes = IsFoundAfter fault accepted found bytes
IsFoundBy _ accepted found bytes = found ≡ accepted

-- whether a log has ended after a fault: only a fault of the log ends it
abbrev pub IsEndedBy : CommitFault → Bool → Bool → Type 0
IsEndedBy (commit.Log fault) before after = IsEndedAfter fault before after
IsEndedBy _ before after = after ≡ before

module _ {Record Slice Look Request Reply Act : Type 0}
    (rules : Rules Record Slice Look Request Reply Act)
    (line : Request → Option (List ℕ)) (IsInRange : Request → Type 0) where
  -- Bytes begin with the lines of requests.
  pub record BeginsWith (requests : List Request) (rest bytes : List ℕ) : Type 0 where
    pub in_range : AllByRecursion IsInRange requests
    pub read_back : AllByRecursion (IsReadBack line IsInRange) requests
    pub split : bytes ≡ log_text line requests ++ rest

  -- Bytes have a line with this number, and before it the lines of requests.
  pub record HasLine (number : ℕ) (text bytes : List ℕ) : Type 0 where
    pub before : List Request
    pub rest : List ℕ
    pub read : BeginsWith before (text ++ 10 ∷ rest) bytes
    pub is_one : HasNoEnd text
    pub number_is : number ≡ length before + 1

  -- Bytes have a last line with this number, which has no end, and before it the lines of requests.
  pub record HasTail (number : ℕ) (text bytes : List ℕ) : Type 0 where
    pub before : List Request
    pub read : BeginsWith before text bytes
    pub no_end : HasNoEnd text
    pub number_is : number ≡ length before + 1

  -- why bytes open no table of so many records, by what may be cut
  abbrev pub IsOpenFault : (List ℕ → Bool) → ℕ → OpenFault → List ℕ → Type 0
  IsOpenFault is_cut size (NoRequest number) bytes = (text : List ℕ) × HasLine number text bytes
      × ((q : Request) → IsInRange q → line q ≡ Some text → ⊥)
  IsOpenFault is_cut size (NoSuchKey number) bytes = (q : Request) × (back : IsReadBack line IsInRange q)
      × HasLine number back.text bytes × (IsWithin rules size q → ⊥)
  IsOpenFault is_cut size (Tail number) bytes = (text : List ℕ) × HasTail number text bytes
      × (IsTail is_cut text → ⊥)
  IsOpenFault is_cut size TooLong bytes = (2 ^ 64 ≤ length bytes)
      ⊎ ((before : List Request) × (rest : List ℕ) × BeginsWith before rest bytes
      × (MOST_LINES ≤ length before))
  IsOpenFault is_cut size (Read why) bytes = ⊤
  IsOpenFault is_cut size Memory bytes = ⊤

-- whether a log was not opened for want of memory, or because it could not be read
abbrev pub IsForMemory : OpenFault → Type 0
IsForMemory (Read why) = ⊤
IsForMemory Memory = ⊤
IsForMemory _ = ⊥
