-- How much of what a file holds a log has accepted, and what a start finds in it.
use Rattle.std.specs.Io.KnownBytes.{append_known}
use Rattle.std.specs.Prelude.{◌≡◌, ◌≤◌, ℕ, Bool, true, false, List, Option, IfSome, drop, length, take}
use Rattle.part_log.specs.declared.log.LogFault.{TheVariants.{Write, Cut, Ended}, LogFault}

-- the known bytes are so many at least
abbrev pub HoldsSoMany : Option (List ℕ) → ℕ → Type 0
HoldsSoMany held count = IfSome held (λ bytes. count ≤ length bytes)

-- a file has these bytes from a place on
abbrev pub IsReadAt : List ℕ → ℕ → List ℕ → Type 0
IsReadAt bytes at read = take (length read) (drop at bytes) ≡ read

-- so many of a file's bytes were accepted, and it holds others only if the log has ended
abbrev pub IsKeptIn : Option (List ℕ) → ℕ → Bool → Type 0
IsKeptIn held kept has_ended =
    HoldsSoMany held kept × (has_ended ≡ false → IfSome held (λ bytes. length bytes ≡ kept))

-- What is known of a log.
pub record LogState : Type 0 where
  -- the bytes that it has accepted, which the disk keeps
  pub accepted : Option (List ℕ)
  -- the bytes that a start would find
  pub found : Option (List ℕ)
  -- it puts nothing by any more
  pub has_ended : Bool
  -- its name leads elsewhere or nowhere
  pub is_lost : Bool

-- what a start finds after these bytes were not put by in a log that had not ended: just what was
-- accepted, or, if they could not be taken back, a prefix of them behind it
abbrev pub IsFoundAfter : LogFault → Option (List ℕ) → Option (List ℕ) → List ℕ → Type 0
IsFoundAfter (Cut why) accepted found bytes =
    (n : ℕ) × (found ≡ append_known accepted (take n bytes))
IsFoundAfter Ended accepted found bytes = ⊥
IsFoundAfter _ accepted found bytes = found ≡ accepted

-- whether a log has ended after this fault: it goes on after a write that failed, and only then
abbrev pub IsEndedAfter : LogFault → Bool → Bool → Type 0
IsEndedAfter (Write why) before after = after ≡ before
IsEndedAfter _ before after = after ≡ true
