-- The bytes of a reader whose bytes are noted.
use Rattle.std.specs.Prelude.{ℕ, List, Option}
use Rattle.rubis_auction.specs.declared.progress.Noted.{Noted}

-- what the reader underneath has left, if that is known
abbrev pub noted_remaining : {R I : Type 0} → (I → Option (List ℕ)) → Noted R I → Option (List ℕ)
noted_remaining remaining r = remaining r.reader
