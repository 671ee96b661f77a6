-- What a reader has left that is not read on after its end.
use Rattle.std.specs.Prelude.{ℕ, List, [], Option, option_map, if◌then◌else◌}
use Rattle.byte_texts.specs.declared.until_end.UntilEnd.{UntilEnd}

-- what the reader underneath has left, if that is known: nothing once it has ended
abbrev pub left_until_end : {R : Type 0} → (R → Option (List ℕ)) → UntilEnd R → Option (List ℕ)
left_until_end remaining r =
    if r.is_ended then option_map (λ left. []) (remaining r.reader) else remaining r.reader
