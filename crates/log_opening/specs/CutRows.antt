-- What a crash can leave of a row that was being written.
use Rattle.std.specs.{Char.{is_ascii_digit}, List.{list_all}}
use Rattle.std.specs.Prelude.{ℕ, Bool, ◌==◌, ◌&&◌, ◌||◌, List, length, nat_le, slice_index}
use Rattle.auction_text.specs.Fields.{is_printing}
use Rattle.log_opening.specs.declared.tails.TheConstants.{LONGEST_ROW}

-- the byte at a place is this one, or the text ends before it
abbrev pub has_at : List ℕ → ℕ → ℕ → Bool
has_at text at byte = nat_le (length text) at || (slice_index text at == byte)

-- the byte at a place is a digit, or the text ends before it
abbrev pub has_digit_at : List ℕ → ℕ → Bool
has_digit_at text at = nat_le (length text) at || is_ascii_digit (slice_index text at)

-- a text begins as a row does, as far as it goes: with a worker of one digit or two, a comma, which
-- is 44, and a plus, which is 43
abbrev pub begins_row : List ℕ → Bool
begins_row text =
    has_digit_at text 0
    && ((has_at text 1 44 && has_at text 2 43)
    || (has_digit_at text 1 && (has_at text 2 44 && has_at text 3 43)))

-- a text may be the beginning of a row that was being written: it is no longer than a row, each
-- byte prints, and it begins as a row does
abbrev pub is_cut_row : List ℕ → Bool
is_cut_row text =
    nat_le (length text) LONGEST_ROW && (list_all is_printing text && begins_row text)
