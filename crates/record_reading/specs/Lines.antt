-- Lines of a text, and what `csv` reads of them.
use Rattle.std.specs.List.{list_all}
use Rattle.std.specs.Prelude.{ℕ, Bool, true, false, not, ◌==◌, ◌&&◌, ◌≡◌, ◌≤◌, ◌<◌, ◌-◌, Ok, List, [], ◌∷◌, ◌++◌, drop, get_or, length}
use Rattle.csv.specs.Reading.{default_config, records, strip_bom}
use Rattle.record_reading.specs.{Records.{read_record}, declared.record.Record.{Record}}

-- the bytes of a quote and a line feed
abbrev pub quote : ℕ
quote = 34

abbrev pub line_feed : ℕ
line_feed = 10

-- no byte of a word is a line feed
abbrev pub has_no_feed : List ℕ → Bool
has_no_feed word = list_all (λ byte. not (byte == line_feed)) word

-- A whole line: it ends with its line feed, and has no other.
pub record IsWhole (line : List ℕ) : Type 0 where
  pub content : List ℕ
  pub no_feed : has_no_feed content ≡ true
  pub line_is : line ≡ content ++ (line_feed ∷ [])

-- A text whose last byte is a line feed.
pub record EndsLine (text : List ℕ) : Type 0 where
  pub some : 1 ≤ length text
  pub feed : get_or text (length text - 1) 0 ≡ line_feed

-- after the first record of a text, which has these fields, its records are those of what is left
abbrev pub ReadsFirst : List ℕ → List (List ℕ) → List ℕ → Type 0
ReadsFirst text fields left = records default_config text ≡ fields ∷ records default_config left

-- From a place on, whatever comes after the text, it has a line that says this, and `next` is after
-- it.
pub record IsLine (text : List ℕ) (at : ℕ) (said : Record) (next : ℕ) : Type 0 where
  pub fields : List (List ℕ)
  pub reads : (more : List ℕ) → ReadsFirst (drop at text ++ more) fields (drop next text ++ more)
  pub unmarked : (more : List ℕ) → strip_bom (drop at text ++ more) ≡ drop at text ++ more
  pub says : (workers place : ℕ) (begun : Bool) → said.worker < workers →
      (said.is_row && begun) ≡ false → read_record workers place begun fields ≡ Ok said
  pub after : at < next
  pub within : next ≤ length text
