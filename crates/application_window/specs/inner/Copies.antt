-- What a copy of the table keeps, what it takes in, and what it shows.
use mathlib.Core.List.{IsPrefix}
use Rattle.std.specs.{List.{AllByRecursion}, Prelude.{◌≡◌, ℕ, ◌≤◌, List, [], ◌∷◌, ◌++◌, length}}
use Rattle.split_engine.specs.{Rules.{Rules, most_acts}, Serving.{total}}
use Rattle.split_engine.specs.declared.entry.Entry.{Entry}
use Rattle.application_window.specs.{Published.{table_of, AreWithin}, declared.window.Seen.{Seen}}

module _ {Record Slice Look Request Reply Act : Type 0}
    (rules : Rules Record Slice Look Request Reply Act) where
  -- a table is the one after these parts, which have so many commits, and so many acts make each of
  -- its records
  pub record HasParts (Fits : ℕ → Record → Type 0) (opened table : List Record)
      (acts commits : ℕ) (parts : List (List (Entry Request Reply))) : Type 0 where
    pub table_is : table ≡ table_of rules opened parts
    pub fits : AllByRecursion (Fits acts) table
    pub few : acts ≤ most_acts
    pub fewer : commits ≤ acts
    pub count : commits ≡ total parts

  -- these commits are the last of the parts, and name keys of the table
  pub record IsLastPart (opened : List Record) (last : List (Entry Request Reply))
      (parts : List (List (Entry Request Reply))) : Type 0 where
    -- the parts before it
    pub before : List (List (Entry Request Reply))
    pub parts_are : parts ≡ before ++ last ∷ []
    pub within : AreWithin rules (length opened) last

  -- a value is shown of the table after parts that begin with those that are known
  pub record Shows {T : Type 0} (opened : List Record) (known : List (List (Entry Request Reply)))
      (value_of : List Record → T) (shown : List (List (Entry Request Reply)) × Seen T) : Type 0 where
    pub onward : IsPrefix known shown.0
    pub commits : shown.1.commits ≡ total shown.0
    pub value : shown.1.value ≡ value_of (table_of rules opened shown.0)
