-- What a log of requests says, and which table it opens.
use Rattle.std.specs.List.{filter_map, AllByRecursion}
use Rattle.std.specs.Prelude.{◌≡◌, ℕ, Bool, List, ◌++◌, Option, Some, drop, fold, length, map, take}
use Rattle.split_engine.specs.{Rules.{Rules}, Serial.{next}, declared.entry.Entry.{Entry}}
use Rattle.part_log.specs.Files.{LogState}
use Rattle.application_log.specs.Lines.{HasNoEnd, IsTail, text_of}

-- the requests of a history
abbrev pub requests_of : {Request Reply : Type 0} → List (Entry Request Reply) → List Request
requests_of history = map (λ e. e.request) history

-- the table after requests
abbrev pub after_requests : {Record Slice Look Request Reply Act : Type 0}
    → Rules Record Slice Look Request Reply Act → List Record → List Request → List Record
after_requests rules = fold (next rules)

module _ {Request : Type 0} (line : Request → Option (List ℕ)) where
  -- the lines of requests, of those that have one
  abbrev pub lines_of : List Request → List (List ℕ)
  lines_of = filter_map line

  -- their text
  abbrev pub log_text : List Request → List ℕ
  log_text requests = text_of (lines_of requests)

  -- a request is the only one in range that has its line
  pub record IsReadBack (IsInRange : Request → Type 0) (q : Request) : Type 0 where
    pub text : List ℕ
    pub line_is : line q ≡ Some text
    pub only : (p : Request) → IsInRange p → line p ≡ Some text → p ≡ q

module _ {Record Slice Look Request Reply Act : Type 0}
    (rules : Rules Record Slice Look Request Reply Act)
    (line : Request → Option (List ℕ)) (IsInRange : Request → Type 0) where
  -- Requests were performed on a table: they have so many lines, and these so many bytes.
  pub record HasOpened (table : List Record) (requests : List Request) (left : List Record)
      (lines kept : ℕ) : Type 0 where
    pub in_range : AllByRecursion IsInRange requests
    pub read_back : AllByRecursion (IsReadBack line IsInRange) requests
    pub leaves : left ≡ after_requests rules table requests
    pub lines_are : lines ≡ length requests
    pub kept_are : kept ≡ length (log_text line requests)

  -- What bytes open: they are the lines of requests, and behind them a line that has no end.
  pub record Opens (table left : List Record) (lines kept : ℕ) (bytes : List ℕ) : Type 0 where
    pub requests : List Request
    pub behind : List ℕ
    pub opened : HasOpened table requests left lines kept
    pub text : bytes ≡ log_text line requests ++ behind
    pub cut : HasNoEnd behind

  -- What bytes opened of a file, by what may be cut: so many of them were cut off, and the log has
  -- accepted just those before.
  pub record IsOpenedFrom (is_cut : List ℕ → Bool) (table left : List Record) (lines cut : ℕ)
      (log : LogState) (bytes : List ℕ) : Type 0 where
    pub kept : ℕ
    pub opens : Opens table left lines kept bytes
    pub accepted : log.accepted ≡ Some (take kept bytes)
    pub cut_is : cut ≡ length (drop kept bytes)
    pub tail : IsTail is_cut (drop kept bytes)
