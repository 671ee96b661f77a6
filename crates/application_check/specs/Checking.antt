-- What the referee finds of a history that is given as lines.
use Rattle.std.specs.List.{list_any}
use Rattle.std.specs.Prelude.{◌≡◌, ℕ, ◌==◌, ◌&&◌, Bool, true, false, List, [], ◌∷◌, ◌++◌, Option, Some, None, fold, take, slice_get, ⊤}
use Rattle.split_engine.specs.{Rules.{Rules}, Serial.{reply, next}, Serving.{request_at}}
use Rattle.application_check.specs.declared.referee.HistoryFault.{HistoryFault}
use Rattle.application_check.specs.declared.referee.HistoryFault.TheVariants.{Wrong, Lacking, Memory}
use Rattle.application_check.specs.declared.referee.HistoryLine.{HistoryLine}

-- whether one of some lines has this request
abbrev pub has_line : {R : Type 0} → List (HistoryLine R) → ℕ → ℕ → Bool
has_line lines worker index =
    list_any (λ line. (line.worker == worker) && (line.index == index)) lines

module _ {Record Slice Look Request Reply Act : Type 0}
    (rules : Rules Record Slice Look Request Reply Act) (scripts : List (List Request)) where
  -- a line is right after some lines that leave this table: its request is there, none of them has
  -- it, and its reply is the one that the table gives
  pub record IsRightLine (before : List (HistoryLine Reply)) (table : List Record)
      (line : HistoryLine Reply) : Type 0 where
    pub request : Request
    pub there : request_at scripts line.worker line.index ≡ Some request
    pub first : has_line before line.worker line.index ≡ false
    pub reply_is : line.reply ≡ reply rules table request

  -- the table after a request, if there is one
  abbrev pub next_if : List Record → Option Request → List Record
  next_if table None = table
  next_if table (Some q) = next rules table q

  -- the table after a line
  abbrev pub after_line : List Record → HistoryLine Reply → List Record
  after_line table line = next_if table (request_at scripts line.worker line.index)

  -- the table after lines
  abbrev pub after_lines : List Record → List (HistoryLine Reply) → List Record
  after_lines = fold after_line

  -- lines replay after others that leave this table: each is right after all before it
  abbrev pub LinesReplay : List (HistoryLine Reply) → List Record → List (HistoryLine Reply) → Type 0
  LinesReplay before table [] = ⊤
  LinesReplay before table (line ∷ lines) =
      IsRightLine before table line
      × LinesReplay (before ++ line ∷ []) (after_line table line) lines

  -- Lines are a history of the scripts: they replay, and each request has one.
  pub record IsHistory (table : List Record) (lines : List (HistoryLine Reply)) : Type 0 where
    pub replays : LinesReplay [] table lines
    pub none_lacks : (worker index : ℕ) (q : Request) → request_at scripts worker index ≡ Some q →
        has_line lines worker index ≡ true

  -- why lines are no history: the line at a place is the first that is not right; all are right,
  -- and no line has a request; or no memory was left to judge them
  abbrev pub IsHistoryFault : List Record → List (HistoryLine Reply) → HistoryFault → Type 0
  IsHistoryFault table lines (Wrong place) = LinesReplay [] table (take place lines)
      × (line : HistoryLine Reply) × (slice_get lines place ≡ Some line)
      × (IsRightLine (take place lines) (after_lines table (take place lines)) line → ⊥)
  IsHistoryFault table lines (Lacking worker index) = LinesReplay [] table lines
      × (q : Request) × (request_at scripts worker index ≡ Some q)
      × (has_line lines worker index ≡ false)
  IsHistoryFault table lines Memory = ⊤
