-- What is found of a history, by the text of rows and scripts, and what is said of it.
use Rattle.std.specs.Prelude.{ℕ, ◌≡◌, List, Ok, Option, IfSome}
use Rattle.auction_rows.specs.declared.requests.{Request.Request, Opened.Opened}
use Rattle.auction_text.specs.Scripts.{input_of}
use Rattle.item_shards.specs.OpeningRows.{AreRows, opening_rows}
use Rattle.history_check.specs.{Checking.{IsAccepted, IsVerdict}, declared.lines.Verdict.{Verdict}}
use Rattle.history_check.specs.declared.lines.Verdict.TheVariants.{Replays}
use Rattle.rubis_check.specs.{VerdictLines.{Says}, declared.options.Options.{Options}}

-- The input has no fault and asks for rows, each a row at its place, and for scripts; and this is
-- found of a text of theirs, with this line as its first wrong one if a line is wrong.
pub record IsFound (options : Options) (input text line : List ℕ) (verdict : Verdict) : Type 0 where
  pub rows : List Opened
  pub scripts : List (List Request)
  pub reads : input_of options.workers input ≡ Ok (record { rows = rows; scripts = scripts })
  pub are_rows : AreRows options.opening rows
  pub found : IsVerdict options.opening (opening_rows options.opening rows) scripts
      options.order text line verdict
  -- what is accepted is found to replay
  pub accepted : IsAccepted options.opening (opening_rows options.opening rows) scripts
      options.order text → verdict ≡ Replays

-- A text says what is found of a history, with its wrong line if a line is wrong, and this holds of
-- the text. What is found is true if the bytes of the input and of the history are known.
pub record Tells (options : Options) (input history : Option (List ℕ)) (verdict : Verdict)
    (Holds : List ℕ → Type 0) : Type 0 where
  pub line : List ℕ
  pub found : IfSome input (λ input. IfSome history (λ text.
      IsFound options input text line verdict))
  pub says : Says line verdict Holds

-- A text says of some verdict that it is found of a history, and this holds of the text.
pub record TellsSome (options : Options) (input history : Option (List ℕ))
    (Holds : List ℕ → Type 0) : Type 0 where
  pub verdict : Verdict
  pub tells : Tells options input history verdict Holds
