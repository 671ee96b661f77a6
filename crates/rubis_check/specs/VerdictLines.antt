-- The line that says what is found of a history.
use Rattle.std.specs.Prelude.{ℕ, List, [], ◌++◌, Option, Some, None, codes, decimal, map, if◌then◌else◌}
use Rattle.auction_text.specs.Fields.{is_printing}
use Rattle.auction_text.specs.Replies.{reply_text}
use Rattle.byte_texts.specs.Labels.{labelled}
use Rattle.history_check.specs.{CommitIds.{IsLineOf}, declared.lines.CommitId.{CommitId}}
use Rattle.history_check.specs.declared.lines.Verdict.{Verdict}
use Rattle.history_check.specs.declared.lines.Verdict.TheVariants.{Replays, WrongAt, Lacks}
use Rattle.history_check.specs.declared.lines.Wrong.{Wrong}
use Rattle.history_check.specs.declared.lines.Wrong.TheVariants.{Unreadable, NoRequest, Again, Late, Due}

-- the worker and the index of a commit
abbrev pub place_text : CommitId → List ℕ
place_text commit_id =
    decimal commit_id.worker ++ labelled (codes ",") commit_id.index ++ codes " "

-- a byte as it is shown: a question mark, which is 63, in place of one that does not print
abbrev pub shown_byte : ℕ → ℕ
shown_byte byte = if is_printing byte then byte else 63

-- what is wrong with a line that has this reply
abbrev pub reason_text : List ℕ → Wrong → List ℕ
reason_text reply Unreadable = codes "not PHASE NUMBER WORKER INDEX TEXT and a line feed\n"
reason_text reply NoRequest = codes "stands in no script\n"
reason_text reply Again = codes "stands in an earlier line\n"
reason_text reply Late = codes "stands after a later request of its script\n"
reason_text reply (Due due) = map shown_byte reply ++ codes " but " ++ reply_text due ++ codes " was due\n"

-- what is said of a wrong line, by the commit and the reply that it has, if it can be read
abbrev pub wrong_text : Option CommitId → List ℕ → Wrong → List ℕ
wrong_text (Some commit_id) reply wrong = place_text commit_id ++ reason_text reply wrong
wrong_text None reply wrong = reason_text [] wrong

-- a line is that of a commit and its reply, or of none
abbrev pub IsReadAs : List ℕ → Option CommitId → List ℕ → Type 0
IsReadAs line (Some commit_id) reply = IsLineOf line commit_id reply
IsReadAs line None reply = (commit_id : CommitId) (text : List ℕ) → ¬ IsLineOf line commit_id text

-- A text says what is wrong with a line, and this holds of the text.
pub record SaysWrong (line : List ℕ) (wrong : Wrong) (Holds : List ℕ → Type 0) : Type 0 where
  pub commit_id : Option CommitId
  pub reply : List ℕ
  pub reads : IsReadAs line commit_id reply
  pub holds : Holds (wrong_text commit_id reply wrong)

-- a text says what is found, with what is wrong with this line if one is, and this holds of the
-- text
abbrev pub Says : List ℕ → Verdict → (List ℕ → Type 0) → Type 0
Says line Replays Holds = Holds (codes "the history replays\n")
Says line (WrongAt number wrong) Holds = SaysWrong line wrong (λ said.
    Holds (labelled (codes "line ") number ++ codes ": " ++ said))
Says line (Lacks worker index) Holds =
    Holds (decimal worker ++ labelled (codes ",") index ++ codes " stands in no line\n")
