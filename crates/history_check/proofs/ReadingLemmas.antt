-- What is found while a text is read.
use Rattle.std.proofs.Common.{◌≡◌, ℕ, ◌+◌, ◌<◌, ◌≤◌, Bool, true, false, cond, List, [], ◌∷◌, ◌++◌, Option, Some, None, length, refl, subst, sym, ap, ◌∙◌, arith}
use Rattle.std.{proofs.lemmas.List.{length-append}, specs.Bool.{OnFalse, OnTrue}}
use Rattle.std.specs.Prelude.{Result, Ok, Err, IfOk, IsErrAnd, IsErrOf, IsSome, IsSomeAnd, IfSome}
use Rattle.auction_rows.specs.Book.{Book}
use Rattle.auction_rows.specs.declared.{values.Opening.Opening, requests.Request.Request, rows.Entry.Entry}
use Rattle.auction_text.specs.Replies.{history_line, reply_text}
use Rattle.history_check.proofs.LineLemmas.{HasRead, entry_line, one_read, left_read, all_read, long_read, history_lines_length}
use Rattle.history_check.proofs.{ScriptLemmas.{worker_within}, VerdictLemmas.{accepted, found}}
use Rattle.history_check.specs.Checking.{IsAccepted, IsWrong, IsVerdict}
use Rattle.history_check.specs.CommitIds.{IsLineOf, line_at, commit_id_of}
use Rattle.history_check.specs.Taking.{HasTaken, AreMarked, IsUnmarked}
use Rattle.history_check.specs.Texts.{history_lines, lines_of}
use Rattle.history_check.specs.declared.lines.{CheckFault.{CheckFault}, CommitId.{CommitId}}
use Rattle.history_check.specs.declared.lines.{Order.{Order}, Verdict.{Verdict}}
use Rattle.history_check.specs.declared.lines.Verdict.TheVariants.{Replays, WrongAt, Lacks}
use Rattle.history_check.specs.declared.{lines.Wrong.{Wrong}, replay.Replay.{Replay}}
use Rattle.history_check.specs.inner.Reading.{ReadsLine}

-- A replay has performed the entries whose lines were read of a text, so many, if the text is
-- known.
pub record IsReading (opening : Opening) (start : Book) (scripts : List (List Request))
    (order : Order) (first now : Option (List ℕ)) (replay : Replay) (number : ℕ) : Type 0 where
  pub history : List Entry
  pub taken : HasTaken opening start scripts order history replay
  pub has_read : HasRead first now history
  pub number_is : number ≡ length history

-- what holds of an entry at the place of a line, with the line's text as its reply's, holds of the line
module _ (scripts : List (List Request)) (old new : Replay) (line text : List ℕ) (commit_id : CommitId) (read : IsLineOf line commit_id text) where
  line_is : (e : Entry) → commit_id_of e ≡ commit_id → text ≡ reply_text e.reply → history_line e ≡ line
  line_is e at_place told = entry_line e ∙ (λ k. line_at (at_place k) (sym told k)) ∙ sym read.line_is

  pub right_line : (result : Result Bool CheckFault)
      → IfOk result (λ is_right. OnTrue is_right ((opening : Opening) (start : Book) (order : Order) (history : List Entry) → HasTaken opening start scripts order history old
      → (entry : Entry) × (commit_id_of entry ≡ commit_id) × (text ≡ reply_text entry.reply) × HasTaken opening start scripts order (history ++ entry ∷ []) new))
      → IfOk result (λ is_right. OnTrue is_right ((opening : Opening) (start : Book) (order : Order) (history : List Entry) → HasTaken opening start scripts order history old
      → (entry : Entry) × (history_line entry ≡ line) × HasTaken opening start scripts order (history ++ entry ∷ []) new))
  right_line (Ok true) right = λ opening start order history taken.
      let told = right opening start order history taken in (told.0, line_is told.0 told.1 told.2, told.3)
  right_line result right = tt

  pub wrong_line : (result : Result Bool CheckFault)
      → IfOk result (λ is_right. OnFalse is_right ((line : List ℕ) → IsLineOf line commit_id text
      → (opening : Opening) (start : Book) (order : Order) (history : List Entry) → HasTaken opening start scripts order history old
      → IsSomeAnd new.wrong (IsWrong opening start scripts order history line)))
      → IfOk result (λ is_right. OnFalse is_right ((opening : Opening) (start : Book) (order : Order) (history : List Entry) → HasTaken opening start scripts order history old
      → IsSomeAnd new.wrong (IsWrong opening start scripts order history line)))
  wrong_line (Ok false) wrong = wrong line read
  wrong_line result wrong = tt

-- what holds of what a value is, if there is one
pub some_there : {X : Type 0} (o : Option X) (P : X → Type 0) → IsSomeAnd o P → IsSome o
some_there None P holds = absurd holds
some_there (Some x) P holds = refl

pub some_and : {X : Type 0} (o : Option X) (x : X) (P : X → Type 0) → o ≡ Some x → IsSomeAnd o P → P x
some_and o x P is holds = subst (λ one. IsSomeAnd one P) is holds

-- a fault that is handed on is that fault
pub fault_is : {T U : Type 0} (result : Result T CheckFault) (fault other : CheckFault) → IsErrAnd result (λ e. e ≡ fault) → IsErrOf result other → IsErrOf {T = U} (Err fault) other
fault_is (Ok found) fault other handed is = absurd (cc is)
fault_is (Err e) fault other handed is = let same : e ≡ other = cc is in ap Err (sym handed ∙ same)

none_yet : (first : Option (List ℕ)) → HasRead first first []
none_yet None = tt
none_yet (Some text) = (text, refl, refl)

module _ (opening : Opening) (start : Book) (scripts : List (List Request)) (order : Order) where
  pub begins : (first : Option (List ℕ)) (replay : Replay) → HasTaken opening start scripts order [] replay
      → IsReading opening start scripts order first first replay 0
  begins first replay taken = record { history = []; taken = taken; has_read = none_yet first; number_is = refl }

  module _ (first old new : Option (List ℕ)) (replay : Replay) (number : ℕ) (line : List ℕ) (reading : IsReading opening start scripts order first old replay number) where
    pub goes_on : (after : Replay) (entry : Entry) → ReadsLine old new true line → history_line entry ≡ line
        → HasTaken opening start scripts order (reading.history ++ entry ∷ []) after → IsReading opening start scripts order first new after (number + 1)
    goes_on after entry next is taken = record {
      history = reading.history ++ entry ∷ [];
      taken = taken;
      has_read = one_read first old new reading.history entry line reading.has_read next is;
      number_is = omega (arith, reading.number_is, length-append reading.history (entry ∷ []));
    }

    pub wrong_found : (why : Wrong) → ReadsLine old new true line → IsWrong opening start scripts order reading.history line why
        → IfSome first (λ text. IsVerdict opening start scripts order text line (WrongAt (number + 1) why))
    wrong_found why next wrong = at first reading.has_read where
      at : (first : Option (List ℕ)) → HasRead first old reading.history → IfSome first (λ text. IsVerdict opening start scripts order text line (WrongAt (number + 1) why))
      at None read = tt
      at (Some text) read =
          let left = left_read text old new reading.history line read next in record {
            before = reading.history;
            rest = left.0;
            split = left.1;
            number_is = ap (λ n. n + 1) reading.number_is;
            go_well = reading.taken.go_well;
            wrong = wrong;
          }

    pub lack_found : (worker index : ℕ) → ReadsLine old new false line → IsUnmarked scripts replay.marks.rows.items worker index
        → IfSome first (λ text. IsVerdict opening start scripts order text line (Lacks worker index))
    lack_found worker index next unmarked = at first reading.has_read where
      at : (first : Option (List ℕ)) → HasRead first old reading.history → IfSome first (λ text. IsVerdict opening start scripts order text line (Lacks worker index))
      at None read = tt
      at (Some text) read = record {
        history = reading.history;
        lines_are = all_read text old new reading.history line read next;
        go_well = reading.taken.go_well;
        has_request = unmarked.has_request;
        in_no_line = reading.taken.marks worker index unmarked.worker_below ∙ ap (λ b. cond b 1 0) unmarked.no_mark;
      }

    pub all_found : length scripts ≤ 16 → ReadsLine old new false line → AreMarked scripts replay.marks.rows.items
        → IfSome first (λ text. IsVerdict opening start scripts order text line Replays)
    all_found workers next marked = at first reading.has_read where
      at : (first : Option (List ℕ)) → HasRead first old reading.history → IfSome first (λ text. IsVerdict opening start scripts order text line Replays)
      at None read = tt
      at (Some text) read =
          accepted opening start scripts order text reading.history (all_read text old new reading.history line read next) reading.taken.go_well
          (λ w i within.
          reading.taken.marks w i (omega (arith, workers, worker_within scripts w i within)) ∙ ap (λ b. cond b 1 0) (marked w i within))

    -- where a line more is too many
    pub one_too_many : ReadsLine old new true line → 16000000 ≤ replay.rows → IfSome first (λ text. 16000000 < length start + length (lines_of text))
    one_too_many next full = at first reading.has_read where
      at : (first : Option (List ℕ)) → HasRead first old reading.history → IfSome first (λ text. 16000000 < length start + length (lines_of text))
      at None read = tt
      at (Some text) read =
          let left = left_read text old new reading.history line read next in
          omega (arith, full, reading.taken.count, ap length left.1, length-append (history_lines reading.history) (line ∷ left.0), history_lines_length reading.history)

    pub many_read : 16000000 < number → IfSome first (λ text. 16000000 < length start + length (lines_of text))
    many_read many = at first reading.has_read where
      at : (first : Option (List ℕ)) → HasRead first old reading.history → IfSome first (λ text. 16000000 < length start + length (lines_of text))
      at None read = tt
      at (Some text) read = omega (arith, many, reading.number_is, long_read text old reading.history read)

  -- what is accepted is found to be
  pub finds : (first : Option (List ℕ)) (line : List ℕ) (verdict : Verdict) → IfSome first (λ text. IsVerdict opening start scripts order text line verdict)
      → IfSome first (λ text. IsAccepted opening start scripts order text → verdict ≡ Replays)
  finds None line verdict is = tt
  finds (Some text) line verdict is = λ ok. found opening start scripts order text ok line verdict is
