-- What a log has of an auction that is served.
use Rattle.std.proofs.Common.{◌≡◌, ◌++◌, ◌∷◌, ◌∙◌, ◌⊎◌, ℕ, List, [], Option, None, Some, IfErr, IfSome, OnOk, Result, Ok, Err, append_assoc, append-nil, inl, inr, ap, sym}
use Rattle.std.{proofs.lemmas.Option.{IfSome_then}, specs.Io.KnownBytes.{Appends}}
use Rattle.std.specs.Result.{IsErr, IsErrAnd}
use Rattle.auction_rows.{proofs.HistoryLemmas.{book_after-replays}, specs.Book.{Book}}
use Rattle.auction_rows.specs.{History.{book_after, rows_of}, declared.values.Opening.{Opening}}
use Rattle.auction_text.specs.{Moved.{Gone}, Replies.{lines}, RowLines.{row_line, rows_text}}
use Rattle.auction_text.specs.{Said.{Said}, Scripts.{asked_in}}
use Rattle.log_opening.proofs.AcceptedLemmas.{joined, rows_alone}
use Rattle.part_log.specs.declared.log.Teller.{Teller}
use Rattle.program_opening.specs.{Options.{opening_asked}, declared.faults.Fault.{Fault}}
use Rattle.program_opening.specs.declared.faults.Fault.TheVariants.{Read}
use Rattle.program_opening.specs.declared.options.Options.{Options}
use Rattle.phase_floor.specs.States.{JoinedState}
use Rattle.program_serving.proofs.Sessions.{all_more, each_more, runs_more, text_more}
use Rattle.program_serving.proofs.ToldLemmas.{part_kept, part_more, told_at, whole_part}
use Rattle.program_serving.specs.PartRuns.{IsStart, rows_before}
use Rattle.program_serving.specs.ServeFaults.{AreToldAt, IsPartFault, IsServeFault, IsStop, StopsAtAnswer, StopsAtPart}
use Rattle.program_serving.specs.Serving.{AreStepRuns, HasServedBook, IsLoggedBefore, IsStepRun, LogHasBook, Part, Answer, PartRun, ServesAll, ServesFirst, Step, book_left, book_past, gone_after, line_answer, nothing_gone, served_rows, served_text, step_rows, step_said, step_text, told_by}

-- nothing is said of a success that there is not
pub no_success : {T E : Type 0} (r : Result T E) (e : E) (P : Type 0) → IsErr r × IsErrAnd r (λ x. x ≡ e) → OnOk r P
no_success (Ok x) e P is = absurd (let no = is.0 in cc)
no_success (Err x) e P is = tt

-- the rows of a book and those that a step adds
step_told : (options : Options) (book : Book) (step : Step) → IsStepRun options book step → rows_text book [] ++ step_rows step ≡ rows_text (book_past options book step) []
step_told options book (Answer line) run = append-nil (rows_text book [])
step_told options book (Part part) run =
    let opening : Opening = opening_asked options in let from : Book = book ++ part.added in
    ap (λ (a : List ℕ). a ++ rows_text part.added part.history) (rows_alone book) ∙ joined book (part.added ++ rows_of part.history)
    ∙ ap (lines row_line) (sym (append_assoc book part.added (rows_of part.history)) ∙ sym (book_after-replays opening from part.history run.answer.replays))
    ∙ sym (rows_alone (book_after opening from part.history))

-- the rows of a book and those that steps add
all_told : (options : Options) (book : Book) (steps : List Step) → AreStepRuns options book steps → rows_text book [] ++ served_rows steps ≡ rows_text (book_left options book steps) []
unfolding AreStepRuns
all_told options book [] are = append-nil (rows_text book [])
all_told options book (step ∷ steps) are =
    sym (append_assoc (rows_text book []) (step_rows step) (served_rows steps))
    ∙ ap (λ (a : List ℕ). a ++ served_rows steps) (step_told options book step are.0)
    ∙ all_told options (book_past options book step) steps are.1

has_more : (old new : Option (List ℕ)) (book after : Book) (more : List ℕ) → rows_text book [] ++ more ≡ rows_text after [] → LogHasBook old book → Appends old new more → LogHasBook new after
has_more None new book after more is had added = absurd (let no = had in cc)
has_more (Some known) None book after more is had added = absurd added
has_more (Some known) (Some now) book after more is had added =
    let same : known ≡ rows_text book [] = cc in
    ap Some (added ∙ ap (λ (a : List ℕ). a ++ more) same ∙ is)

-- what a log has after what was logged before it was told
pub served_book : {L W : Type 0} (accepted : L → Option (List ℕ)) (contents : W → Option (List ℕ)) (old new : Teller L W) (options : Options) (book : Book) (all : List Said)
    → LogHasBook (accepted old.log) book → IsLoggedBefore (told_by accepted contents old new) options book all → HasServedBook (accepted new.log) options book all
served_book accepted contents old new options book all had first = record {
  steps = first.steps;
  rest = first.rest;
  served = first.served;
  has = has_more (accepted old.log) (accepted new.log) book (book_left options book first.steps) (served_rows first.steps) (all_told options book first.steps first.served.runs) had first.holds.0;
}

-- ---- what is logged before it is told

module _ {L W : Type 0} (accepted : L → Option (List ℕ)) (contents : W → Option (List ℕ)) (options : Options) (book : Book) (all : List Said) (old between new : Teller L W) where
  -- nothing more is told
  told_kept : ServesFirst options book all (told_by accepted contents old between).whole → (told_by accepted contents between new).nothing → IsLoggedBefore (told_by accepted contents old new) options book all
  told_kept told kept = record {
    steps = told.steps;
    rest = told.rest;
    served = told.served;
    holds = part_kept accepted contents old between new (served_rows told.steps) (served_text options nothing_gone told.steps) told.holds kept;
  }

  -- one step more, which may not be told whole
  told_step : (told : ServesFirst options book all (told_by accepted contents old between).whole) (step : Step) (behind : List Said) → told.rest ≡ step_said step ++ behind
      → IsStepRun options (book_left options book told.steps) step
      → (told_by accepted contents between new).part (step_rows step) (step_text options (gone_after options told.steps) step) ⊎ (told_by accepted contents between new).nothing
      → IsLoggedBefore (told_by accepted contents old new) options book all
  told_step told step behind is run (inr kept) = told_kept told kept
  told_step told step behind is run (inl part) =
      let more : List Step = told.steps ++ step ∷ [] in record {
        steps = more;
        rest = behind;
        served = record { all_is = all_more all told.rest behind told.steps step told.served.all_is is; runs = runs_more options book told.steps step told.served.runs run };
        holds = part_more accepted contents old between new (served_rows told.steps) (step_rows step) (served_rows more)
            (served_text options nothing_gone told.steps) (step_text options (gone_after options told.steps) step) (served_text options nothing_gone more)
            (sym (each_more step_rows told.steps step)) (text_more options nothing_gone told.steps step) told.holds part;
      }

  module _ (told : ServesFirst options book all (told_by accepted contents old between).whole) (fault : Fault) where
    abbrev at : Book
    at = book_left options book told.steps

    abbrev gone : Gone
    gone = gone_after options told.steps

    answer_told : StopsAtAnswer options at gone told.rest (AreToldAt (told_by accepted contents between new) fault) → IsLoggedBefore (told_by accepted contents old new) options book all
    answer_told stops =
        told_step told (Answer stops.line) stops.behind stops.rest_is (stops.goes_on, stops.turned_away) (told_at (told_by accepted contents between new) fault [] (line_answer options gone stops.line) stops.holds)

    part_told : (stops : StopsAtPart (told_by accepted contents between new) options at gone (rows_before told.steps) told.rest fault)
        → IsPartFault (told_by accepted contents between new) options at gone (rows_before told.steps) (asked_in options.workers stops.next) fault → IsLoggedBefore (told_by accepted contents old new) options book all
    part_told stops (inl why) = told_kept told why.0
    part_told stops (inr runs) =
        let part : PartRun = record { said = stops.next; added = runs.added; hot = runs.hot; history = runs.history } in
        told_step told (Part part) stops.behind stops.rest_is (record { few = stops.few; adds = runs.adds; answer = runs.answer })
        (told_at (told_by accepted contents between new) fault (step_rows (Part part)) (step_text options gone (Part part)) runs.holds)

    told_either : StopsAtAnswer options at gone told.rest (AreToldAt (told_by accepted contents between new) fault) ⊎ StopsAtPart (told_by accepted contents between new) options at gone (rows_before told.steps) told.rest fault
        → IsLoggedBefore (told_by accepted contents old new) options book all
    told_either (inl stops) = answer_told stops
    told_either (inr stops) = part_told stops stops.stops

  told_stop : (told : ServesFirst options book all (told_by accepted contents old between).whole) (fault : Fault)
      → IsStop (told_by accepted contents between new) options (book_left options book told.steps) (gone_after options told.steps) (rows_before told.steps) told.rest fault → IsLoggedBefore (told_by accepted contents old new) options book all
  told_stop told (Read fault) stops = told_kept told stops.0
  told_stop told fault stops = told_either told fault stops

module _ {L W : Type 0} (accepted : L → Option (List ℕ)) (contents : W → Option (List ℕ)) (options : Options) (book : Book) (old new : Teller L W) where
  -- whatever ends serving, what is written was logged before
  fault_logged : (all : List Said) (fault : Fault) → IsServeFault (told_by accepted contents) old new options book all fault → IsLoggedBefore (told_by accepted contents old new) options book all
  fault_logged all fault why = told_stop accepted contents options book all old why.between new why.told fault why.stops

  all_logged : (all : List Said) → ServesAll options book all (told_by accepted contents old new).whole → IsLoggedBefore (told_by accepted contents old new) options book all
  all_logged all all_served = record {
    steps = all_served.steps;
    rest = [];
    served = all_served.served;
    holds = (all_served.holds.0, whole_part (contents old.writer) (contents new.writer) (served_text options nothing_gone all_served.steps) all_served.holds.1);
  }

  module _ (known : Option (List ℕ)) (says : List ℕ → List Said) (auction : JoinedState) (start : IsStart options auction book) where
    -- whether serving ends with a fault or not
    pub either_logged : {T : Type 0} (result : Result T Fault)
        → OnOk result ((b : Book) → IsStart options auction b → IfSome known (λ input. ServesAll options b (says input) (told_by accepted contents old new).whole))
        → IfErr result (λ fault. (b : Book) → IsStart options auction b → IfSome known (λ input. IsServeFault (told_by accepted contents) old new options b (says input) fault))
        → IfSome known (λ input. IsLoggedBefore (told_by accepted contents old new) options book (says input))
    either_logged (Ok done) good cause = IfSome_then known (good book start) (λ input. all_logged (says input))
    either_logged (Err fault) good cause = IfSome_then known (cause book start) (λ input. fault_logged (says input) fault)
