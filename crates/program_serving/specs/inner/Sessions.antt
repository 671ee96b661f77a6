-- What is known between two parts of an input.
use Rattle.std.specs.Prelude.{ℕ, ◌≡◌, ◌++◌, List, [], ◌∷◌, Option, None, Some, IfSome, false}
use Rattle.auction_rows.specs.Book.{Book}
use Rattle.auction_text.specs.{LineFault.{LineFault}, LiveEnd.{LiveEnd}}
use Rattle.auction_text.specs.{LiveEnd.TheVariants.{More, Fault, All}, LiveInput.{LiveInput}}
use Rattle.auction_text.specs.{LiveParts.{HasToSay, live_workers}, Moved.{Gone, gone_by}}
use Rattle.auction_text.specs.{ReadFault.{ReadFault}, Said.{Said}}
use Rattle.auction_text.specs.Said.TheVariants as says
use Rattle.program_opening.specs.declared.options.Options.{Options}
use Rattle.program_serving.specs.{ErrorFaults.{AddsTold, unanswered}, FaultLines.{fault_text, limit_text}}
use Rattle.program_serving.specs.PartRuns.{IsStart, rows_before}
use Rattle.program_serving.specs.Serving.{IsServed, Step, Telling, book_left, ends_at_fault, gone_after, line_answer, nothing_gone, served_rows, served_text, turned_answer}
use Rattle.program_serving.specs.declared.fault_lines.Turned.{TheVariants.{Line, Past}, Turned}
use Rattle.program_serving.specs.declared.fault_lines.TurnedLine.{TurnedLine}
use Rattle.program_serving.specs.declared.{parts.Served.{Served}, session.Session.{Session}}

-- an input of so many workers has yet to say this
abbrev pub YetToSay : {R : Type 0} → (R → Option (List ℕ)) → ℕ → LiveInput R → List Said → Type 0
YetToSay remaining workers left rest =
    (live_workers left ≡ workers) × HasToSay remaining left rest

-- an input that goes on so has yet to say this
abbrev pub GoesOnTo : {R : Type 0} → (R → Option (List ℕ)) → ℕ → LiveEnd R → List Said → Type 0
GoesOnTo remaining workers (More left) rest = YetToSay remaining workers left rest
GoesOnTo remaining workers (Fault met left) rest = (behind : List Said)
    × ((rest ≡ says.Fault met ∷ behind) × YetToSay remaining workers left behind)
GoesOnTo remaining workers All rest = rest ≡ []

-- what may be left of an input has yet to say this
abbrev pub MayHaveToSay : {R : Type 0} → (R → Option (List ℕ)) → ℕ → Option (LiveInput R) →
    List Said → Type 0
MayHaveToSay remaining workers None rest = rest ≡ []
MayHaveToSay remaining workers (Some left) rest = YetToSay remaining workers left rest

-- what a line says, if it has a fault
abbrev pub fault_said : Option LineFault → List Said
fault_said None = []
fault_said (Some met) = says.Fault met ∷ []

-- the words in which a line is turned away
abbrev pub turned_text : Turned → List ℕ
turned_text (Line fault) = fault_text fault
turned_text (Past limit) = limit_text limit

-- the answer to a line that is turned away so
abbrev pub answer_to : Options → Gone → TurnedLine → List ℕ
answer_to options gone line = turned_answer options gone line.worker (turned_text line.turned)

-- the answer to a line, if it has a fault
abbrev pub fault_answer : Options → Gone → Option LineFault → List ℕ
fault_answer options gone None = []
fault_answer options gone (Some met) = line_answer options gone (says.Fault met)

-- the answer to a worker's request past a limit, if there is one
abbrev pub past_answer : Options → Gone → ℕ → Option ℕ → List ℕ
past_answer options gone limit None = []
past_answer options gone limit (Some worker) =
    turned_answer options gone (Some worker) (limit_text limit)

-- The next line is passed if it has a fault, which does not end the input, this holds of its
-- answer, and that is left.
pub record PassesFault {R : Type 0} (remaining : R → Option (List ℕ)) (workers : ℕ)
    (options : Options) (gone : Gone) (left : Option (LiveInput R)) (rest : List Said)
    (Holds : List ℕ → List ℕ → Type 0) : Type 0 where
  pub met : Option LineFault
  pub goes_on : IfSome met (λ _. ends_at_fault options ≡ false)
  pub behind : List Said
  pub rest_is : rest ≡ fault_said met ++ behind
  pub left_is : MayHaveToSay remaining workers left behind
  pub holds : Holds [] (fault_answer options gone met)

-- An input is served so far from a book, this holds of the rows and of the text, and that is left.
pub record IsSession (options : Options) (book : Book) (all : List Said) (served : Served)
    (Left : List Said → Type 0) (Holds : List ℕ → List ℕ → Type 0) : Type 0 where
  pub steps : List Step
  pub rest : List Said
  pub so_far : IsServed options book all steps rest
  pub start : IsStart options served.auction (book_left options book steps)
  pub rows : served.rows ≡ rows_before steps
  pub before : gone_by served.before ≡ gone_after options steps
  pub left : Left rest
  pub holds : Holds (served_rows steps) (served_text options nothing_gone steps)

-- An input is served so far from a book, all that was asked for of it is told, and a session goes
-- on with the rest.
abbrev pub IsServedSoFar : {R : Type 0} → (R → Option (List ℕ)) → Telling → Options → Book →
    List Said → Session R → Type 0
IsServedSoFar remaining told options book all session =
    IsSession options book all session.served (GoesOnTo remaining options.workers session.end)
    told.whole

-- Of what an input has yet to say, the faults of lines that have no answer were told of the first,
-- and it goes on with the rest.
pub record HasTold (told next_told : Option (List ReadFault)) (options : Options)
    (rest : List Said) (GoesOn : List Said → Type 0) : Type 0 where
  pub faults : List ReadFault
  pub behind : List Said
  pub splits : unanswered options rest ≡ faults ++ unanswered options behind
  pub adds : AddsTold told next_told faults
  pub goes_on : GoesOn behind

-- what goes on behind a part: nothing at the end of the input
abbrev pub MayGoOnTo : {R : Type 0} → (R → Option (List ℕ)) → ℕ → Option (Session R) →
    List Said → Type 0
MayGoOnTo remaining workers None rest = rest ≡ []
MayGoOnTo remaining workers (Some session) rest = GoesOnTo remaining workers session.end rest
