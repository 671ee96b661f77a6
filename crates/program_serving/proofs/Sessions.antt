-- An input that is served step by step: one part or one answer more.
use Rattle.std.proofs.Common.{◌≡◌, ◌≤◌, ◌+◌, ◌++◌, ◌∷◌, ◌∙◌, Bool, false, ℕ, List, [], Option, None, Some, IfSome, MatchOption, flat_map, fold, if◌then◌else◌, length, refl, sym, ap, subst, append_assoc, append-nil, arith}
use Rattle.std.proofs.lemmas.{Grind.{flat_map-append}, List.{length-append}}
use Rattle.std.proofs.lemmas.List.{Elements.{filter_map-append}, Sums.{fold-append}}
use Rattle.std.specs.List.{cons_option}
use Rattle.auction_rows.specs.Book.{Book}
use Rattle.auction_rows.specs.declared.requests.{Request.Request, Opened.Opened}
use Rattle.auction_text.specs.{LineFault.{LineFault}, LiveEnd.{LiveEnd}}
use Rattle.auction_text.specs.{LiveEnd.TheVariants.{More, Fault, All}, LiveInput.{LiveInput}}
use Rattle.auction_text.specs.LivePart.{LivePart}
use Rattle.auction_text.specs.LiveParts.{GoesOnAfter, IsLivePart, KeepsLiveWorkers, row_said, rows_said}
use Rattle.auction_text.specs.{LiveReading.{records_said}, Moved.{Gone, gone_by}}
use Rattle.auction_text.specs.{ReadFault.{ReadFault}, Reading.{IsInputFault}, Record.{Record}}
use Rattle.auction_text.specs.{Said.{Said}, Scripts.{Asked, asked_in, asked_of}}
use Rattle.auction_text.specs.Said.TheVariants as says
use Rattle.item_shards.specs.OpeningRows.{rows_by}
use Rattle.part_log.specs.declared.log.Teller.{Teller}
use Rattle.shard_boxes.specs.declared.limits.TheConstants.{MOST_COMMITS}
use Rattle.program_opening.specs.declared.faults.Fault.TheVariants.{Read}
use Rattle.program_opening.specs.declared.options.Options.{Options}
use Rattle.program_opening.specs.declared.faults.Fault.{Fault as AnyFault}
use Rattle.program_serving.proofs.FaultLemmas.{answer_stops}
use Rattle.program_serving.proofs.PastLimits.{IsNextPast, LeftBehind, ReadsPart}
use Rattle.program_serving.proofs.RowsBefore.{same_rows}
use Rattle.program_serving.proofs.ToldLemmas.{nothing_told, told_more, told_none}
use Rattle.program_serving.specs.PartRuns.{IsStart, rows_before}
use Rattle.program_serving.specs.ServeFaults.{AreToldAt, IsPartFault, IsServeFault, IsStop, StopsAtPart}
use Rattle.program_serving.specs.Serving.{AreStepRuns, IsStepRun, Part, Answer, PartRun, ServesAll, Step, book_left, book_past, ends_at_fault, gone_past, line_answer, nothing_gone, served_rows, served_text, step_rows, step_said, step_text, told_by}
use Rattle.program_serving.specs.declared.parts.Served.{Served}
use Rattle.program_serving.specs.inner.Parts.{AreDoneOf, BeginsAt, ServesPart}
use Rattle.program_serving.specs.inner.Sessions.{GoesOnTo, IsSession, MayHaveToSay, PassesFault, fault_answer, fault_said, past_answer}
use Rattle.auction_run.proofs.GoingOnLemmas.{stored}

-- what each step gives, with one more
pub each_more : {X Y : Type 0} (f : X → List Y) (xs : List X) (x : X) → flat_map f (xs ++ x ∷ []) ≡ flat_map f xs ++ f x
each_more f xs x = flat_map-append f xs (x ∷ []) ∙ ap (λ ys. flat_map f xs ++ ys) (append-nil (f x))

pub text_more : (options : Options) (gone : Gone) (steps : List Step) (step : Step)
    → served_text options gone steps ++ step_text options (fold (gone_past options) gone steps) step ≡ served_text options gone (steps ++ step ∷ [])
unfolding served_text
text_more options gone [] step = sym (append-nil (step_text options gone step))
text_more options gone (first ∷ steps) step =
    let own : List ℕ = step_text options gone first in
    let next : Gone = gone_past options gone first in
    append_assoc own (served_text options next steps) (step_text options (fold (gone_past options) next steps) step) ∙ ap (λ (xs : List ℕ). own ++ xs) (text_more options next steps step)

pub runs_more : (options : Options) (book : Book) (steps : List Step) (step : Step) → AreStepRuns options book steps → IsStepRun options (book_left options book steps) step
    → AreStepRuns options book (steps ++ step ∷ [])
unfolding AreStepRuns
runs_more options book [] step are one = (one, tt)
runs_more options book (first ∷ steps) step are one = (are.0, runs_more options (book_past options book first) steps step are.1 one)

pub all_more : (all rest behind : List Said) (steps : List Step) (step : Step) → all ≡ flat_map step_said steps ++ rest → rest ≡ step_said step ++ behind
    → all ≡ flat_map step_said (steps ++ step ∷ []) ++ behind
all_more all rest behind steps step is more =
    let said : List Said = flat_map step_said steps in
    is ∙ ap (λ (xs : List Said). said ++ xs) more ∙ sym (append_assoc said (step_said step) behind) ∙ ap (λ (xs : List Said). xs ++ behind) (sym (each_more step_said steps step))

rows_more : (steps : List Step) (step : Step) → rows_before (steps ++ step ∷ []) ≡ rows_before steps + length (rows_said (step_said step))
rows_more steps step =
    let said : List Said = flat_map step_said steps in
    ap (λ (xs : List Said). length (rows_said xs)) (each_more step_said steps step) ∙ ap length (filter_map-append row_said said (step_said step)) ∙ length-append (rows_said said) (rows_said (step_said step))

-- what is nothing
pub is_none : {T : Type 0} (known : Option T) → ((x : T) → known ≡ Some x → ⊥) → known ≡ None
is_none None not_some = refl
is_none (Some x) not_some = absurd (not_some x refl)

-- how an input goes on after a part
pub goes_on_to : {R : Type 0} (remaining : R → Option (List ℕ)) (workers : ℕ) (all : List Said) (said : List Record) (end : LiveEnd R) → GoesOnAfter remaining all said end → KeepsLiveWorkers workers end
    → (behind : List Said) × ((all ≡ records_said said ++ behind) × GoesOnTo remaining workers end behind)
goes_on_to remaining workers all said (More left) on keeps = (on.0, (on.1.1.0, (keeps, on.1.1.1.left_is)))
goes_on_to remaining workers all said (Fault met left) on keeps = (says.Fault met ∷ on.0, (on.1.0, (on.0, (refl, (keeps, on.1.1.left_is)))))
goes_on_to remaining workers all said All on keeps = ([], (on ∙ sym (append-nil (records_said said)), refl))

-- a part is read of what an input has yet to say
pub part_read : {R : Type 0} (remaining : R → Option (List ℕ)) (options : Options) (workers most : ℕ) → (1 ≤ options.live → most ≤ options.live) → workers ≡ options.workers → (rest : List Said) (part : LivePart R)
    → IsLivePart remaining workers most rest part → KeepsLiveWorkers workers part.end → ReadsPart options most rest (asked_of part.input) (GoesOnTo remaining options.workers part.end)
part_read remaining options workers most asked same rest part read keeps =
    let on = goes_on_to remaining options.workers rest read.said part.end read.goes_on (subst (λ (n : ℕ). KeepsLiveWorkers n part.end) same keeps) in
    record {
      said = read.said;
      behind = on.0;
      rest_is = on.1.0;
      asked_is = read.asked ∙ ap (λ (n : ℕ). asked_in n read.said) same;
      few = λ some. omega (arith, read.few, asked some);
      most_few = read.few;
      few_rows = read.few_rows;
      goes_on = on.1.1;
    }

-- nothing is served yet
pub session_begins : {L W : Type 0} (accepted : L → Option (List ℕ)) (contents : W → Option (List ℕ)) (options : Options) (book : Book) (all : List Said) (teller : Teller L W) (served : Served)
    (Left : List Said → Type 0) → IsStart options served.auction book → served.rows ≡ 0 → (gone_by served.before) ≡ nothing_gone → Left all
    → IsSession options book all served Left (told_by accepted contents teller teller).whole
unfolding AreStepRuns served_text
session_begins accepted contents options book all teller served Left start none gone left = record {
  steps = [];
  rest = all;
  so_far = record { all_is = refl; runs = tt };
  start = start;
  rows = none;
  before = gone;
  left = left;
  holds = told_none accepted contents teller;
}

if_any : {T : Type 0} (known : Option T) (P : T → Type 0) → ((x : T) → P x) → IfSome known P
if_any None P holds = tt
if_any (Some x) P holds = holds x

-- nothing is read
pub unread : {L W : Type 0} (accepted : L → Option (List ℕ)) (contents : W → Option (List ℕ)) (options : Options) (book : Book) (teller : Teller L W) (known : Option (List ℕ)) (says_this : List ℕ → List Said)
    (fault : ReadFault) → (IsInputFault fault → ⊥) → IfSome known (λ input. IsServeFault (told_by accepted contents) teller teller options book (says_this input) (Read fault))
unfolding AreStepRuns served_text
unread accepted contents options book teller known says_this fault none =
    if_any known (λ input. IsServeFault (told_by accepted contents) teller teller options book (says_this input) (Read fault)) (λ input. record {
      between = teller;
      told = record { steps = []; rest = says_this input; served = record { all_is = refl; runs = tt }; holds = told_none accepted contents teller };
      stops = (nothing_told accepted contents teller, λ is. absurd (none is));
    })

module _ {L W : Type 0} (accepted : L → Option (List ℕ)) (contents : W → Option (List ℕ)) (options : Options) (book : Book) (all : List Said) (start old new : Teller L W)
    (served : Served) (Left : List Said → Type 0) (session : IsSession options book all served Left (told_by accepted contents start old).whole) where
  -- the book that the next part is run from
  abbrev now : Book
  now = book_left options book session.steps

  -- one step more
  session_step : (step : Step) (behind : List Said) (next : Served) (Next : List Said → Type 0) → session.rest ≡ step_said step ++ behind → IsStepRun options now step
      → IsStart options next.auction (book_past options now step) → next.rows ≡ served.rows + length (rows_said (step_said step)) → (gone_by next.before) ≡ gone_past options (gone_by served.before) step
      → Next behind → (told_by accepted contents old new).whole (step_rows step) (step_text options (gone_by served.before) step) → IsSession options book all next Next (told_by accepted contents start new).whole
  session_step step behind next Next is run starts counted before left told =
      let steps : List Step = session.steps in
      let more : List Step = steps ++ step ∷ [] in record {
        steps = more;
        rest = behind;
        so_far = record { all_is = all_more all session.rest behind steps step session.so_far.all_is is; runs = runs_more options book steps step session.so_far.runs run };
        start = subst (IsStart options next.auction) (sym (fold-append (book_past options) book steps (step ∷ []))) starts;
        rows = counted ∙ ap (λ (n : ℕ). n + length (rows_said (step_said step))) session.rows ∙ sym (rows_more steps step);
        before = before ∙ ap (λ (g : Gone). gone_past options g step) session.before ∙ sym (fold-append (gone_past options) nothing_gone steps (step ∷ []));
        left = left;
        holds = told_more accepted contents start old new (served_rows steps) (step_rows step) (served_rows more)
            (served_text options nothing_gone steps) (step_text options (gone_by served.before) step) (served_text options nothing_gone more)
            (sym (each_more step_rows steps step))
            (ap (λ (g : Gone). served_text options nothing_gone steps ++ step_text options g step) session.before ∙ text_more options nothing_gone steps step) session.holds told;
      }

  -- all is served
  pub session_ends : session.rest ≡ [] → ServesAll options book all (told_by accepted contents start old).whole
  session_ends none = record {
    steps = session.steps;
    served = record { all_is = session.so_far.all_is ∙ ap (λ (xs : List Said). flat_map step_said session.steps ++ xs) none; runs = session.so_far.runs };
    holds = session.holds;
  }

  -- it goes no further
  pub session_stops : (fault : AnyFault) → IsStop (told_by accepted contents old new) options now (gone_by served.before) served.rows session.rest fault → IsServeFault (told_by accepted contents) start new options book all fault
  session_stops fault stops = record {
    between = old;
    told = record { steps = session.steps; rest = session.rest; served = session.so_far; holds = session.holds };
    stops = subst (λ (g : Gone). IsStop (told_by accepted contents old new) options now g (rows_before session.steps) session.rest fault) session.before
        (subst (λ (n : ℕ). IsStop (told_by accepted contents old new) options now (gone_by served.before) n session.rest fault) session.rows stops);
  }

  module _ {R : Type 0} (remaining : R → Option (List ℕ)) where
    -- the next line may be answered
    pub session_passed : (left : Option (LiveInput R)) → PassesFault remaining options.workers options (gone_by served.before) left session.rest (told_by accepted contents old new).whole
        → IsSession options book all served (MayHaveToSay remaining options.workers left) (told_by accepted contents start new).whole
    session_passed left passes = passed passes.met passes.goes_on passes.behind passes.rest_is passes.left_is passes.holds where
      passed : (met : Option LineFault) → IfSome met (λ _. ends_at_fault options ≡ false) → (behind : List Said) → session.rest ≡ fault_said met ++ behind → MayHaveToSay remaining options.workers left behind
          → (told_by accepted contents old new).whole [] (fault_answer options (gone_by served.before) met) → IsSession options book all served (MayHaveToSay remaining options.workers left) (told_by accepted contents start new).whole
      passed None goes_on behind is has told = record {
        steps = session.steps;
        rest = session.rest;
        so_far = session.so_far;
        start = session.start;
        rows = session.rows;
        before = session.before;
        left = subst (MayHaveToSay remaining options.workers left) (sym is) has;
        holds = told_more accepted contents start old new (served_rows session.steps) [] (served_rows session.steps) (served_text options nothing_gone session.steps) [] (served_text options nothing_gone session.steps)
            (append-nil (served_rows session.steps)) (append-nil (served_text options nothing_gone session.steps)) session.holds told;
      }
      passed (Some met) goes_on behind is has told =
          session_step (Answer (says.Fault met)) behind served (MayHaveToSay remaining options.workers left) is (goes_on, tt) session.start (omega arith) refl has told

  -- a part begins here
  pub part_begins : (scripts : List (List Request)) → length scripts ≡ options.workers → BeginsAt options served.auction scripts now
  part_begins scripts workers = record { start = session.start; workers = workers }

  -- one part more
  pub session_part : (most : ℕ) (asked : Asked) (Next : List Said → Type 0) → ReadsPart options most session.rest asked Next → (next : Served) → next.rows ≡ served.rows + length asked.rows
      → ServesPart options now (gone_by served.before) asked next (told_by accepted contents old new).whole → IsSession options book all next Next (told_by accepted contents start new).whole
  session_part most asked Next reads next counted serves =
      let more : ServesPart options now (gone_by served.before) (asked_in options.workers reads.said) next (told_by accepted contents old new).whole
      = subst (λ (a : Asked). ServesPart options now (gone_by served.before) a next (told_by accepted contents old new).whole) reads.asked_is serves in
      let part : PartRun = record { said = reads.said; added = more.runs.added; hot = more.runs.hot; history = more.runs.history } in
      session_step (Part part) reads.behind next Next reads.rest_is (record { few = reads.few; adds = more.runs.adds; answer = more.runs.answer }) more.start
      (counted ∙ ap (λ (n : ℕ). served.rows + n) (ap (λ (a : Asked). length a.rows) reads.asked_is ∙ sym (ap length (same_rows reads.said)))) more.before reads.goes_on more.runs.holds

  -- a part that is not served
  pub part_stops : (most : ℕ) (asked : Asked) (Next : List Said → Type 0) → ReadsPart options most session.rest asked Next → (fault : AnyFault)
      → IsPartFault (told_by accepted contents old new) options now (gone_by served.before) served.rows asked fault
      → StopsAtPart (told_by accepted contents old new) options now (gone_by served.before) served.rows session.rest fault
  part_stops most asked Next reads fault why = record {
    next = reads.said;
    behind = reads.behind;
    rest_is = reads.rest_is;
    few = reads.few;
    stops = subst (λ (a : Asked). IsPartFault (told_by accepted contents old new) options now (gone_by served.before) served.rows a fault) reads.asked_is why;
  }

-- ---- a request past a limit

module _ {L W : Type 0} (accepted : L → Option (List ℕ)) (contents : W → Option (List ℕ)) (options : Options) (book : Book) (all : List Said) (start old new : Teller L W)
    (served : Served) (Left : List Said → Type 0) (worker : ℕ) (session : IsSession options book all served (IsNextPast served.auction Left worker) (told_by accepted contents start old).whole)
    (goes_on : ends_at_fault options ≡ false) where
  -- the book to which the rows of its part led
  abbrev here : Book
  here = book_left options book session.steps

  -- it is past its limit behind that book
  past_it : (session.left.one.is_row ≡ false) × (MOST_COMMITS ≤ rows_by here session.left.one.worker)
  past_it =
      let next = session.left in
      (next.request, subst (λ (w : ℕ). MOST_COMMITS ≤ rows_by here w) (sym next.worker_is) (omega (arith, next.full, stored served.auction here session.start.of.stands worker next.own)))

  -- its answer
  answer_is : past_answer options (gone_by served.before) served.auction.limit (Some worker) ≡ line_answer options (gone_by served.before) (says.Record session.left.one)
  answer_is =
      ap (λ (limit : ℕ). past_answer options (gone_by served.before) limit (Some worker)) session.start.fits.limit
      ∙ ap (λ (w : ℕ). past_answer options (gone_by served.before) MOST_COMMITS (Some w)) (sym session.left.worker_is)

  pub past_answered : (told_by accepted contents old new).whole [] (past_answer options (gone_by served.before) served.auction.limit (Some worker)) → IsSession options book all served Left (told_by accepted contents start new).whole
  past_answered told =
      session_step accepted contents options book all start old new served (IsNextPast served.auction Left worker) session (Answer (says.Record session.left.one)) session.left.behind served Left session.left.rest_is
      (goes_on, past_it) session.start (omega (arith, no_row session.left.one session.left.request)) refl session.left.left (subst ((told_by accepted contents old new).whole []) answer_is told)
    where
      no_row : (one : Record) → one.is_row ≡ false → length (rows_said (says.Record one ∷ [])) ≡ 0
      no_row one request = ap (λ (b : Bool). length {A = Opened} (cons_option (if b then Some (record { worker = one.worker; request = one.request }) else None) [])) request

  pub past_stops : (fault : AnyFault) → AreToldAt (told_by accepted contents old new) fault [] (past_answer options (gone_by served.before) served.auction.limit (Some worker)) → IsServeFault (told_by accepted contents) start new options book all fault
  past_stops fault told =
      session_stops accepted contents options book all start old new served (IsNextPast served.auction Left worker) session fault
      (answer_stops (told_by accepted contents old new) options here (gone_by served.before) served.rows session.rest fault (record {
        line = says.Record session.left.one;
        behind = session.left.behind;
        rest_is = session.left.rest_is;
        goes_on = goes_on;
        turned_away = past_it;
        holds = subst (AreToldAt (told_by accepted contents old new) fault []) answer_is told;
      }))

module _ {L W : Type 0} (accepted : L → Option (List ℕ)) (contents : W → Option (List ℕ)) (options : Options) (book : Book) (all : List Said) (start old new : Teller L W)
    (served : Served) (Left : List Said → Type 0) where
  -- a request that may be past a limit is answered
  pub session_answered : (past : Option ℕ) → IsSession options book all served (LeftBehind served.auction Left past) (told_by accepted contents start old).whole → IfSome past (λ worker. ends_at_fault options ≡ false)
      → (told_by accepted contents old new).whole [] (past_answer options (gone_by served.before) served.auction.limit past) → IsSession options book all served Left (told_by accepted contents start new).whole
  session_answered (Some worker) session goes_on told = past_answered accepted contents options book all start old new served Left worker session goes_on told
  session_answered None session goes_on told = record {
    steps = session.steps;
    rest = session.rest;
    so_far = session.so_far;
    start = session.start;
    rows = session.rows;
    before = session.before;
    left = session.left;
    holds = told_more accepted contents start old new (served_rows session.steps) [] (served_rows session.steps) (served_text options nothing_gone session.steps) [] (served_text options nothing_gone session.steps)
        (append-nil (served_rows session.steps)) (append-nil (served_text options nothing_gone session.steps)) session.holds told;
  }

  -- or it is not
  pub answer_stops_all : (past : Option ℕ) → IsSession options book all served (LeftBehind served.auction Left past) (told_by accepted contents start old).whole → IfSome past (λ worker. ends_at_fault options ≡ false) → (fault : AnyFault)
      → MatchOption past ⊥ (λ worker. AreToldAt (told_by accepted contents old new) fault [] (past_answer options (gone_by served.before) served.auction.limit (Some worker))) → IsServeFault (told_by accepted contents) start new options book all fault
  answer_stops_all None session goes_on fault told = absurd told
  answer_stops_all (Some worker) session goes_on fault told = past_stops accepted contents options book all start old new served Left worker session goes_on fault told

-- what is done of what is asked for is not all only if that does not end the input
pub done_goes_on : (options : Options) (book : Book) (asked : Asked) (past : Option ℕ) → AreDoneOf options book asked past → IfSome past (λ worker. ends_at_fault options ≡ false)
done_goes_on options book asked None are = tt
done_goes_on options book asked (Some worker) are = are.0
