-- A part of an input that is read line by line, from what was taken for it.
use Rattle.std.proofs.Common.{arith, ◌≡◌, ◌≤◌, ◌+◌, ◌∷◌, ◌∙◌, [], ℕ, Bool, List, Option, None, Some, Result, Ok, Err, true, false, length, vec_len, refl, sym, ap, subst, inl, inr}
use Rattle.std.proofs.lemmas.{Bool.{cases_Bool}, List.{append-nil}, Option.{same_Some}}
use Rattle.csv.specs.Reading.{default_config, records}
use Rattle.auction_rows.specs.declared.requests.Opened.{Opened}
use Rattle.record_reading.proofs.{AskingLemmas.{ask_is, ask_none}, LateRows.{request_after}}
use Rattle.record_reading.specs.Asking.{AskFor, asked_of, nothing_asked, requests_in, rows}
use Rattle.record_reading.specs.Records.{read_record, worker_of}
use Rattle.record_reading.specs.declared.{inputs.ReadFault.{ReadFault}, record.Record.{Record}}
use Rattle.live_reading.specs.LineBuffers.{lines_left}
use Rattle.live_reading.specs.LiveLines.{begun_after, is_long, line_says, lines_of, lines_say, one_says, records_say, then_say}
use Rattle.live_reading.specs.LiveParts.{GoesOnWith, IsLivePart, KeepsLiveWorkers, MayEndEarly, row_said, rows_said}
use Rattle.live_reading.specs.LiveReading.{records_said}
use Rattle.live_reading.specs.declared.line_buffer.LineBuffer.{LineBuffer}
use Rattle.live_reading.specs.declared.{line_taking.LineStop.{LineStop}, live_lines.Said.{Said}}
use Rattle.live_reading.specs.declared.{live_parts.LivePart.{LivePart}, part_records.Taken.{Taken}}
use Rattle.live_reading.specs.inner.Taking.{MayEnd, StopsAt, end_at, left_after, yet_said}
use Rattle.live_reading.specs.declared.line_taking.LineStop.TheVariants as stop
use Rattle.live_reading.specs.declared.live_lines.Said.TheVariants as says

-- what is said of one record that is no row
no_row_in_one : (worker : Option ℕ) (r : Result Record ReadFault) (one : Said) → ((said : Record) → r ≡ Ok said → said.is_row ≡ false) → Some (one_says worker r) ≡ Some one → row_said one ≡ None
no_row_in_one worker (Ok said) one request is =
    let same : says.Record said ≡ one = cc is in
    let none : said.is_row ≡ false = request said refl in
    rw (← same, none) refl
no_row_in_one worker (Err fault) one request is =
    let same : one_says worker (Err fault) ≡ one = cc is in
    rw (← same) refl

no_row_in : (workers place : ℕ) (rows : List (List (List ℕ))) (one : Said) → records_say workers place true rows ≡ Some one → row_said one ≡ None
no_row_in workers place [] one is = absurd (cc is)
no_row_in workers place (fields ∷ []) one is =
    no_row_in_one (worker_of workers fields) (read_record workers place true fields) one (λ said reads. request_after workers place fields said reads) is
no_row_in workers place (fields ∷ second ∷ rest) one is = rw (← same_Some _ one is) refl

-- after a request no line says a row
no_late_row : (workers place : ℕ) (line : List ℕ) (one : Said) → line_says workers place true line ≡ Some one → row_said one ≡ None
unfolding line_says
no_late_row workers place line one is = elim (cases_Bool (is_long line)) [
  | inl long ↦ rw (← same_Some _ one (rw long at is)) refl
  | inr short ↦ no_row_in workers place (records default_config line) one (rw short at is)
]

rows_then : (o : Option Said) (blank : List Said) (others : Said → List Said) → ((one : Said) → o ≡ Some one → row_said one ≡ None) → rows_said blank ≡ []
    → ((one : Said) → rows_said (others one) ≡ []) → rows_said (then_say o blank others) ≡ []
rows_then None blank others none same more = same
rows_then (Some one) blank others none same more = rw (none one refl) (more one)

pub no_rows_said : (workers place : ℕ) (lines : List (List ℕ)) → rows_said (lines_say workers place true lines) ≡ []
unfolding lines_say
no_rows_said workers place [] = refl
no_rows_said workers place (line ∷ rest) =
    rows_then (line_says workers place true line) (lines_say workers place true rest) (λ one. lines_say workers (place + 1) (begun_after true one) rest)
    (no_late_row workers place line) (no_rows_said workers place rest) (λ one. subst (λ (b : Bool). rows_said (lines_say workers (place + 1) b rest) ≡ []) (sym (still one)) (no_rows_said workers (place + 1) rest))
  where
    still : (one : Said) → begun_after true one ≡ true
    still (says.Record one) = refl
    still (says.Fault fault) = refl

-- nothing is taken yet
pub fresh_lines : (all : List Said) (taken : Taken) (left : List ℕ) → asked_of taken.input ≡ nothing_asked taken.workers → taken.requests ≡ 0 → all ≡ yet_said taken left → StopsAt all taken stop.Full left
fresh_lines all taken left none zero is = record { said = []; front = is; asked = subst (AskFor taken.workers []) (sym none) (ask_none taken.workers); requests = zero }

-- the input is of as many workers after a part
pub keeps_workers : {R : Type 0} (how : LineStop) (taken : Taken) (lines : LineBuffer R) (workers : ℕ) → taken.workers ≡ workers → KeepsLiveWorkers workers (end_at how (left_after taken lines))
keeps_workers stop.End taken lines workers same = tt
keeps_workers how taken lines workers same = same

module _ {R : Type 0} (rem : R → Option (List ℕ)) (all : List Said) (taken : Taken) (lines : LineBuffer R) (to : List ℕ) (known : lines_left rem lines ≡ Some to) where
  goes_on_with : (said : List Record) → taken.requests ≡ requests_in said → GoesOnWith rem said (left_after taken lines) (yet_said taken to)
  goes_on_with said are = record {
    late = λ some.
        let begun : taken.begun ≡ true = taken.knows_begun (omega (arith, some, are)) in
        subst (λ (b : Bool). rows_said (lines_say taken.workers (taken.count + 1) b (lines_of to)) ≡ []) (sym begun) (no_rows_said taken.workers (taken.count + 1) (lines_of to));
    left_is = record { bytes = to; known = known; all_is = refl };
  }

  -- so many rows are taken
  rows_taken : (said : List Record) → AskFor taken.workers said (asked_of taken.input) → length (rows said) ≡ vec_len taken.input.rows
  rows_taken said ask = ap (λ (rs : List Opened). length rs) ask.rows_are ∙ sym taken.input.rows.ok.0

  may_end : (said : List Record) → taken.requests ≡ requests_in said → length (rows said) ≡ vec_len taken.input.rows → MayEnd taken → MayEndEarly said
  may_end said requests count ends = elim ends [
    | inl some ↦ inl (omega (arith, requests, some))
    | inr full ↦ inr (omega (arith, count, full, taken.few_rows))
  ]

  abbrev its_part : LineStop → LivePart R
  its_part how = record { input = taken.input; end = end_at how (left_after taken lines) }

  -- the part that ends where the taking stopped
  part_at : (how : LineStop) → StopsAt all taken how to → (how ≡ stop.Full → MayEnd taken) → IsLivePart rem taken.workers taken.most all (its_part how)
  part_at stop.Full is some = record {
    said = is.said;
    asked = ask_is taken.workers is.said (asked_of taken.input) is.asked;
    few = subst (λ (n : ℕ). n ≤ taken.most) is.requests taken.few;
    few_rows = omega (arith, rows_taken is.said is.asked, taken.few_rows);
    goes_on = (yet_said taken to, (may_end is.said is.requests (rows_taken is.said is.asked) (some refl), (is.front, goes_on_with is.said is.requests)));
  }
  part_at (stop.Fault fault) is some = record {
    said = is.said;
    asked = ask_is taken.workers is.said (asked_of taken.input) is.asked;
    few = subst (λ (n : ℕ). n ≤ taken.most) is.requests taken.few;
    few_rows = omega (arith, rows_taken is.said is.asked, taken.few_rows);
    goes_on = (yet_said taken to, (is.front, goes_on_with is.said is.requests));
  }
  part_at stop.End is some = record {
    said = is.said;
    asked = ask_is taken.workers is.said (asked_of taken.input) is.asked;
    few = subst (λ (n : ℕ). n ≤ taken.most) is.requests taken.few;
    few_rows = omega (arith, rows_taken is.said is.asked, taken.few_rows);
    goes_on = is.front ∙ append-nil (records_said is.said);
  }

  pub part_for : (how : LineStop) (workers most : ℕ) → taken.workers ≡ workers → taken.most ≡ most → StopsAt all taken how to → (how ≡ stop.Full → MayEnd taken) → IsLivePart rem workers most all (its_part how)
  part_for how workers most same_workers same_most is some =
      subst (λ (w : ℕ). IsLivePart rem w most all (its_part how)) same_workers (subst (λ (m : ℕ). IsLivePart rem taken.workers m all (its_part how)) same_most (part_at how is some))
