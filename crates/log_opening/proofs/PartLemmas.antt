-- Rows of a text that are added to an auction one after the other.
use Rattle.std.proofs.Common.{◌≡◌, ◌==◌, All, count_by, ◌⊎◌, ◌||◌, Bool, true, false, not, nat_lt, if◌then◌else◌, Option, Some, None, inl, inr, codes, ap₂, slice_index, ℕ, ◌+◌, ◌-◌, ◌<◌, ◌≤◌, List, [], ◌∷◌, ◌++◌, Result, Ok, Err, IsErrOf, drop, get_or, length, take, refl, sym, ap, subst, ◌∙◌, arith, append_assoc}
use Rattle.std.proofs.{Math.Seq.{get_or-append_seam}, lemmas.Bool.{ltb-false}}
use Rattle.std.proofs.lemmas.Grind.{common_steps}
use Rattle.std.proofs.lemmas.List.{get_or_append_left, get_or-append-add, length-append, length-take-le, take-append-drop}
use Rattle.std.proofs.lemmas.List.Elements.{All-append, All-from_recursion}
use Rattle.std.{proofs.lemmas.List.Sums.{count_by-le-length, fold_push}, specs.Option.{ok_or}}
use Rattle.std.specs.Result.{result_map_both}
use Rattle.phase_laws.proofs.ReplayLemmas.{replays_append}
use Rattle.auction_rows.specs.{Book.{Book, worker_of}, History.{IsBook}, Refusals.{refusal}}
use Rattle.auction_rows.specs.Requests.{is_view}
use Rattle.auction_rows.specs.declared.{values.Opening.Opening, requests.Opened.Opened, replies.Refusal.Refusal, rows.Row.Row}
use Rattle.item_shards.{proofs.OpeningLemmas.{one_more}, specs.OpeningRows.{IsRow, with_opened}}
use Rattle.phase_floor.specs.Adding.{IsFull, IsOwn, IsSameAuction, IsStartOf, KeepsBooks}
use Rattle.phase_floor.specs.{States.{JoinedState, IsBookOf}, declared.adding.AddFault.{AddFault}}
use Rattle.phase_floor.specs.declared.adding.AddFault.TheVariants.{TooLong, Refused, BadRow, Memory}
use Rattle.auction_text.specs.{Cause.{Cause}, Fields.{number}, ReadFault.{ReadFault}}
use Rattle.auction_text.specs.{Reading.{IsInputFault}, Record.{Record}}
use Rattle.auction_text.specs.{Records.{and_then, checked, field, read_record}, Replies.{lines}}
use Rattle.auction_text.specs.RowLines.{row_line, row_text, rows_text}
use Rattle.auction_text.specs.Scripts.{asked_in, input_of, read_records, records_of}
use Rattle.auction_text.specs.Cause.TheVariants as cause
use Rattle.auction_text.specs.ReadFault.TheVariants as read
use Rattle.log_opening.proofs.AcceptedLemmas.{joined, rows_alone}
use Rattle.log_opening.specs.Lines.{AreWholeLines, line_at}
use Rattle.log_opening.specs.Parts.{AreRowsFrom, HasAdded, HasNoEnd, IsFirstRefused, IsNotTaken, rows_from}
use Rattle.log_opening.specs.{ReadBack.{IsInRange}, inner.Reading.{place_of}}

-- ---- requests, one after the other

module _ (old mid : JoinedState) (book : Book) (all : List Opened) (i : ℕ) (opened : Opened) (within : i < length all) (is : opened ≡ get_or all i opened) (rows : Book)
    (same : IsSameAuction old mid) (was : HasAdded old mid book (take i all) rows) where
  abbrev start : Opening
  start = old.opening

  longer : take (i + 1) all ≡ take i all ++ opened ∷ []
  longer = one_more all i opened within is

  left : rows_from start book (take i all) ≡ book ++ rows
  left = was.rows_are

  -- the next one is a row, which is added
  pub added_next : (new : JoinedState) (row : Row) → IsRow mid.opening (book ++ rows) opened → with_opened mid.opening (book ++ rows) opened ≡ (book ++ rows) ++ row ∷ []
      → IsStartOf new (with_opened mid.opening (book ++ rows) opened) → IsInRange row → HasAdded old new book (take (i + 1) all) (rows ++ row ∷ [])
  added_next new row is_row adds begun fits = record {
    are_rows = subst (AreRowsFrom start book) (sym longer)
        (replays_append (IsRow start) (with_opened start) book (take i all) (opened ∷ []) was.are_rows (subst (λ o. IsRow o (rows_from start book (take i all)) opened) same.opening (subst (λ b. IsRow mid.opening b opened) (sym left) is_row), tt));
    rows_are = ap (rows_from start book) longer ∙ fold_push (with_opened start) book (take i all) opened ∙ ap (λ b. with_opened start b opened) left
        ∙ ap (λ o. with_opened o (book ++ rows) opened) (sym same.opening) ∙ adds ∙ append_assoc book rows (row ∷ []);
    start = subst (IsStartOf new) (adds ∙ append_assoc book rows (row ∷ [])) begun;
    in_range = All-append IsInRange rows (row ∷ []) was.in_range (All-from_recursion IsInRange (row ∷ []) (fits, tt));
  }

  -- or the first that is not taken
  pub first_refused : (fault : AddFault) → IsNotTaken mid.limit fault (length mid.counters) mid.opening (book ++ rows) opened → IsFirstRefused old.limit fault (length old.counters) start book all i
  first_refused fault not_taken = record {
    good = take i all;
    bad = opened;
    rest = drop (i + 1) all;
    split = sym (sym (append_assoc (take i all) (opened ∷ []) (drop (i + 1) all)) ∙ ap (λ front. front ++ drop (i + 1) all) (sym longer) ∙ take-append-drop (i + 1) all);
    place_is = sym (length-take-le i all (omega (arith, within)));
    are_rows = was.are_rows;
    not_taken = subst (λ b. IsNotTaken old.limit fault (length old.counters) start b opened) (sym left)
        (subst (λ l. IsNotTaken l fault (length old.counters) start (book ++ rows) opened) same.limit
        (subst (λ n. IsNotTaken mid.limit fault n start (book ++ rows) opened) same.workers
        (subst (λ o. IsNotTaken mid.limit fault (length mid.counters) o (book ++ rows) opened) same.opening not_taken)));
  }

-- one step after the other is of the same auction
pub same_then : (a b c : JoinedState) → IsSameAuction a b → IsSameAuction b c → IsSameAuction a c
same_then a b c one two = record {
  opening = two.opening ∙ one.opening;
  limit = two.limit ∙ one.limit;
  phase = two.phase ∙ one.phase;
  shards = two.shards ∙ one.shards;
  workers = two.workers ∙ one.workers;
}

-- an auction that has counted nothing more is a start of the same book
kept_start : (old new : JoinedState) (book : Book) → IsSameAuction old new → KeepsBooks old new → IsStartOf old book → IsStartOf new book
kept_start old new book same kept start = record {
  is_of = record {
    is_book = subst (λ (o : Opening). IsBook o book) (sym same.opening) start.is_of.is_book;
    own = subst (λ (n : ℕ). All (λ row. worker_of row < n) book) (sym same.workers) start.is_of.own;
    stands = kept.books book start.is_of.stands;
  };
  counters = λ w below. rw kept.counters (start.counters w (omega (arith, below, same.workers)));
}

-- rows that were added are, after one that is not
pub added_yet : (old mid new : JoinedState) (book : Book) (all : List Opened) (rows : Book) → HasAdded old mid book all rows → IsSameAuction mid new → KeepsBooks mid new → HasAdded old new book all rows
added_yet old mid new book all rows was same kept = record { are_rows = was.are_rows; rows_are = was.rows_are; start = kept_start mid new (book ++ rows) same kept was.start; in_range = was.in_range }

-- the first that is not taken is one of the requests
pub place_within : (limit : ℕ) (fault : AddFault) (workers : ℕ) (opening : Opening) (book : Book) (all : List Opened) (place : ℕ) → IsFirstRefused limit fault workers opening book all place → place < length all
place_within limit fault workers opening book all place first =
    omega (arith, first.place_is, ap length first.split, length-append first.good (first.bad ∷ first.rest))

-- why a request was not taken
pub not_taken : (state : JoinedState) (book : Book) (opened : Opened) (result : Result Row AddFault) (fault : AddFault) → result ≡ Err fault → IsStartOf state book
    → (IsErrOf result TooLong → IsFull state opened)
    → ((reason : Refusal) → IsErrOf result (Refused reason) → (b : Book) → IsBookOf state b → IsOwn state opened × (refusal state.opening b opened.request ≡ Some reason))
    → (IsErrOf result BadRow → IsOwn state opened → is_view opened.request ≡ true)
    → IsNotTaken state.limit fault (length state.counters) state.opening book opened
not_taken state book opened result TooLong is begun long refused bad =
    let full = long (subst (λ r. IsErrOf r TooLong) (sym is) refl) in
    omega (arith, full.1, ap (λ c. c.commits) (begun.counters opened.worker full.0))
not_taken state book opened result (Refused reason) is begun long refused bad = refused reason (subst (λ r. IsErrOf r (Refused reason)) (sym is) refl) book begun.is_of
not_taken state book opened result BadRow is begun long refused bad = bad (subst (λ r. IsErrOf r BadRow) (sym is) refl)
not_taken state book opened result Memory is begun long refused bad = tt

-- ---- the text of rows

-- the text of rows and of more rows
pub texts_joined : (first second : Book) → rows_text (first ++ second) [] ≡ rows_text first [] ++ rows_text second []
texts_joined first second = rows_alone (first ++ second) ∙ sym (joined first second) ∙ ap₂ (λ (a b : List ℕ). a ++ b) (sym (rows_alone first)) (sym (rows_alone second))

pub line_counted : (rows : Book) → length rows ≤ length (lines row_line rows)
line_counted [] = omega arith
line_counted (row ∷ rows) =
    omega (arith, line_counted rows, length-append (row_line row) (lines row_line rows), length-append (row_text row) (codes "\n"))

-- there are no more rows than bytes
pub rows_few : (rows : Book) → length rows ≤ length (rows_text rows [])
rows_few rows = subst (λ (text : List ℕ). length rows ≤ length text) (sym (rows_alone rows)) (line_counted rows)

-- a text of lines ends with a line's end, or is empty
abbrev pub IsEnded : List ℕ → Type 0
IsEnded text = (length text ≡ 0) ⊎ ((last : ℕ) × ((length text ≡ last + 1) × (slice_index text last ≡ 10)))

ended_one : (row : Row) (more : List ℕ) → IsEnded more → IsEnded (row_line row ++ more)
ended_one row more (inl none) =
    let text = row_text row in
    inr (
      length text,
      (
        omega (arith, none, length-append (row_line row) more, length-append text (codes "\n")),
        ap (λ (all : List ℕ). slice_index all (length text)) (append_assoc text (codes "\n") more) ∙ get_or-append_seam text 10 more 0,
      ),
    )
ended_one row more (inr some) =
    inr (
      length (row_line row) + some.0,
      (
        omega (arith, some.1.0, length-append (row_line row) more),
        get_or-append-add (row_line row) more some.0 0 ∙ some.1.1,
      ),
    )

pub ended : (rows : Book) → IsEnded (lines row_line rows)
ended [] = inl refl
ended (row ∷ rows) = ended_one row (lines row_line rows) (ended rows)

-- the number of a line is at most one more than the bytes
pub line_low : (text : List ℕ) (at : ℕ) → line_at text at ≤ length text + 1
line_low text at =
    let few : count_by (λ byte. byte == 10) (take at text) ≤ length (take at text) = count_by-le-length (λ byte. byte == 10) (take at text) in
    let short : length (take at text) ≤ length text = grind (arith, common_steps) in
    omega (arith, few, short)

-- what is behind the text of rows has no line's end: its whole lines are that text
pub whole_rows : (book : Book) (behind : List ℕ) → HasNoEnd behind → AreWholeLines (rows_text book [] ++ behind) (length (rows_text book []))
whole_rows book behind no_end = record {
  within = omega (arith, length-append text behind);
  ended = at (subst IsEnded (sym (rows_alone book)) (ended book));
  rest = λ i from low.
      let k = i - length text in let is : length text + k ≡ i = omega (arith, from) in
      λ ten. no_end k (omega (arith, low, is, length-append text behind)) (sym (get_or-append-add text behind k 0) ∙ ap (slice_index (text ++ behind)) is ∙ ten);
} where
  text : List ℕ
  text = rows_text book []

  at : IsEnded text → (length text ≡ 0) ⊎ ((last : ℕ) × ((length text ≡ last + 1) × (slice_index (text ++ behind) last ≡ 10)))
  at (inl none) = inl none
  at (inr some) = inr (some.0, (some.1.0, get_or_append_left text behind 0 some.0 (omega (arith, some.1.0)) ∙ some.1.1))

-- ---- the numbers of records

-- the fault of a record has its number
told_place : (workers place : ℕ) (begun : Bool) (fields : List (List ℕ)) (fault : ReadFault) → read_record workers place begun fields ≡ Err fault → place_of fault ≡ place
told_place workers place begun fields fault = at (number 32 (field fields 0)) where
  of_fields : (known : Bool) (said : Result Record Cause)
      → (if known then result_map_both (λ said. said) (λ cause. read.Line place cause) said else Err (read.Worker place)) ≡ Err fault → place_of fault ≡ place
  of_fields true (Ok said) is = absurd (cc is)
  of_fields true (Err cause) is = let same : read.Line place cause ≡ fault = cc is in ap place_of (sym same)
  of_fields false said is = let same : read.Worker place ≡ fault = cc is in ap place_of (sym same)

  at : (worker : Option ℕ) → and_then (ok_or worker (read.Line place cause.Number)) (λ worker.
      if nat_lt worker workers then result_map_both (λ said. said) (λ cause. read.Line place cause) (checked begun worker fields) else Err (read.Worker place)) ≡ Err fault → place_of fault ≡ place
  at None is = let same : read.Line place cause.Number ≡ fault = cc is in ap place_of (sym same)
  at (Some worker) is = of_fields (nat_lt worker workers) (checked begun worker fields) is

-- no record has a number past the most records
read_place : (workers place : ℕ) (begun : Bool) (all : List (List (List ℕ))) (fault : ReadFault) → read_records workers place begun all ≡ Err fault → place_of fault ≤ 16000000
unfolding read_records
read_place workers place begun [] fault = λ is. absurd (cc is)
read_place workers place begun (fields ∷ rest) fault = at (λ next told. read_place workers (place + 1) next rest told) (nat_lt 16000000 place) refl where
  others : (said : Result (List Record) ReadFault) (first : Record) → ((told : ReadFault) → said ≡ Err told → place_of told ≤ 16000000)
      → and_then said (λ others. Ok (first ∷ others)) ≡ Err fault → place_of fault ≤ 16000000
  others (Ok said) first each is = absurd (cc is)
  others (Err told) first each is = let same : told ≡ fault = cc is in subst (λ f. place_of f ≤ 16000000) same (each told refl)

  one : ((next : Bool) (told : ReadFault) → read_records workers (place + 1) next rest ≡ Err told → place_of told ≤ 16000000) → (said : Result Record ReadFault) → read_record workers place begun fields ≡ said → place ≤ 16000000
      → and_then said (λ first. and_then (read_records workers (place + 1) (begun || not first.is_row) rest) (λ others. Ok (first ∷ others))) ≡ Err fault → place_of fault ≤ 16000000
  one more (Ok first) told low is =
      others (read_records workers (place + 1) (begun || not first.is_row) rest) first (more (begun || not first.is_row)) is
  one more (Err other) told low is =
      let same : other ≡ fault = cc is in
      omega (arith, low, ap place_of (sym same) ∙ told_place workers place begun fields other told)

  at : ((next : Bool) (told : ReadFault) → read_records workers (place + 1) next rest ≡ Err told → place_of told ≤ 16000000) → (over : Bool) → nat_lt 16000000 place ≡ over
      → (if over then Err read.Long else and_then (read_record workers place begun fields) (λ first.
      and_then (read_records workers (place + 1) (begun || not first.is_row) rest) (λ others. Ok (first ∷ others)))) ≡ Err fault → place_of fault ≤ 16000000
  at more true many is = let same : read.Long ≡ fault = cc is in omega (arith, ap place_of (sym same))
  at more false few is = one more (read_record workers place begun fields) refl (ltb-false 16000000 place few) is

asked_place : (workers : ℕ) (fault : ReadFault) (said : Result (List Record) ReadFault) → ((told : ReadFault) → said ≡ Err told → place_of told ≤ 16000000)
    → and_then said (λ all. Ok (asked_in workers all)) ≡ Err fault → place_of fault ≤ 16000000
asked_place workers fault (Ok said) each is = absurd (cc is)
asked_place workers fault (Err told) each is = let same : told ≡ fault = cc is in subst (λ f. place_of f ≤ 16000000) same (each told refl)

-- the number of the record for which a text cannot be read
pub fault_place : (workers : ℕ) (text : List ℕ) (fault : ReadFault) → (IsInputFault fault → input_of workers text ≡ Err fault) → place_of fault ≤ 16000000
fault_place workers text fault is = at fault refl where
  told : input_of workers text ≡ Err fault → place_of fault ≤ 16000000
  told = asked_place workers fault (read_records workers 1 false (records_of text)) (read_place workers 1 false (records_of text))

  at : (f : ReadFault) → fault ≡ f → place_of fault ≤ 16000000
  at (read.Line place cause) same = told (is (subst IsInputFault (sym same) tt))
  at (read.Worker place) same = told (is (subst IsInputFault (sym same) tt))
  at f same = omega (arith, ap place_of same)
