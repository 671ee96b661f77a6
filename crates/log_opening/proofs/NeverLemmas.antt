-- A prefix of a log is refused only for want of memory, or by a read or a write that failed.
use Rattle.std.proofs.Common.{arith, All, ◌≡◌, ◌≢◌, ◌&&◌, ◌⊎◌, ◌≤◌, ◌<◌, ◌+◌, ◌∙◌, ◌∷◌, ◌++◌, [], ℕ, List, Ok, Err, Result, true, inl, inr, map, take, drop, length, slice_get, slice_index, nat_le, refl, sym, ap, subst, append_assoc}
use Rattle.std.proofs.Math.Seq.{drop-append_seam, take-append_seam, take-length}
use Rattle.std.proofs.lemmas.Bool.{and_parts, eq-eqb, false≢true, leb-true}
use Rattle.std.proofs.lemmas.List.{append_cancel_left, get_or-append-add, get_or_append_left, length-append, map-append, take-append-drop, take-take}
use Rattle.std.proofs.lemmas.List.{Elements.{recursion_from_All}, Sums.{sum_by-append}}
use Rattle.std.{proofs.lemmas.Option.{none-some}, specs.List.{AllByRecursion, list_all}}
use Rattle.auction_rows.specs.{Book.{Book, worker_of}, History.{IsBook}}
use Rattle.auction_rows.specs.declared.rows.Row.TheVariants.{Item}
use Rattle.auction_rows.specs.declared.{values.Opening.Opening, requests.Opened.Opened, rows.Row.Row}
use Rattle.item_shards.proofs.OpeningBookLemmas.{adds}
use Rattle.item_shards.specs.OpeningRows.{AreRows, IsRow, opened_of, opening_rows, rows_by, with_opened}
use Rattle.phase_floor.specs.declared.adding.AddFault.TheVariants as add
use Rattle.auction_text.specs.{Fields.{is_printing}, ReadFault.{ReadFault}, Reading.{IsInputFault}}
use Rattle.auction_text.specs.{Replies.{lines}, RowLines.{row_line, rows_text}}
use Rattle.auction_text.specs.Scripts.{Asked, input_of}
use Rattle.auction_text.specs.ReadFault.TheVariants as read
use Rattle.log_opening.proofs.AcceptedLemmas.{folded, grown, joined, rest_are}
use Rattle.log_opening.proofs.BookReadLemmas.{book_read}
use Rattle.log_opening.proofs.PartLemmas.{ended, line_counted, whole_rows}
use Rattle.log_opening.proofs.RecoveryLemmas.{front, front_goes_on, text_alone}
use Rattle.log_opening.proofs.{SameRowsLemmas.{again, same_book, same_ok}, TailLemmas.{tail_cut}}
use Rattle.log_opening.specs.{CutRows.{begins_row, is_cut_row}, Lines.{AreLines, AreWholeLines}}
use Rattle.log_opening.specs.Opening.{AreNotRows, IsForMemory, IsRefused, counted_after}
use Rattle.log_opening.specs.Parts.{AreRowsFrom, HasNoEnd, rows_from}
use Rattle.log_opening.specs.ReadBack.{IsWritten, book_asked}
use Rattle.log_opening.specs.declared.opening.OpenFault.{OpenFault}
use Rattle.log_opening.specs.declared.opening.OpenFault.TheVariants as fault
use Rattle.phase_laws.proofs.ListLemmas.{all-right, all-take}

ok_or_err : {A E : Type 0} (x : A) (e : E) (r : Result A E) → r ≡ Ok x → r ≡ Err e → ⊥
ok_or_err x e r one other = cc (sym one ∙ other)

-- ---- lines at the front of a book's

-- A text is the lines of the first rows of a book.
record IsFront (book : Book) (text : List ℕ) : Type 0 where
  count : ℕ
  within : count ≤ length book
  is : text ≡ lines row_line (take count book)
  begins : (accepted : ℕ) → accepted ≤ length book → length (lines row_line (take accepted book)) ≤ length text → accepted ≤ count

-- lines at the front of a book's lines are those of its first rows
front_of : (workers : ℕ) (book : Book) (text behind : List ℕ) → workers ≤ 16 → AllByRecursion (IsWritten workers) book → lines row_line book ≡ text ++ behind → AreLines text → IsFront book text
front_of workers book text behind few all is are =
    let n = length text in
    let cut : take n (lines row_line book) ≡ text = ap (take n) is ∙ take-append_seam text behind in
    let f = front workers book n n (omega (arith, few)) all (subst (λ (xs : List ℕ). AreWholeLines xs n) (sym cut) are) in
    record { count = f.count; within = f.within; is = sym (take-length text) ∙ ap (take n) (sym cut) ∙ f.is; begins = f.begins }

book_lines : (book : Book) → AreLines (lines row_line book)
book_lines book = record { within = omega arith; ended = ended book; rest = λ i from low. absurd (omega (arith, from, low)) }

-- lines and more lines are lines
lines_joined : (xs ys : List ℕ) → AreLines xs → AreLines ys → AreLines (xs ++ ys)
lines_joined xs ys x y = record { within = omega arith; ended = at y.ended; rest = λ i from low. absurd (omega (arith, from, low)) } where
  first : (length ys ≡ 0) → (length xs ≡ 0) ⊎ ((last : ℕ) × ((length xs ≡ last + 1) × (slice_index xs last ≡ 10)))
      → (length (xs ++ ys) ≡ 0) ⊎ ((last : ℕ) × ((length (xs ++ ys) ≡ last + 1) × (slice_index (xs ++ ys) last ≡ 10)))
  first none (inl nothing) = inl (omega (arith, none, nothing, length-append xs ys))
  first none (inr some) = inr (some.0, (omega (arith, none, some.1.0, length-append xs ys), get_or_append_left xs ys 0 some.0 (omega (arith, some.1.0)) ∙ some.1.1))

  at : (length ys ≡ 0) ⊎ ((last : ℕ) × ((length ys ≡ last + 1) × (slice_index ys last ≡ 10)))
      → (length (xs ++ ys) ≡ 0) ⊎ ((last : ℕ) × ((length (xs ++ ys) ≡ last + 1) × (slice_index (xs ++ ys) last ≡ 10)))
  at (inl none) = first none x.ended
  at (inr some) = inr (length xs + some.0, (omega (arith, some.1.0, length-append xs ys), get_or-append-add xs ys some.0 0 ∙ some.1.1))

-- ---- requests of a book's rows

opened_worker : (row : Row) → (opened_of row).worker ≡ worker_of row
opened_worker (Item row) = refl
opened_worker row = refl

-- a request among those of written rows is of one of the workers
worker_at : (workers : ℕ) (book : Book) (good : List Opened) (bad : Opened) (rest : List Opened) → AllByRecursion (IsWritten workers) book → map opened_of book ≡ good ++ bad ∷ rest → bad.worker < workers
worker_at workers [] [] bad rest all is = absurd (cc is)
worker_at workers [] (x ∷ good) bad rest all is = absurd (cc is)
worker_at workers (row ∷ book) [] bad rest all is =
    let same : opened_of row ≡ bad = cc is in
    subst (λ (w : ℕ). w < workers) (sym (opened_worker row) ∙ ap (λ (o : Opened). o.worker) same) all.0.0
worker_at workers (row ∷ book) (x ∷ good) bad rest all is =
    let more : map opened_of book ≡ good ++ bad ∷ rest = cc is in
    worker_at workers book good bad rest all.1 more

by_both : (xs ys : Book) (worker : ℕ) → rows_by (xs ++ ys) worker ≡ rows_by xs worker + rows_by ys worker
by_both xs ys worker = sum_by-append _ xs ys

-- a row of a worker is one more of it
one_by : (row : Row) (worker : ℕ) → worker_of row ≡ worker → rows_by (row ∷ []) worker ≡ 1
one_by row worker is = rw (eq-eqb (worker_of row) worker is) refl

counted_input : (before : ℕ) (of : ReadFault) → IsInputFault (counted_after before of) → IsInputFault of
counted_input before (read.Line place cause) is = tt
counted_input before (read.Worker place) is = tt
counted_input before of is = is

-- ---- bytes of a log behind its first rows

module _ (opening : Opening) (limit workers : ℕ) (book : Book) (few : workers ≤ 16) (is_book : IsBook opening book) (written : AllByRecursion (IsWritten workers) book)
    (room : (worker : ℕ) → rows_by book worker ≤ limit) (first : Book) (first_is_book : IsBook opening first) (first_written : AllByRecursion (IsWritten workers) first)
    (bytes past : List ℕ) (text_is : lines row_line book ≡ lines row_line first ++ (bytes ++ past)) where
  abbrev text : List ℕ
  text = lines row_line first ++ bytes

  all_is : lines row_line book ≡ text ++ past
  all_is = text_is ∙ sym (append_assoc (lines row_line first) bytes past)

  before : IsFront book (lines row_line first)
  before = front_of workers book (lines row_line first) (bytes ++ past) few written text_is (book_lines first)

  first_is : first ≡ take before.count book
  first_is = same_book opening workers first (take before.count book) few first_is_book (front_goes_on opening [] book before.count is_book) first_written
      (all-take (IsWritten workers) before.count book written) before.is

  -- Lines are the text of the next rows of the book.
  record AreNext : Type 0 where
    more : Book
    last : ℕ
    whole : take last book ≡ first ++ more
    are : bytes ≡ lines row_line more
    is_one : IsBook opening (first ++ more)
    all : AllByRecursion (IsWritten workers) (first ++ more)

  next_rows : AreLines bytes → AreNext
  next_rows are =
      let after = front_of workers book text past few written all_is (lines_joined (lines row_line first) bytes (book_lines first) are) in
      let not_less : before.count ≤ after.count = after.begins before.count before.within
      (omega (arith, ap length before.is, length-append (lines row_line first) bytes)) in
      let more = drop before.count (take after.count book) in
      let whole : take after.count book ≡ first ++ more =
      sym (take-append-drop before.count (take after.count book)) ∙ ap (λ (xs : Book). xs ++ more) (take-take before.count after.count book not_less ∙ sym first_is) in
      record {
        more = more;
        last = after.count;
        whole = whole;
        are = append_cancel_left (lines row_line first) bytes (lines row_line more) (after.is ∙ ap (lines row_line) whole ∙ sym (joined first more));
        is_one = subst (IsBook opening) whole (front_goes_on opening [] book after.count is_book);
        all = subst (AllByRecursion (IsWritten workers)) whole (all-take (IsWritten workers) after.count book written);
      }

  module _ (short : length bytes ≤ 65536) (next : AreNext) where
    abbrev asked : Asked
    asked = book_asked workers next.more

    asks : input_of workers bytes ≡ Ok asked
    asks = ap (input_of workers) (next.are ∙ sym (text_alone next.more))
        ∙ book_read workers next.more (omega (arith, few)) (all-right (IsWritten workers) first next.more next.all) (omega (arith, short, ap length next.are, line_counted next.more))

    both : map opened_of (first ++ next.more) ≡ map opened_of first ++ map opened_of next.more
    both = map-append opened_of first next.more

    leaves : opening_rows opening (map opened_of first) ≡ first
    leaves = (again opening workers first few first_is_book first_written).1

    whole_again : AreRows opening (map opened_of (first ++ next.more)) × (opening_rows opening (map opened_of (first ++ next.more)) ≡ first ++ next.more)
    whole_again = again opening workers (first ++ next.more) few next.is_one next.all

    are_rows : AreRowsFrom opening first (map opened_of next.more)
    are_rows = subst (λ (b : Book). AreRowsFrom opening b (map opened_of next.more)) leaves
        (rest_are opening [] (map opened_of first) (map opened_of next.more) (subst (AreRows opening) both whole_again.0))

    rows_are : rows_from opening first (map opened_of next.more) ≡ first ++ next.more
    rows_are = ap (λ (b : Book). rows_from opening b (map opened_of next.more)) (sym leaves)
        ∙ sym (folded opening [] (map opened_of first) (map opened_of next.more)) ∙ ap (opening_rows opening) (sym both) ∙ whole_again.1

    -- none of the next rows is refused
    module _ (good : List Opened) (bad : Opened) (rest : List Opened) (split : map opened_of next.more ≡ good ++ bad ∷ rest) where
      abbrev at : Book
      at = rows_from opening first good

      is_row : IsRow opening at bad
      is_row = (rest_are opening first good (bad ∷ rest) (subst (AreRowsFrom opening first) split are_rows)).0

      own : bad.worker < workers
      own = worker_at workers next.more good bad rest (all-right (IsWritten workers) first next.more next.all) split

      has_room : limit ≤ rows_by at bad.worker → ⊥
      has_room full =
          let one = adds opening at bad is_row in
          let others = grown opening (with_opened opening at bad) rest (rest_are opening first good (bad ∷ rest) (subst (AreRowsFrom opening first) split are_rows)).1 in
          let all : first ++ next.more ≡ (at ++ (one.row ∷ [])) ++ others.extra =
          sym rows_are ∙ ap (rows_from opening first) split ∙ folded opening first good (bad ∷ rest) ∙ others.is ∙ ap (λ (b : Book). b ++ others.extra) one.after in
          let w = bad.worker in
          let counted : rows_by book w ≡ rows_by ((at ++ (one.row ∷ [])) ++ others.extra) w + rows_by (drop next.last book) w =
          ap (λ (b : Book). rows_by b w) (sym (take-append-drop next.last book)) ∙ by_both (take next.last book) (drop next.last book) w
          ∙ ap (λ (b : Book). rows_by b w + rows_by (drop next.last book) w) (next.whole ∙ all) in
          absurd (omega (arith, full, room w, counted, by_both (at ++ (one.row ∷ [])) others.extra w, by_both at (one.row ∷ []) w, one_by one.row w one.worker_is))

  -- bytes without a line's end are a cut row
  is_cut : HasNoEnd bytes → is_cut_row bytes ≡ true
  is_cut no_end =
      let n = length text in let l = length (lines row_line first) in
      let cut : take n (lines row_line book) ≡ text = ap (take n) all_is ∙ take-append_seam text past in
      let whole : AreWholeLines text l = subst (λ (t : List ℕ). AreWholeLines (t ++ bytes) (length t)) (text_alone first) (whole_rows first bytes no_end) in
      ap is_cut_row (sym (ap (drop l) cut ∙ drop-append_seam (lines row_line first) bytes))
      ∙ tail_cut workers book n l few written (subst (λ (t : List ℕ). AreWholeLines t l) (sym cut) whole)

  none_is_other : (asked : Asked) (added : Book) (at : ℕ) → length bytes ≤ 65536 → AreLines bytes → input_of workers bytes ≡ Ok asked → rows_from opening first asked.rows ≡ first ++ added
      → slice_get bytes at ≢ slice_get (rows_text added []) at → ⊥
  none_is_other other added at short are says left differs =
      let next = next_rows are in
      let same : other ≡ asked short next = same_ok other (asked short next) (input_of workers bytes) says (asks short next) in
      let more : added ≡ next.more = append_cancel_left first added next.more (sym left ∙ ap (λ (a : Asked). rows_from opening first a.rows) same ∙ rows_are short next) in
      differs (ap (λ (t : List ℕ). slice_get t at) (next.are ∙ sym (text_alone next.more) ∙ ap (λ (rows : Book). rows_text rows []) (sym more)))

  pub never_in : (why : OpenFault) (behind : List ℕ) → length bytes ≤ 65536 → AreNotRows why limit workers opening first bytes behind → IsForMemory why
  never_in (fault.Tail line) behind short r = absurd (false≢true (sym r.1 ∙ is_cut r.0))
  never_in (fault.Long line) behind short r =
      absurd (omega (arith, r.1, leb-true (length bytes) 189 (and_parts (nat_le (length bytes) 189) (list_all is_printing bytes && begins_row bytes) (is_cut r.0)).0))
  never_in (fault.Record of) behind short r = λ input.
      ok_or_err (asked short (next_rows r.are_lines)) r.of (input_of workers bytes) (asks short (next_rows r.are_lines)) (r.read (counted_input (length first) r.of (subst IsInputFault r.told_is input)))
  never_in (fault.Row number add.TooLong) behind short r =
      let next = next_rows r.are_lines in
      let same : r.asked ≡ asked short next = same_ok r.asked (asked short next) (input_of workers bytes) r.read (asks short next) in
      has_room short next r.first.good r.first.bad r.first.rest (sym (ap (λ (a : Asked). a.rows) same) ∙ r.first.split) r.first.not_taken
  never_in (fault.Row number (add.Refused reason)) behind short r =
      let next = next_rows r.are_lines in
      let same : r.asked ≡ asked short next = same_ok r.asked (asked short next) (input_of workers bytes) r.read (asks short next) in
      let split = sym (ap (λ (a : Asked). a.rows) same) ∙ r.first.split in
      absurd (none-some reason (sym (is_row short next r.first.good r.first.bad r.first.rest split).accepted ∙ r.first.not_taken.1))
  never_in (fault.Row number add.BadRow) behind short r =
      let next = next_rows r.are_lines in
      let same : r.asked ≡ asked short next = same_ok r.asked (asked short next) (input_of workers bytes) r.read (asks short next) in
      let split = sym (ap (λ (a : Asked). a.rows) same) ∙ r.first.split in
      absurd (false≢true (sym (is_row short next r.first.good r.first.bad r.first.rest split).store ∙ r.first.not_taken (own short next r.first.good r.first.bad r.first.rest split)))
  never_in (fault.Line line) behind short r = absurd (none_is_other r.asked r.added r.at short r.are_lines r.read r.added_is r.differs.differs)
  never_in why behind short r = tt

pub never : (opening : Opening) (limit workers : ℕ) (book : Book) (n : ℕ) (why : OpenFault) → workers ≤ 16 → IsBook opening book → All (IsWritten workers) book → ((worker : ℕ) → rows_by book worker ≤ limit)
    → IsRefused why limit workers opening (take n (rows_text book [])) → IsForMemory why
never opening limit workers book n why few is written room r =
    let past = r.refused.behind ++ drop n (lines row_line book) in
    let all = recursion_from_All (IsWritten workers) book written in
    let text : take n (lines row_line book) ≡ lines row_line r.book ++ (r.refused.bytes ++ r.refused.behind) =
    ap (take n) (sym (text_alone book)) ∙ r.text_is ∙ ap (λ (t : List ℕ). t ++ r.rest) (text_alone r.book) ∙ ap (λ (t : List ℕ). lines row_line r.book ++ t) r.refused.text_is in
    let text_is : lines row_line book ≡ lines row_line r.book ++ (r.refused.bytes ++ past) =
    sym (take-append-drop n (lines row_line book)) ∙ ap (λ (t : List ℕ). t ++ drop n (lines row_line book)) text
    ∙ append_assoc (lines row_line r.book) (r.refused.bytes ++ r.refused.behind) (drop n (lines row_line book))
    ∙ ap (λ (t : List ℕ). lines row_line r.book ++ t) (append_assoc r.refused.bytes r.refused.behind (drop n (lines row_line book))) in
    never_in opening limit workers book few is all room r.book r.is_book (recursion_from_All (IsWritten workers) r.book r.written) r.refused.bytes past text_is why r.refused.behind r.refused.few r.refused.not_rows
