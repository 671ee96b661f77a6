-- The text of a book is read back as its rows.
use Rattle.std.proofs.Common.{arith, ◌≡◌, ◌≤◌, ◌+◌, ◌^◌, ◌∷◌, [], ℕ, suc, List, Ok, false, nat_lt, length, map, refl, ap}
use Rattle.std.proofs.lemmas.{Bool.{lt-leb}, List.{append-nil}}
use Rattle.std.specs.List.{AllByRecursion, range_with_len}
use Rattle.csv.specs.Reading.{default_config, records, strip_bom}
use Rattle.auction_rows.specs.{Book.{Book}, declared.rows.Row.{Row}}
use Rattle.auction_rows.specs.declared.rows.Row.TheVariants.{Item, Bid, Comment, Buy}
use Rattle.item_shards.specs.OpeningRows.{opened_of}
use Rattle.auction_text.specs.{InputLimits.{MOST_RECORDS}, Replies.{lines}}
use Rattle.auction_text.specs.RowLines.{row_line, rows_text}
use Rattle.auction_text.specs.Scripts.{asked_in, input_of, read_records, rows, script}
use Rattle.log_opening.proofs.RowLineLemmas.{IsReadAs, line_read, said_of}
use Rattle.log_opening.specs.ReadBack.{IsWritten, book_asked}
use Rattle.record_reading.proofs.LineLemmas.{none_in_none}

pub written_read : (workers : ℕ) (row : Row) → workers ≤ 2 ^ 32 → IsWritten workers row → IsReadAs (row_line row) (said_of row)
written_read workers row few written = line_read row (omega (arith, few, written.0)) written.1

-- the records of a book's lines say its rows
all_read : (workers place : ℕ) (book : Book) → workers ≤ 2 ^ 32 → AllByRecursion (IsWritten workers) book → place + length book ≤ MOST_RECORDS + 1
    → read_records workers place false (records default_config (lines row_line book)) ≡ Ok (map said_of book)
unfolding read_records
all_read workers place [] few all room = rw none_in_none refl
all_read workers place (row ∷ book) few all room =
    let one = written_read workers row few all.0 in let reads = one.reads (lines row_line book) in
    let says = one.says workers place all.0.0 in
    let short : nat_lt MOST_RECORDS place ≡ false = lt-leb (suc MOST_RECORDS) place (omega (arith, room)) in
    let others = all_read workers (place + 1) book few all.1 (omega (arith, room)) in
    rw reads (rw (short, says, others) refl)

-- rows and no requests
pub rows_said : (book : Book) → rows (map said_of book) ≡ map opened_of book
rows_said [] = refl
rows_said (Item row ∷ book) = ap (λ l. opened_of (Item row) ∷ l) (rows_said book)
rows_said (Bid row ∷ book) = ap (λ l. opened_of (Bid row) ∷ l) (rows_said book)
rows_said (Comment row ∷ book) = ap (λ l. opened_of (Comment row) ∷ l) (rows_said book)
rows_said (Buy row ∷ book) = ap (λ l. opened_of (Buy row) ∷ l) (rows_said book)

none_asked : (worker : ℕ) (book : Book) → script worker (map said_of book) ≡ []
none_asked worker [] = refl
none_asked worker (row ∷ book) = none_asked worker book

none_of_each : (workers : List ℕ) (book : Book) → map (λ w. script w (map said_of book)) workers ≡ map (λ w. []) workers
none_of_each [] book = refl
none_of_each (w ∷ workers) book = rw (none_asked w book) (ap (λ l. [] ∷ l) (none_of_each workers book))

asked_back : (workers : ℕ) (book : Book) → asked_in workers (map said_of book) ≡ book_asked workers book
asked_back workers book = rw (rows_said book, none_of_each (range_with_len 0 workers) book) refl

-- no mark is taken off the text of a book
no_mark_first : (workers : ℕ) (book : Book) → workers ≤ 2 ^ 32 → AllByRecursion (IsWritten workers) book → strip_bom (lines row_line book) ≡ lines row_line book
unfolding strip_bom
no_mark_first workers [] few all = refl
no_mark_first workers (row ∷ book) few all = (written_read workers row few all.0).unmarked (lines row_line book)

pub book_read : (workers : ℕ) (book : Book) → workers ≤ 2 ^ 32 → AllByRecursion (IsWritten workers) book → length book ≤ MOST_RECORDS
    → input_of workers (rows_text book []) ≡ Ok (book_asked workers book)
book_read workers book few all short =
    let text : rows_text book [] ≡ lines row_line book = ap (λ (l : List Row). lines row_line l) (append-nil book) in
    rw text (rw (no_mark_first workers book few all, all_read workers 1 book few all (omega (arith, short)), asked_back workers book) refl)
