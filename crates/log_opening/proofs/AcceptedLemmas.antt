-- The bytes of a log are the rows of the auction.
use Rattle.std.proofs.Common.{arith, ◌≡◌, ◌++◌, ◌∷◌, ◌∙◌, [], ℕ, List, Option, Some, None, length, drop, fold, refl, sym, ap, ap₂, subst, append_assoc}
use Rattle.std.proofs.lemmas.{Grind.{common_steps, flat_map-append}, List.{append-nil}}
use Rattle.std.specs.{Io.KnownBytes.{Appends}, List.{flat_map}}
use Rattle.phase_laws.specs.Replay.{Replays}
use Rattle.auction_rows.{proofs.HistoryLemmas.{book_after-replays}, specs.Book.{Book}}
use Rattle.auction_rows.specs.History.{ReplaysFrom, book_after, rows_of}
use Rattle.auction_rows.specs.declared.{values.Opening.Opening, requests.Opened.Opened, rows.Row.Row, rows.Entry.Entry}
use Rattle.item_shards.proofs.OpeningBookLemmas.{adds}
use Rattle.item_shards.specs.OpeningRows.{AreRows, IsRow, opening_rows, with_opened}
use Rattle.auction_text.specs.{Replies.{lines}, RowLines.{row_line, rows_text}}
use Rattle.log_opening.specs.Accepted.{GoOnFrom, added_rows, book_past_all}

-- requests that are rows add a row each
pub record Grown (opening : Opening) (book : Book) (more : List Opened) : Type 0 where
  pub extra : List Row
  pub is : fold (with_opened opening) book more ≡ book ++ extra
  pub long : length extra ≡ length more

pub grown : (opening : Opening) (book : Book) (more : List Opened) → Replays (IsRow opening) (with_opened opening) book more → Grown opening book more
grown opening book [] are = record { extra = []; is = sym (append-nil book); long = refl }
grown opening book (one ∷ more) are =
    let a = adds opening book one are.0 in
    let m = grown opening (with_opened opening book one) more are.1 in record {
      extra = a.row ∷ m.extra;
      is = m.is ∙ ap (λ (b : Book). b ++ m.extra) a.after ∙ append_assoc book (a.row ∷ []) m.extra;
      long = omega (arith, m.long);
    }

pub folded : (opening : Opening) (book : Book) (xs ys : List Opened) → fold (with_opened opening) book (xs ++ ys) ≡ fold (with_opened opening) (fold (with_opened opening) book xs) ys
folded opening book [] ys = refl
folded opening book (x ∷ xs) ys = folded opening (with_opened opening book x) xs ys

pub first_are : (opening : Opening) (book : Book) (xs ys : List Opened) → Replays (IsRow opening) (with_opened opening) book (xs ++ ys) → Replays (IsRow opening) (with_opened opening) book xs
first_are opening book [] ys are = tt
first_are opening book (x ∷ xs) ys are = (are.0, first_are opening (with_opened opening book x) xs ys are.1)

pub rest_are : (opening : Opening) (book : Book) (xs ys : List Opened) → Replays (IsRow opening) (with_opened opening) book (xs ++ ys)
    → Replays (IsRow opening) (with_opened opening) (fold (with_opened opening) book xs) ys
rest_are opening book [] ys are = are
rest_are opening book (x ∷ xs) ys are = rest_are opening (with_opened opening book x) xs ys are.1

-- the lines of rows and of more rows
pub joined : (first second : List Row) → lines row_line first ++ lines row_line second ≡ lines row_line (first ++ second)
joined first second = sym (flat_map-append row_line first second)

pub rows_alone : (book : Book) → rows_text book [] ≡ lines row_line book
rows_alone book = ap (lines row_line) (append-nil book)

drop_all : (xs ys : List Row) (n : ℕ) → length xs ≡ n → drop n (xs ++ ys) ≡ ys
drop_all xs ys n is = grind (arith, common_steps)

-- the rows that the log had, and then those that it had not
opened_text : (opening : Opening) (logged more : List Opened) → AreRows opening (logged ++ more)
    → rows_text (opening_rows opening logged) [] ++ rows_text (drop (length logged) (opening_rows opening (logged ++ more))) [] ≡ rows_text (opening_rows opening (logged ++ more)) []
opened_text opening logged more are =
    let had = opening_rows opening logged in
    let one = grown opening [] logged (first_are opening [] logged more are) in
    let two = grown opening had more (rest_are opening [] logged more are) in
    let all : opening_rows opening (logged ++ more) ≡ had ++ two.extra = folded opening [] logged more ∙ two.is in
    let long : length had ≡ length logged = ap length one.is ∙ one.long in
    let left : drop (length logged) (opening_rows opening (logged ++ more)) ≡ two.extra = ap (drop (length logged)) all ∙ drop_all had two.extra (length logged) long in
    ap₂ (λ (a b : List ℕ). a ++ b) (rows_alone had) (rows_alone _ ∙ ap (lines row_line) left) ∙ joined had two.extra ∙ ap (lines row_line) (sym all) ∙ sym (rows_alone (opening_rows opening (logged ++ more)))

-- the rows of a book and of a history from it
part_added : (opening : Opening) (book : Book) (history : List Entry) → ReplaysFrom opening book history
    → rows_text book [] ++ rows_text [] history ≡ rows_text (book_after opening book history) []
part_added opening book history replays =
    ap (λ (a : List ℕ). a ++ lines row_line (rows_of history)) (rows_alone book) ∙ joined book (rows_of history)
    ∙ ap (lines row_line) (sym (book_after-replays opening book history replays)) ∙ sym (rows_alone (book_after opening book history))

-- the rows of a book and of all histories from it
all_told : (opening : Opening) (book : Book) (histories : List (List Entry)) → GoOnFrom opening book histories
    → rows_text book [] ++ flat_map (λ history. rows_text [] history) histories ≡ rows_text (book_past_all opening book histories) []
unfolding GoOnFrom
all_told opening book [] go = append-nil (rows_text book [])
all_told opening book (history ∷ histories) go =
    let others = flat_map (λ h. rows_text [] h) histories in
    sym (append_assoc (rows_text book []) (rows_text [] history) others)
    ∙ ap (λ (a : List ℕ). a ++ others) (part_added opening book history go.0)
    ∙ all_told opening (book_after opening book history) histories go.1

all_added : (opening : Opening) (logged more : List Opened) (histories : List (List Entry)) → AreRows opening (logged ++ more) → GoOnFrom opening (opening_rows opening (logged ++ more)) histories
    → rows_text (opening_rows opening logged) [] ++ added_rows opening logged more histories ≡ rows_text (book_past_all opening (opening_rows opening (logged ++ more)) histories) []
all_added opening logged more histories are go =
    let had = rows_text (opening_rows opening logged) [] in
    let new = rows_text (drop (length logged) (opening_rows opening (logged ++ more))) [] in
    let others = flat_map (λ history. rows_text [] history) histories in
    sym (append_assoc had new others)
    ∙ ap (λ (a : List ℕ). a ++ others) (opened_text opening logged more are)
    ∙ all_told opening (opening_rows opening (logged ++ more)) histories go

known_is : (xs bs all : List ℕ) (new : Option (List ℕ)) → xs ++ bs ≡ all → Appends (Some xs) new bs → new ≡ Some all
known_is xs bs all None is added = absurd added
known_is xs bs all (Some ys) is added = ap Some (added ∙ is)

pub log_bytes : (opening : Opening) (logged more : List Opened) (histories : List (List Entry)) (old new : Option (List ℕ)) → AreRows opening (logged ++ more)
    → GoOnFrom opening (opening_rows opening (logged ++ more)) histories → old ≡ Some (rows_text (opening_rows opening logged) []) → Appends old new (added_rows opening logged more histories)
    → new ≡ Some (rows_text (book_past_all opening (opening_rows opening (logged ++ more)) histories) [])
log_bytes opening logged more histories old new are go is added =
    let had = rows_text (opening_rows opening logged) [] in
    let more_rows = added_rows opening logged more histories in
    known_is had more_rows _ new (all_added opening logged more histories are go) (subst (λ (o : Option (List ℕ)). Appends o new more_rows) is added)
