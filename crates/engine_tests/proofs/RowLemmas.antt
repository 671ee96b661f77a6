-- The rows of two commits, which are published one after the other.
use Rattle.std.proofs.Common.{◌≡◌, ◌<◌, ◌≤◌, List, [], ◌∷◌, ◌++◌, length, All, sym, ap, subst, ◌∙◌, arith, length-append}
use Rattle.std.proofs.lemmas.List.Elements.{All-from_recursion, recursion_from_All, filter_map-append}
use Rattle.std.specs.List.{AllByRecursion}
use Rattle.auction_rows.proofs.HistoryLemmas.{book_after-replays, book_parts, rows_go_on}
use Rattle.auction_rows.specs.Book.{Book, worker_of}
use Rattle.auction_rows.specs.History.{GoOn, ReplaysFrom, book_after, row_of_entry, rows_of}
use Rattle.auction_rows.specs.declared.{values.Opening.Opening, rows.Row.Row, rows.Entry.Entry}
use Rattle.phase_boards.specs.Boards.{book_of}
use Rattle.item_shards.{proofs.CountLemmas.{of_kind}, specs.Serial.{CanFollow}}
use Rattle.phase_floor.specs.States.{JoinedState, IsBookOf}
use Rattle.phase_laws.proofs.{ListLemmas.{all-left, all-right}, OrderLemmas.{all-weaker}}

rows_few : (es : List Entry) → length (rows_of es) ≤ length es
rows_few es = of_kind row_of_entry es

-- the rows of a run of two commits are a book
pub run_rows : (opening start : Opening) (rows : Book) (history es : List Entry) (state : JoinedState) → opening ≡ start → rows ≡ [] → es ≡ history → ReplaysFrom opening rows history
    → IsBookOf state (book_after opening rows history) → length state.counters ≤ 16 → length es ≡ 2 → CanFollow start [] (rows_of es)
run_rows opening start rows history es state of none all replays left few two =
    let book : book_after opening rows history ≡ rows_of es = book_after-replays opening rows history replays ∙ ap (λ b. b ++ rows_of history) none ∙ ap rows_of (sym all) in
    record {
      is_book = subst (λ o. GoOn o [] (rows_of es)) of (subst (λ b. GoOn opening b (rows_of es)) none (subst (λ h. GoOn opening rows (rows_of h)) (sym all) (rows_go_on opening rows history replays)));
      workers = All-from_recursion (λ row. worker_of row < 16) (rows_of es)
          (all-weaker (λ row. worker_of row < length state.counters) (λ row. worker_of row < 16) (λ row below. omega (arith, below, few)) (rows_of es)
          (recursion_from_All (λ row. worker_of row < length state.counters) (rows_of es) (subst (All (λ row. worker_of row < length state.counters)) book left.own)));
      few = omega (arith, rows_few es, two);
    }

-- what follows an empty book may be published in two parts
module _ (opening : Opening) (rows : Book) (phases : List (List Row)) (commits first last : List Entry) (none : rows ≡ []) (whole : first ++ last ≡ commits)
    (all : CanFollow opening [] (rows_of commits)) where
  both : CanFollow opening [] (rows_of first ++ rows_of last)
  both = subst (CanFollow opening []) (ap rows_of (sym whole) ∙ filter_map-append row_of_entry first last) all

  own : AllByRecursion (λ row. worker_of row < 16) (rows_of first ++ rows_of last)
  own = recursion_from_All (λ row. worker_of row < 16) (rows_of first ++ rows_of last) both.workers

  pub first_follows : phases ≡ [] → CanFollow opening (book_of rows phases) (rows_of first)
  first_follows empty = subst (λ book. CanFollow opening book (rows_of first)) (sym (ap (λ r. book_of r phases) none ∙ ap (book_of []) empty)) (record {
    is_book = (book_parts opening (rows_of first) (rows_of last) both.is_book).0;
    workers = All-from_recursion (λ row. worker_of row < 16) (rows_of first) (all-left (λ row. worker_of row < 16) (rows_of first) (rows_of last) own);
    few = omega (arith, both.few, length-append (rows_of first) (rows_of last));
  })

  pub last_follows : phases ≡ rows_of first ∷ [] → CanFollow opening (book_of rows phases) (rows_of last)
  last_follows one = subst (λ book. CanFollow opening book (rows_of last)) (sym (ap (λ r. book_of r phases) none ∙ ap (book_of []) one)) (record {
    is_book = both.is_book;
    workers = All-from_recursion (λ row. worker_of row < 16) (rows_of last) (all-right (λ row. worker_of row < 16) (rows_of first) (rows_of last) own);
    few = omega (arith, both.few, length-append (rows_of first) (rows_of last));
  })
