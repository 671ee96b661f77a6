-- What a phase more does to the book that a run starts from.
use Rattle.std.proofs.Common.{◌≡◌, List, [], ◌∷◌, ◌++◌, refl, subst, sym}
use Rattle.auction_rows.proofs.HistoryLemmas.{book_after-replays, rows_go_on, longer_book}
use Rattle.auction_rows.specs.Book.{Book}
use Rattle.auction_rows.specs.History.{IsRight, after_entry, ReplaysFrom, book_after, rows_of, IsBook}
use Rattle.auction_rows.specs.declared.{values.Opening.Opening, rows.Entry.Entry}
use Rattle.phase_laws.proofs.ReplayLemmas.{replays_append}
use Rattle.run_laws.specs.Books.{HasReplayed, ReplaysOn}

book_after-append : (opening : Opening) (book : Book) (first second : List Entry) →
    book_after opening book (first ++ second) ≡ book_after opening (book_after opening book first) second
book_after-append opening book [] second = refl
book_after-append opening book (e ∷ es) second = book_after-append opening (after_entry opening book e) es second

-- what a history leaves of a book is one
pub left_is_book : (opening : Opening) (start : Book) (history : List Entry) → IsBook opening start → ReplaysFrom opening start history → IsBook opening (book_after opening start history)
left_is_book opening start history is replays =
    subst (IsBook opening) (sym (book_after-replays opening start history replays))
    (longer_book opening start (rows_of history) is (rows_go_on opening start history replays))

pub phase_replayed : (opening : Opening) (start : Book) (history segment : List Entry) (Before After : Book → Type 0) → IsBook opening start →
    HasReplayed opening start history Before → ReplaysOn opening segment Before After → HasReplayed opening start (history ++ segment) After
phase_replayed opening start history segment Before After is run phase =
    let here = phase (book_after opening start history) (left_is_book opening start history is run.replays) run.stands in
    record {
      replays = replays_append (IsRight opening) (after_entry opening) start history segment run.replays here.0;
      stands = subst After (sym (book_after-append opening start history segment)) here.1;
    }
