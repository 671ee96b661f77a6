-- The parts of a history are one.
use Rattle.std.proofs.Common.{◌≡◌, List, [], ◌∷◌, ◌++◌, refl, subst, sym, ap, ◌∙◌, append_assoc}
use Rattle.std.proofs.lemmas.List.Sums.{fold-append}
use Rattle.phase_laws.proofs.ReplayLemmas.{replays_append}
use Rattle.auction_rows.specs.{Book.{Book}, History.{IsRight, ReplaysFrom, after_entry, book_after}}
use Rattle.auction_rows.specs.declared.{values.Opening.Opening, rows.Entry.Entry}
use Rattle.phase_floor.specs.States.{JoinedState, IsBookOf}
use Rattle.auction_run.specs.Parts.{ArePartsFrom, HaveLeft, book_after_parts, history_of}

pub parts_are_one : (opening : Opening) (rows : Book) (parts : List (List Entry)) → ArePartsFrom opening rows parts → ReplaysFrom opening rows (history_of parts)
parts_are_one opening rows [] are = tt
parts_are_one opening rows (part ∷ parts) are =
    replays_append (IsRight opening) (after_entry opening) rows part (history_of parts) are.0 (parts_are_one opening (book_after opening rows part) parts are.1)

pub parts_leave : (opening : Opening) (rows : Book) (parts : List (List Entry)) → book_after_parts opening rows parts ≡ book_after opening rows (history_of parts)
parts_leave opening rows [] = refl
parts_leave opening rows (part ∷ parts) =
    parts_leave opening (book_after opening rows part) parts ∙ sym (fold-append (after_entry opening) rows part (history_of parts))

pub parts_in_order : (earlier later : List (List Entry)) → history_of (earlier ++ later) ≡ history_of earlier ++ history_of later
parts_in_order [] later = refl
parts_in_order (part ∷ earlier) later = ap (λ rest. part ++ rest) (parts_in_order earlier later) ∙ sym (append_assoc part (history_of earlier) (history_of later))

pub no_parts : (state : JoinedState) (rows : Book) → IsBookOf state rows → HaveLeft state.opening rows [] state
no_parts state rows book = record { parts_are = tt; opening_is = refl; book = book }

pub one_part_more : (opening : Opening) (rows : Book) (parts : List (List Entry)) (old new : JoinedState) (next : List Entry) →
    HaveLeft opening rows parts old → new.opening ≡ opening → ((book : Book) → IsBookOf old book → ReplaysFrom old.opening book next) →
    ((book : Book) → IsBookOf old book → IsBookOf new (book_after old.opening book next)) → HaveLeft opening rows (parts ++ next ∷ []) new
one_part_more opening rows parts old new next have same replays left =
    let book : Book = book_after_parts opening rows parts in
    let goes_on : ReplaysFrom opening book next = subst (λ o. ReplaysFrom o book next) have.opening_is (replays book have.book) in record {
      parts_are = replays_append (ReplaysFrom opening) (book_after opening) rows parts (next ∷ []) have.parts_are (goes_on, tt);
      opening_is = same;
      book = subst (IsBookOf new) (sym (fold-append (book_after opening) rows parts (next ∷ [])))
          (subst (λ o. IsBookOf new (book_after o book next)) have.opening_is (left book have.book));
    }
