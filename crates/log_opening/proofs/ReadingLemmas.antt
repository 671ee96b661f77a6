-- How far a text is read, and what it opens.
use Rattle.std.proofs.Common.{◌≡◌, ◌⊎◌, ◌≤◌, ◌<◌, ◌+◌, ◌-◌, ◌++◌, ℕ, true, List, [], ◌∷◌, Option, Some, None, All, Result, Ok, Err, IfErr, IfOk, IfSome, inl, inr, drop, length, slice_index, take, refl, sym, ap, subst, ◌∙◌, arith, append_assoc}
use Rattle.std.proofs.Math.Seq.{drop-append_seam, paste, take-append-add, take-append_seam, take-length}
use Rattle.std.proofs.lemmas.Grind.{common_steps}
use Rattle.std.proofs.lemmas.List.{append-nil, get_or-append-add, get_or_append_left, length-append, length-take-le, take_all}
use Rattle.std.proofs.lemmas.List.Elements.{All-append, All-from_recursion, recursion_from_All}
use Rattle.std.specs.{Io.KnownBytes.{Appends, IsAtEnd}, List.{AllByRecursion}}
use Rattle.csv.proofs.WriteFacts.{appends-more, appends-none}
use Rattle.auction_rows.specs.{Book.{Book, worker_of}, History.{IsBook}}
use Rattle.auction_rows.specs.declared.{values.Opening.Opening, requests.Opened.Opened}
use Rattle.phase_floor.specs.{Adding.{IsSameAuction, IsStartOf}, States.{JoinedState}}
use Rattle.auction_text.{proofs.BufferLemmas.{held, moved}, specs.RowLines.{rows_text}}
use Rattle.auction_text.specs.ReadFault.TheVariants as read
use Rattle.byte_texts.specs.Writing.{IsPartWritten}
use Rattle.log_opening.proofs.PartLemmas.{rows_few, texts_joined, whole_rows}
use Rattle.log_opening.specs.{CutRows.{is_cut_row}, Lines.{AreLines, AreWholeLines}}
use Rattle.log_opening.specs.Opening.{AreNotRows, HasRowsAndTail, IsRefused, IsRefusedIn, Opens, TellsFirst}
use Rattle.log_opening.specs.{Parts.{HasAdded, HasNoEnd}, ReadBack.{IsInRange, IsWritten}}
use Rattle.log_opening.specs.declared.opening.{LoggedAuction.{LoggedAuction}, OpenFault.{OpenFault}}
use Rattle.log_opening.specs.declared.parts.ReadRows.{ReadRows}
use Rattle.log_opening.specs.inner.Reading.{HasRead, IsReadTo, OpensReading, ReadsRows, TellsRows, TellsSome}
use Rattle.log_opening.specs.declared.opening.OpenFault.TheVariants as fault
use Rattle.part_log.proofs.TellingLemmas.{of_known}

at_end : (known : Option (List ℕ)) (left : List ℕ) → known ≡ Some left → IsAtEnd known → left ≡ []
at_end None left is end = absurd (cc is)
at_end (Some all) left is end = let same : all ≡ left = cc is in sym same ∙ end

no_lines : AreLines []
no_lines = record { within = omega arith; ended = inl refl; rest = λ i from low. absurd (omega (arith, low)) }

-- ---- one part

-- there are no more rows than bytes of their text
pub rows_within : (reading : ReadRows) (book : Book) → HasRead reading book → reading.rows ≤ reading.kept
rows_within reading book has = omega (arith, has.rows, has.kept, rows_few book)

-- the text of rows that were added is read
pub reads_added : (old new : ReadRows) (book added : Book) (all : List Opened) (lines : List ℕ) → HasRead old book → HasAdded old.auction new.auction book all added → lines ≡ rows_text added []
    → new.rows ≡ old.rows + length added → new.kept ≡ old.kept + length lines → ReadsRows new book lines []
reads_added old new book added all lines has adds text rows kept = record {
  more = added;
  has = record {
    start = adds.start;
    in_range = All-append IsInRange book added has.in_range adds.in_range;
    rows = omega (arith, rows, has.rows, length-append book added);
    kept = omega (arith, kept, has.kept, ap length (texts_joined book added), length-append (rows_text book []) (rows_text added []), ap length text);
  };
  text = text ∙ sym (append-nil (rows_text added []));
}

-- what is refused at the front of some bytes is refused of all of them
pub refused_front : (told : OpenFault) (limit workers : ℕ) (opening : Opening) (book : Book) (all lines rest behind : List ℕ) → all ≡ lines ++ rest → length lines ≤ 65536
    → ((behind : List ℕ) → AreNotRows told limit workers opening book lines behind) → IsRefusedIn told limit workers opening book (all ++ behind)
refused_front told limit workers opening book all lines rest behind is few each = record {
  bytes = lines;
  behind = rest ++ behind;
  text_is = ap (λ (bytes : List ℕ). bytes ++ behind) is ∙ append_assoc lines rest behind;
  few = few;
  not_rows = each (rest ++ behind);
}

-- what a buffer holds is its whole lines and what is moved to its front
pub moved_up : (buffer : List ℕ) (whole filled : ℕ) → whole ≤ filled → filled ≤ length buffer
    → take filled buffer ≡ take whole buffer ++ take (filled - whole) (paste buffer 0 (drop whole buffer) (filled - whole))
moved_up buffer whole filled within fits =
    let nothing : drop whole (take whole buffer) ≡ [] = grind (arith, common_steps) in
    held buffer filled whole within
    ∙ ap (λ (behind : List ℕ). take whole buffer ++ behind)
    (ap (λ (none : List ℕ). none ++ take (filled - whole) (drop whole buffer)) (sym nothing) ∙ moved buffer whole whole filled (omega arith) within fits)

-- What a buffer holds is its whole lines and others.
pub record IsSplit (buffer : List ℕ) (filled whole : ℕ) : Type 0 where
  pub rest : List ℕ
  pub is : take filled buffer ≡ take whole buffer ++ rest
  pub low : whole ≤ filled
  pub long : length (take whole buffer) ≡ whole
  pub rest_long : length rest ≡ filled - whole

pub split_at : (buffer : List ℕ) (filled whole : ℕ) → whole ≤ length (take filled buffer) → filled ≤ length buffer → IsSplit buffer filled whole
split_at buffer filled whole within fits =
    let all : length (take filled buffer) ≡ filled = length-take-le filled buffer fits in
    let low : whole ≤ filled = omega (arith, within, all) in
    let long : length (take whole buffer) ≡ whole = length-take-le whole buffer (omega (arith, low, fits)) in
    let is : take filled buffer ≡ take whole buffer ++ take (filled - whole) (drop whole buffer) = held buffer filled whole low in
    record {
      rest = take (filled - whole) (drop whole buffer);
      is = is;
      low = low;
      long = long;
      rest_long = omega (arith, all, long, low, ap length is, length-append (take whole buffer) (take (filled - whole) (drop whole buffer)));
    }

-- no line ends behind the whole lines
pub none_ends : (held front behind : List ℕ) (whole : ℕ) → AreWholeLines held whole → held ≡ front ++ behind → length front ≡ whole → HasNoEnd behind
none_ends held front behind whole are is long = λ j low ten.
    let place : whole + j ≡ length front + j = omega (arith, long) in
    are.rest (whole + j) (omega arith) (omega (arith, low, long, ap length is, length-append front behind))
    (ap (λ (all : List ℕ). slice_index all (whole + j)) is ∙ ap (slice_index (front ++ behind)) place ∙ get_or-append-add front behind j 0 ∙ ten)

-- rows are read and told, and what is behind them is held
pub tells_front : (new : ReadRows) (book : Book) (held lines behind : List ℕ) (told now : Option (List ℕ)) → held ≡ lines ++ behind → ReadsRows new book lines [] → Appends told now lines
    → TellsRows new book held behind told now
tells_front new book held lines behind told now is reads tells =
    let same : lines ≡ rows_text reads.more [] = reads.text ∙ append-nil (rows_text reads.more []) in
    record {
      more = reads.more;
      has = reads.has;
      text = is ∙ ap (λ (front : List ℕ). front ++ behind) same;
      tells = subst (Appends told now) same tells;
    }

-- lines that were not read are not told
pub tells_none : (held : List ℕ) (told : Option (List ℕ)) → TellsSome held told told
tells_none held told = record { more = []; part = (0, appends-none told); behind = held; text = refl }

-- lines that were read are told in part
pub tells_some : (new : ReadRows) (book : Book) (held lines behind : List ℕ) (told now : Option (List ℕ)) → held ≡ lines ++ behind → ReadsRows new book lines [] → IsPartWritten told now lines
    → TellsSome held told now
tells_some new book held lines behind told now is reads part =
    let same : lines ≡ rows_text reads.more [] = reads.text ∙ append-nil (rows_text reads.more []) in
    record { more = reads.more; part = subst (IsPartWritten told now) same part; behind = behind; text = is ∙ ap (λ (front : List ℕ). front ++ behind) same }

-- the whole lines of a text are lines
pub lines_of : (held lines behind : List ℕ) (whole : ℕ) → AreWholeLines held whole → held ≡ lines ++ behind → length lines ≡ whole → AreLines lines
lines_of held lines behind whole are is long = record {
  within = omega arith;
  ended = at are.ended;
  rest = λ i from low. absurd (omega (arith, from, low));
} where
  at : (whole ≡ 0) ⊎ ((last : ℕ) × ((whole ≡ last + 1) × (slice_index held last ≡ 10))) → (length lines ≡ 0) ⊎ ((last : ℕ) × ((length lines ≡ last + 1) × (slice_index lines last ≡ 10)))
  at (inl none) = inl (long ∙ none)
  at (inr some) = inr (some.0, (long ∙ some.1.0, sym (get_or_append_left lines behind 0 some.0 (omega (arith, long, some.1.0))) ∙ ap (λ (all : List ℕ). slice_index all some.0) (sym is) ∙ some.1.1))

-- ---- the whole text

-- nothing is read
pub none_read : (text told : Option (List ℕ)) (reading : ReadRows) → HasRead reading [] → IsReadTo text text told told reading []
none_read text told reading has = record { book = []; has = has; tells = appends-none told; known = λ all is. (all, is, refl) }

-- more of the text is held
pub held_more : (text old new told now : Option (List ℕ)) (reading : ReadRows) (held longer : List ℕ) → IsReadTo text old told now reading held
    → ((all : List ℕ) → old ≡ Some all → (left : List ℕ) × (new ≡ Some left) × (held ++ all ≡ longer ++ left)) → IsReadTo text new told now reading longer
held_more text old new told now reading held longer was reads = record {
  book = was.book;
  has = was.has;
  tells = was.tells;
  known = λ all is.
      let before = was.known all is in let more = reads before.0 before.1 in
      (more.0, more.1, before.2 ∙ ap (λ (bytes : List ℕ). rows_text was.book [] ++ bytes) more.2);
}

-- more of it is rows
pub rows_more : (text remaining told now next : Option (List ℕ)) (reading new : ReadRows) (held behind : List ℕ) (was : IsReadTo text remaining told now reading held)
    → TellsRows new was.book held behind now next → IsReadTo text remaining told next new behind
rows_more text remaining told now next reading new held behind was more = record {
  book = was.book ++ more.more;
  has = more.has;
  tells = subst (Appends told next) (sym (texts_joined was.book more.more)) (appends-more told now next (rows_text was.book []) (rows_text more.more []) was.tells more.tells);
  known = λ all is.
      let before = was.known all is in
      let left = before.0 in (
        left,
        before.1,
        before.2 ∙ ap (λ (bytes : List ℕ). rows_text was.book [] ++ (bytes ++ left)) more.text
            ∙ ap (λ (bytes : List ℕ). rows_text was.book [] ++ bytes) (append_assoc (rows_text more.more []) behind left)
            ∙ sym (append_assoc (rows_text was.book []) (rows_text more.more []) (behind ++ left))
            ∙ ap (λ (bytes : List ℕ). bytes ++ (behind ++ left)) (sym (texts_joined was.book more.more)),
      );
}

-- more of it is held, of which more is rows
pub read_more : (text old new told now next : Option (List ℕ)) (reading following : ReadRows) (held longer behind : List ℕ) → IsReadTo text old told now reading held
    → ((all : List ℕ) → old ≡ Some all → (left : List ℕ) × (new ≡ Some left) × (held ++ all ≡ longer ++ left)) → ((book : Book) → HasRead reading book → TellsRows following book longer behind now next)
    → IsReadTo text new told next following behind
unfolding held_more
read_more text old new told now next reading following held longer behind was reads tells =
    rows_more text new told now next reading following longer behind (held_more text old new told now reading held longer was reads) (tells was.book was.has)

-- what is read is told
pub told_first : (text remaining told now : Option (List ℕ)) (reading : ReadRows) (held : List ℕ) → IsReadTo text remaining told now reading held → TellsFirst text told now
told_first text remaining told now reading held was = record {
  book = was.book;
  part = (length (rows_text was.book []), subst (Appends told now) (sym (take-length (rows_text was.book []))) was.tells);
  text_is = of_known text (λ all. (rest : List ℕ) × (all ≡ rows_text was.book [] ++ rest)) (λ all is. let before = was.known all is in (held ++ before.0, before.2));
}

-- and some of the rows that are read then
pub told_some : (text remaining told now next : Option (List ℕ)) (reading : ReadRows) (held : List ℕ) → IsReadTo text remaining told now reading held → TellsSome held now next → TellsFirst text told next
told_some text remaining told now next reading held was some =
    let first = rows_text was.book [] in let more = rows_text some.more [] in
    let n = some.part.0 in record {
      book = was.book ++ some.more;
      part = (
        length first + n,
        subst (Appends told next) (sym (take-append-add first more n) ∙ ap (λ (all : List ℕ). take (length first + n) all) (sym (texts_joined was.book some.more)))
            (appends-more told now next first (take n more) was.tells some.part.1),
      );
      text_is = of_known text (λ all. (rest : List ℕ) × (all ≡ rows_text (was.book ++ some.more) [] ++ rest)) (λ all is.
          let before = was.known all is in (
            some.behind ++ before.0,
            before.2 ∙ ap (λ (bytes : List ℕ). first ++ (bytes ++ before.0)) some.text ∙ ap (λ (bytes : List ℕ). first ++ bytes) (append_assoc more some.behind before.0)
                ∙ sym (append_assoc first more (some.behind ++ before.0)) ∙ ap (λ (bytes : List ℕ). bytes ++ (some.behind ++ before.0)) (sym (texts_joined was.book some.more)),
          ));
    }

-- rows of a state are as those of a log
pub are_written : (reading : ReadRows) (book : Book) → HasRead reading book → All (IsWritten (length reading.auction.counters)) book
are_written reading book has = All-from_recursion (IsWritten (length reading.auction.counters)) book
    (both_each book (recursion_from_All (λ row. worker_of row < length reading.auction.counters) book has.start.is_of.own) (recursion_from_All IsInRange book has.in_range)) where
      both_each : (rows : Book) → AllByRecursion (λ row. worker_of row < length reading.auction.counters) rows → AllByRecursion IsInRange rows → AllByRecursion (IsWritten (length reading.auction.counters)) rows
      both_each [] own fits = tt
      both_each (row ∷ rows) own fits = ((own.0, fits.0), both_each rows own.1 fits.1)

-- at the end of a text whose bytes behind the rows have no line's end, and may be a row that was being written, it opens
pub opens : (text remaining told now : Option (List ℕ)) (reading : ReadRows) (held : List ℕ) (opened : LoggedAuction) → IsReadTo text remaining told now reading held → IsAtEnd remaining → HasNoEnd held
    → opened.auction ≡ reading.auction → opened.rows ≡ reading.rows → opened.kept ≡ reading.kept → opened.tail.items ≡ held → is_cut_row opened.tail.items ≡ true → Opens text told now opened
opens text remaining told now reading held opened was end no_end auction_is rows_are kept_is tail_is cut =
    let rows = rows_text was.book [] in
    let long : opened.kept ≡ length rows = kept_is ∙ was.has.kept in
    let at : (all : List ℕ) → all ≡ rows ++ held → HasRowsAndTail all was.book opened = λ all is. record {
      lines = subst (λ (xs : List ℕ). AreWholeLines xs opened.kept) (sym is) (subst (AreWholeLines (rows ++ held)) (sym long) (whole_rows was.book held no_end));
      rows = ap (take opened.kept) is ∙ ap (λ n. take n (rows ++ held)) long ∙ take-append_seam rows held;
      tail = tail_is ∙ sym (ap (drop opened.kept) is ∙ ap (λ n. drop n (rows ++ held)) long ∙ drop-append_seam rows held);
    } in record {
      book = was.book;
      opens = record {
        start = subst (λ state. IsStartOf state was.book) (sym auction_is) was.has.start;
        written = subst (λ state. All (IsWritten (length state.counters)) was.book) (sym auction_is) (are_written reading was.book was.has);
        rows = rows_are ∙ was.has.rows;
        kept = long;
        text_is = of_known text (λ all. HasRowsAndTail all was.book opened) (λ all is.
            let before = was.known all is in
            let none : before.0 ≡ [] = at_end remaining before.0 before.1 end in
            at all (before.2 ∙ ap (λ (left : List ℕ). rows ++ (held ++ left)) none ∙ ap (λ (bytes : List ℕ). rows ++ bytes) (append-nil held)));
        cut = cut;
      };
      tells = was.tells;
    }

-- what a vector has after a slice of it was filled
pub refilled : (len : ℕ) (new old : List ℕ) → length new ≡ length old → length old ≡ len → take len (new ++ drop (length new) old) ≡ new
refilled len new old same long =
    let none : drop (length new) old ≡ [] = grind (arith, common_steps) in
    ap (λ (rest : List ℕ). take len (new ++ rest)) none ∙ ap (take len) (append-nil new) ∙ take_all len new (omega (arith, same, long))

-- a text is refused if the bytes behind its rows are
pub refused_after : (text remaining told now : Option (List ℕ)) (reading : ReadRows) (held : List ℕ) (why : OpenFault) (first : JoinedState) → IsSameAuction first reading.auction
    → (was : IsReadTo text remaining told now reading held)
    → ((left : List ℕ) → remaining ≡ Some left → IsRefusedIn why reading.auction.limit (length reading.auction.counters) reading.auction.opening was.book (held ++ left))
    → IfSome text (IsRefused why first.limit (length first.counters) first.opening)
refused_after text remaining told now reading held why first same was refused =
    of_known text (IsRefused why first.limit (length first.counters) first.opening) (λ all is.
    let before = was.known all is in
    let left = before.0 in record {
      book = was.book;
      is_book = subst (λ o. IsBook o was.book) same.opening was.has.start.is_of.is_book;
      written = subst (λ n. All (IsWritten n) was.book) same.workers (are_written reading was.book was.has);
      rest = held ++ left;
      text_is = before.2;
      refused = subst (λ l. IsRefusedIn why l (length first.counters) first.opening was.book (held ++ left)) same.limit
          (subst (λ n. IsRefusedIn why reading.auction.limit n first.opening was.book (held ++ left)) same.workers
          (subst (λ o. IsRefusedIn why reading.auction.limit (length reading.auction.counters) o was.book (held ++ left)) same.opening (refused left before.1)));
    })

-- a read that failed says nothing of the text
pub not_read : (limit workers : ℕ) (opening : Opening) (book : Book) (text : List ℕ) → IsRefusedIn (fault.Record read.Read) limit workers opening book text
not_read limit workers opening book text = record {
  bytes = [];
  behind = text;
  text_is = refl;
  few = omega arith;
  not_rows = record { are_lines = no_lines; of = read.Read; told_is = refl; read = λ none. absurd none };
}

-- nor does memory that is refused
pub no_memory : (limit workers : ℕ) (opening : Opening) (book : Book) (text : List ℕ) → IsRefusedIn fault.Memory limit workers opening book text
no_memory limit workers opening book text = record { bytes = []; behind = text; text_is = refl; few = omega arith; not_rows = tt }

-- a line that is longer than a row is refused
pub too_long : (limit workers : ℕ) (opening : Opening) (book : Book) (held left : List ℕ) (line : ℕ) → HasNoEnd held → 189 < length held → length held ≤ 65536 → line ≡ length book + 1
    → IsRefusedIn (fault.Long line) limit workers opening book (held ++ left)
too_long limit workers opening book held left line no_end long few is = record { bytes = held; behind = left; text_is = refl; few = few; not_rows = (no_end, long, is) }

-- ---- the end

-- nothing is read of an auction that was just made
pub begins : (auction : JoinedState) → IsStartOf auction [] → HasRead (record { auction = auction; rows = 0; kept = 0 }) []
begins auction start = record { start = start; in_range = All-from_recursion IsInRange [] tt; rows = refl; kept = refl }

pub same_again : (auction : JoinedState) → IsSameAuction auction auction
same_again auction = record { opening = refl; limit = refl; phase = refl; shards = refl; workers = refl }

pub any_error : {T E : Type 0} (result : Result T E) (P : Type 0) → P → IfErr result (λ e. P)
any_error (Ok x) P holds = tt
any_error (Err x) P holds = holds

module _ (text remaining told now : Option (List ℕ)) (reading : ReadRows) (held : List ℕ) (was : IsReadTo text remaining told now reading held) (end : IsAtEnd remaining) where
  pub end_opens : (result : Result LoggedAuction OpenFault) → HasNoEnd held → IfOk result (OpensReading reading) → IfOk result (λ o. o.tail.items ≡ held) → IfOk result (λ o. is_cut_row o.tail.items ≡ true) → IfOk result (Opens text told now)
  end_opens (Ok o) no_end same tail_is cut = opens text remaining told now reading held o was end no_end same.auction same.rows same.kept tail_is cut
  end_opens (Err e) no_end same tail_is cut = tt

  pub end_refused : (first : JoinedState) (result : Result LoggedAuction OpenFault) → IsSameAuction first reading.auction
      → IfErr result (λ why. (book : Book) → HasRead reading book → IsRefusedIn why reading.auction.limit (length reading.auction.counters) reading.auction.opening book held)
      → IfErr result (λ why. IfSome text (IsRefused why first.limit (length first.counters) first.opening))
  end_refused first (Ok o) same refused = tt
  end_refused first (Err why) same refused = refused_after text remaining told now reading held why first same was (λ left known.
      let none : left ≡ [] = at_end remaining left known end in
      subst (λ (all : List ℕ). IsRefusedIn why reading.auction.limit (length reading.auction.counters) reading.auction.opening was.book all)
      (sym (append-nil held) ∙ ap (λ (rest : List ℕ). held ++ rest) (sym none)) (refused was.book was.has))

pub end_same : (first : JoinedState) (reading : ReadRows) (result : Result LoggedAuction OpenFault) → IsSameAuction first reading.auction → IfOk result (OpensReading reading)
    → IfOk result (λ o. IsSameAuction first o.auction)
end_same first reading (Ok o) same is = subst (IsSameAuction first) (sym is.auction) same
end_same first reading (Err e) same is = tt
