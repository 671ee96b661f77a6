use Rattle.std.proofs.Common.{◌≡◌, arith, ◌+◌, ◌∙◌, [], ℕ, List, Option, IfSome, length, refl, rules, sym, ap, subst}
use Rattle.auction_rows.specs.{Book.{Book}, declared.requests.Opened.{Opened}}
use Rattle.auction_text.specs.{RowLines.{rows_text}, Scripts.{Asked, input_of}}
use Rattle.log_opening.proofs.PartLemmas.{fault_place, line_low, place_within}
use Rattle.log_opening.proofs.ReadingLemmas.{reads_added, rows_within}
use Rattle.log_opening.specs.Differences.{IsFirstDifference}
use Rattle.log_opening.specs.Parts.{AreRowsFrom, IsFirstRefused, rows_from}
use Rattle.log_opening.proofs.parts.ReadRows.add_lines.Goals as goal

pub counted_after-requires : goal.counted_after-requires
counted_after-requires c =
    omega (arith, rows_within c.args.self.now c.requires.can.book c.requires.can.has, c.requires.can.room, fault_place c.workers.result c.args.lines.now c.in-Err.fault c.in-Err.ensures.fault)

pub overflow_add-result : goal.overflow_add-result
overflow_add-result c =
    let first = c.in-Err-add_rows.ensures.refused c.requires.can.book c.requires.can.has.start in
    let rows = c.in-Ok.input.rows in
    omega (arith, rows_within c.args.self.now c.requires.can.book c.requires.can.has, c.requires.can.room, place_within _ _ _ _ _ _ _ first, ap (λ (all : List Opened). length all) c.as_slice.ensures.value, rows.ok.0, rows.ok.1, rows.small)

pub overflow_add-result-in-Err-add_rows : goal.overflow_add-result-in-Err-add_rows
overflow_add-result-in-Err-add_rows c =
    let first = c.in-Err-add_rows.ensures.refused c.requires.can.book c.requires.can.has.start in
    let rows = c.in-Ok.input.rows in
    omega (arith, rows_within c.args.self.now c.requires.can.book c.requires.can.has, c.requires.can.room, place_within _ _ _ _ _ _ _ first, ap (λ (all : List Opened). length all) c.as_slice.ensures.value, rows.ok.0, rows.ok.1, rows.small)

pub returns-in-Err-add_rows-clause-refused : goal.returns-in-Err-add_rows-clause-refused
returns-in-Err-add_rows-clause-refused c = λ book has behind.
    let auction = c.args.self.now.auction in let workers = length auction.counters in
    let asked : Asked = record { rows = c.in-Ok.input.rows.items; scripts = c.in-Ok.input.scripts.items } in
    let place = c.in-Err-add_rows.field-0.place in
    let fault = c.in-Err-add_rows.field-0.fault in record {
      are_lines = c.requires.lines;
      asked = asked;
      read = ap (λ (w : ℕ). input_of w c.args.lines.now) (sym c.workers.ensures.count) ∙ c.in-Ok.ensures.input;
      place = place;
      first = subst (λ (all : List Opened). IsFirstRefused auction.limit fault workers auction.opening book all place) c.as_slice.ensures.value (c.in-Err-add_rows.ensures.refused book has.start);
      number_is = ap (λ (n : ℕ). n + place + 1) has.rows;
    }

pub overflow_add-result-in-Ok-Some : goal.overflow_add-result-in-Ok-Some
overflow_add-result-in-Ok-Some c =
    omega (arith, rows_within c.args.self.now c.requires.can.book c.requires.can.has, c.requires.can.room, c.line_at.ensures, line_low c.args.lines.now c.in-Ok-Some.at)

pub returns-in-Ok-Some-clause-refused : goal.returns-in-Ok-Some-clause-refused
returns-in-Ok-Some-clause-refused c = λ book has behind.
    let auction = c.args.self.now.auction in let lines = c.args.lines.now in
    let adds = c.in-Ok-add_rows.ensures.rows book has.start in let at = c.in-Ok-Some.at in
    let first : IsFirstDifference lines (rows_text c.as_slice-2.result.now []) at =
    subst (λ (found : Option ℕ). IfSome found (λ place. IsFirstDifference lines (rows_text c.as_slice-2.result.now []) place)) c.in-Ok-Some.field-0-is c.in-Ok-Some.ensures.first in
    record {
      are_lines = c.requires.lines;
      asked = record { rows = c.in-Ok.input.rows.items; scripts = c.in-Ok.input.scripts.items };
      read = ap (λ (w : ℕ). input_of w lines) (sym c.workers.ensures.count) ∙ c.in-Ok.ensures.input;
      are_rows = subst (AreRowsFrom auction.opening book) c.as_slice.ensures.value adds.are_rows;
      added = c.in-Ok-add_rows.added.items;
      added_is = ap (rows_from auction.opening book) (sym c.as_slice.ensures.value) ∙ adds.rows_are;
      at = at;
      differs = subst (λ (rows : Book). IsFirstDifference lines (rows_text rows []) at) c.as_slice-2.ensures.value first;
      number_is = ap (λ (n : ℕ). n + c.line_at.result) has.rows ∙ ap (λ (n : ℕ). length book + n) c.line_at.ensures;
    }

pub overflow_add-self : goal.overflow_add-self
overflow_add-self c =
    let added = c.in-Ok-add_rows.added in
    omega (arith, rows_within c.args.self.now c.requires.can.book c.requires.can.has, c.requires.can.room, c.len.ensures, added.ok.0, added.ok.1, added.small)

pub overflow_add-self-2 : goal.overflow_add-self-2
overflow_add-self-2 c =
    let added = c.in-Ok-add_rows.added in
    omega (arith, rows_within c.args.self.now c.requires.can.book c.requires.can.has, c.requires.can.room, c.len.ensures, added.ok.0, added.ok.1, added.small)

pub returns-clause-reads : goal.returns-clause-reads
returns-clause-reads c = λ book has.
    let lines = c.args.lines.now in let added = c.in-Ok-add_rows.added in
    let rows = c.args.self.now.rows + c.len.result in
    let kept = c.args.self.now.kept + length lines in
    let text : lines ≡ rows_text added.items [] = search rules in
    let count : c.len.result ≡ length added.items = search rules in
    reads_added c.args.self.now (record { auction = c.add_rows.new.auction; rows = rows; kept = kept }) book added.items c.as_slice.result.now lines has (c.in-Ok-add_rows.ensures.rows book has.start) text
    (ap (λ (n : ℕ). c.args.self.now.rows + n) count) refl
