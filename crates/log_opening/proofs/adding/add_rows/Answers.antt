use Rattle.std.proofs.Common.{rules, ◌<◌, ◌+◌, ◌∷◌, ◌++◌, ◌∙◌, [], ap, length, take, subst, sym}
use Rattle.auction_rows.specs.Book.{Book}
use Rattle.phase_floor.specs.declared.adding.AddFault.TheVariants.{Memory}
use Rattle.log_opening.proofs.PartLemmas.{added_next, added_yet, first_refused, not_taken, same_then}
use Rattle.log_opening.specs.Parts.{HasAdded}
use Rattle.log_opening.proofs.adding.add_rows.Goals as goal

pub returns-in-Err-clause-refused : goal.returns-in-Err-clause-refused
returns-in-Err-clause-refused c = λ book start.
    let all = c.args.opened.now in let mid = c.loop-place.auction in
    let rows = c.loop-place.rows.items in let opened = c.index-opened-place.result in
    let within : c.loop-place.place < length all = search rules in
    let was = c.loop-place.invariant.added book start in
    first_refused c.args.auction.now mid book all c.loop-place.place opened within c.index-opened-place.is rows c.loop-place.invariant.same was c.in-Err.fault
    (not_taken mid (book ++ rows) opened c.add.result c.in-Err.fault c.in-Err.is was.start c.add.ensures.too_long.0 c.add.ensures.refused c.add.ensures.bad_row)

pub returns-in_default-clause-refused : goal.returns-in_default-clause-refused
returns-in_default-clause-refused c = λ book start.
    let all = c.args.opened.now in let within : c.loop-place.place < length all = search rules in
    first_refused c.args.auction.now c.loop-place.auction book all c.loop-place.place c.index-opened-place.result within c.index-opened-place.is c.loop-place.rows.items c.loop-place.invariant.same
    (c.loop-place.invariant.added book start) Memory tt

pub loop-place-preserved : goal.loop-place-preserved
loop-place-preserved c =
    let all = c.args.opened.now in let old = c.args.auction.now in let mid = c.loop-place.auction in
    let new = c.add.new.self in let rows = c.loop-place.rows.items in
    let opened = c.index-opened-place.result in
    let within : c.loop-place.place < length all = search rules in
    let has = c.loop-place.invariant.has in record {
      has = record { book = _; is_of = c.in-Ok-add.ensures.book has.book has.is_of };
      same = same_then old mid new c.loop-place.invariant.same c.add.ensures.same;
      added = λ book start.
          let was = c.loop-place.invariant.added book start in
          let row = c.in-Ok-add.ensures.row (book ++ rows) was.start.is_of in
          subst (HasAdded old new book (take (c.loop-place.place + 1) all)) (sym (c.put_row.ensures.rows ∙ ap (λ (before : Book). before ++ c.in-Ok-add.row ∷ []) c.reserve.ensures.items))
          (added_next old mid book all c.loop-place.place opened within c.index-opened-place.is rows c.loop-place.invariant.same was new c.in-Ok-add.row row.0 row.1 (c.in-Ok-add.ensures.start (book ++ rows) was.start) c.put_row.ensures.in_range);
    }

pub returns-in-Err-clause-first : goal.returns-in-Err-clause-first
returns-in-Err-clause-first c = λ book start. (
  c.loop-place.rows.items,
  added_yet c.args.auction.now c.loop-place.auction c.add.new.self book (take c.loop-place.place c.args.opened.now) c.loop-place.rows.items (c.loop-place.invariant.added book start) c.add.ensures.same c.in-Err.ensures.kept,
)

pub returns-in_default-clause-first : goal.returns-in_default-clause-first
returns-in_default-clause-first c = λ book start. (c.loop-place.rows.items, c.loop-place.invariant.added book start)

pub returns-in-Err-clause-same : goal.returns-in-Err-clause-same
returns-in-Err-clause-same c = same_then c.args.auction.now c.loop-place.auction c.add.new.self c.loop-place.invariant.same c.add.ensures.same
