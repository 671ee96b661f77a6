use Rattle.std.proofs.Common.{◌≡◌, ◌+◌, ◌<◌, ◌∷◌, [], ◌++◌, refl, sym, ap, subst, ◌∙◌, length, take, take_all, ℕ, ◌≤◌, All}
use Rattle.std.proofs.lemmas.{Bool.{eqb-true}, List.{nil_from_length}}
use Rattle.auction_rows.specs.{Book.{Book}, History.{IsBook}}
use Rattle.item_shards.proofs.OpeningBookLemmas.{not_full, not_last, rows_more, book_more, first_bad, is_book, has_workers, has_few, row_moved, not_rows, fits_in, neither, not_long, not_row, no_fault, for_memory, same_number}
use Rattle.item_shards.specs.Counting.{worker_of}
use Rattle.item_shards.specs.OpeningRows.{rows_by, opening_rows, with_opened, IsRow, AreRows, IsFirstBad, IsTooLong}
use Rattle.item_shards.specs.Serial.{serial_opening, HoldsBook}
use Rattle.item_shards.proofs.openings.OpeningBook.new.Goals as goal

pub add_opened-requires : goal.add_opened-requires
add_opened-requires c = λ below.
    let all = c.deref-opened-items.result.now in let before = c.loop-index.invariant in
    let fits = fits_in c.is_too_long.result c.deref.result.now all c.if-is_too_long.false c.is_too_long.ensures (c.deref.ensures.value ∙ sym c.deref-opened-items.ensures.value) in
    record {
      book = c.loop-index.book.items;
      holds = before.holds;
      not_full = subst (λ b. length b < 16000000) (sym before.rows_are) (not_full c.args.opening all fits c.loop-index.index c.opened-item.result c.loop-index-test.true c.opened-item.is before.accepted below);
    }

pub returns-in_err-auction : goal.returns-in_err-auction
returns-in_err-auction c = for_memory c.from_residual.result c.args.rows.items _ _ _ _ _ c.from_residual.ensures.1
    (fits_in c.is_too_long.result c.deref.result.now c.args.rows.items c.if-is_too_long.false c.is_too_long.ensures c.deref.ensures.value)

pub returns-in_err-row : goal.returns-in_err-row
returns-in_err-row c = for_memory c.from_residual-in_err-row.result c.args.rows.items _ _ _ _ _ c.from_residual-in_err-row.ensures.1
    (fits_in c.is_too_long.result c.deref.result.now c.args.rows.items c.if-is_too_long.false c.is_too_long.ensures c.deref.ensures.value)

pub returns-in_err-push-in-Some : goal.returns-in_err-push-in-Some
returns-in_err-push-in-Some c = for_memory c.from_residual-in_err-push-in-Some.result c.args.rows.items _ _ _ _ _ c.from_residual-in_err-push-in-Some.ensures.1
    (fits_in c.is_too_long.result c.deref.result.now c.args.rows.items c.if-is_too_long.false c.is_too_long.ensures c.deref.ensures.value)

pub returns-then-is_too_long : goal.returns-then-is_too_long
returns-then-is_too_long c =
    let long : IsTooLong c.args.rows.items = subst IsTooLong c.deref.ensures.value (c.is_too_long.ensures.0 c.if-is_too_long.true) in
    record {
      rows = tt;
      opening = tt;
      accepted = tt;
      ok = λ are fits. absurd (fits long);
      too_long = (λ e. long, λ known. refl);
      bad_row = λ n e. absurd (not_row n e);
    }

pub returns-then-is_empty : goal.returns-then-is_empty
returns-then-is_empty c =
    let none : c.args.rows.items ≡ [] = nil_from_length _ (sym c.args.rows.ok.0 ∙ eqb-true _ 0 (sym c.is_empty.ensures ∙ c.if-is_empty.true)) in
    record {
      rows = c.empty.ensures.rows ∙ ap (opening_rows c.args.opening) (sym none);
      opening = c.empty.ensures.opening;
      accepted = subst (AreRows c.args.opening) (sym none) tt;
      ok = λ are fits. tt;
      too_long = neither (no_fault _ _) (fits_in c.is_too_long.result c.deref.result.now c.args.rows.items c.if-is_too_long.false c.is_too_long.ensures c.deref.ensures.value);
      bad_row = λ n e. absurd (no_fault _ _ e);
    }

pub returns : goal.returns
returns c =
    let all = c.deref-opened-items.result.now in let before = c.loop-index.invariant in
    let start = c.args.opening in
    let whole : take c.loop-index.index all ≡ all = take_all c.loop-index.index all c.loop-index-test.false in
    record {
      rows = before.rows_are ∙ ap (opening_rows start) (whole ∙ c.deref-opened-items.ensures.value);
      opening = refl;
      accepted = subst (AreRows start) (whole ∙ c.deref-opened-items.ensures.value) before.accepted;
      ok = λ are fits. tt;
      too_long = neither (no_fault _ _) (fits_in c.is_too_long.result c.deref.result.now c.args.rows.items c.if-is_too_long.false c.is_too_long.ensures c.deref.ensures.value);
      bad_row = λ n e. absurd (no_fault _ _ e);
    }

pub returns-in-None : goal.returns-in-None
returns-in-None c =
    let all = c.deref-opened-items.result.now in let i = c.loop-index.index in
    let opened = c.opened-item.result in let before = c.loop-index.invariant in
    let start = c.args.opening in
    let fits = fits_in c.is_too_long.result c.deref.result.now all c.if-is_too_long.false c.is_too_long.ensures (c.deref.ensures.value ∙ sym c.deref-opened-items.ensures.value) in
    let no_row : ¬ IsRow (serial_opening c.loop-index.auction) c.loop-index.book.items opened = (rw c.in-None.is at c.in_ok-row.ensures.bad) c.loop-index.book.items before.holds in
    let first = first_bad start all fits i opened c.loop-index-test.true c.opened-item.is before.accepted
    (λ row. no_row (row_moved start (serial_opening c.loop-index.auction) (opening_rows start (take i all)) c.loop-index.book.items opened (sym before.opening_is) (sym before.rows_are) row)) in
    let bad = subst (λ rows. IsFirstBad start rows (i + 1)) c.deref-opened-items.ensures.value first in
    record {
      rows = tt;
      opening = tt;
      accepted = tt;
      ok = λ are _. absurd (not_rows _ _ _ bad are);
      too_long = neither (not_long _) (fits_in c.is_too_long.result c.deref.result.now c.args.rows.items c.if-is_too_long.false c.is_too_long.ensures c.deref.ensures.value);
      bad_row = λ n e. subst (IsFirstBad start c.args.rows.items) (same_number (i + 1) n e) bad;
    }

pub loop-index-preserved : goal.loop-index-preserved
loop-index-preserved c =
    let all = c.deref-opened-items.result.now in let i = c.loop-index.index in
    let opened = c.opened-item.result in let before = c.loop-index.invariant in
    let start = c.args.opening in let first = serial_opening c.loop-index.auction in
    let b = c.loop-index.book.items in let part = opening_rows start (take i all) in
    let fits = fits_in c.is_too_long.result c.deref.result.now all c.if-is_too_long.false c.is_too_long.ensures (c.deref.ensures.value ∙ sym c.deref-opened-items.ensures.value) in
    let added : IsRow first b opened × (with_opened first b opened ≡ b ++ c.in-Some.row ∷ []) = (rw c.in-Some.is at c.in_ok-row.ensures.row) b before.holds in
    let row = row_moved first start b part opened before.opening_is before.rows_are added.0 in
    let not_full_yet = subst (λ book. length book < 16000000) (sym before.rows_are) (not_full start all fits i opened c.loop-index-test.true c.opened-item.is before.accepted row.worker) in
    let held : HoldsBook c.add_opened.new.self (with_opened first b opened) = (rw c.in-Some.is at c.in_ok-row.ensures.book) b before.holds not_full_yet in
    let pushed : c.push.new.self.items ≡ b ++ c.in-Some.row ∷ [] = c.in_ok-push-in-Some.ensures.items in
    record {
      opening_is = c.add_opened.ensures.opening ∙ before.opening_is;
      holds = subst (HoldsBook c.add_opened.new.self) (added.1 ∙ sym pushed) held;
      rows_are = pushed ∙ sym added.1 ∙ ap (λ o. with_opened o b opened) before.opening_is ∙ ap (λ book. with_opened start book opened) before.rows_are
          ∙ sym (book_more start all fits i opened c.loop-index-test.true c.opened-item.is before.accepted);
      accepted = rows_more start all fits i opened c.loop-index-test.true c.opened-item.is before.accepted row;
      few = not_last start all fits i opened c.loop-index-test.true c.opened-item.is before.accepted row.worker;
    }

pub invariant_of-result : goal.invariant_of-result
invariant_of-result c =
    let all = c.deref-opened-items.result.now in let before = c.loop-index.invariant in
    let start = c.args.opening in
    let fits = fits_in c.is_too_long.result c.deref.result.now all c.if-is_too_long.false c.is_too_long.ensures (c.deref.ensures.value ∙ sym c.deref-opened-items.ensures.value) in
    let whole : take c.loop-index.index all ≡ all = take_all c.loop-index.index all c.loop-index-test.false in
    let are : AreRows start all = subst (AreRows start) whole before.accepted in
    let rows : opening_rows start all ≡ c.loop-index.book.items = ap (opening_rows start) (sym whole) ∙ sym before.rows_are in
    record {
      is_book = subst (IsBook start) rows (is_book start all are);
      of_workers = subst (All (λ row. worker_of row < 16)) rows (has_workers start all are);
      few = subst (λ (book : Book). (worker : ℕ) → worker < 16 → rows_by book worker ≤ 1000000) rows (has_few start all are fits);
      within = ∣ before.holds.limits ∣₁;
    }
