use Rattle.std.proofs.{Common.{◌<◌, ◌++◌, ◌∷◌, [], take, sym, subst, ◌∙◌}, lemmas.List.{take_all}}
use Rattle.std.proofs.lemmas.List.Elements.{All-get_or}
use Rattle.auction_rows.specs.History.{GoOn}
use Rattle.auction_rows.specs.declared.{values.Opening.Opening, rows.Row.Row}
use Rattle.item_shards.proofs.SerialLemmas.{either_way, one_more, next_goes_on, front_not_full}
use Rattle.item_shards.specs.{Counting.{worker_of}, Serial.{HoldsBook, serial_opening}}
use Rattle.item_shards.proofs.serial.SerialAuction.add_rows.Goals as goal

pub store-requires : goal.store-requires
store-requires c =
    let rows = c.args.rows.now in let book = c.requires.book in let i = c.loop-row.row-index in
    let within = c.loop-row-test.true in
    let r = c.row-item.result in record {
      book = book ++ take i rows;
      holds = c.loop-row.invariant.holds book c.requires.holds c.requires.follow;
      not_full = front_not_full book rows i within c.requires.follow.few;
      goes_on = subst (λ (start : Opening). GoOn start (book ++ take i rows) (r ∷ [])) (sym c.loop-row.invariant.opening_is) (next_goes_on book rows i r within c.row-item.is (serial_opening c.args.self.now) c.requires.follow.is_book);
      worker = subst (λ (row : Row). worker_of row < 16) (sym c.row-item.is) (All-get_or (λ row. worker_of row < 16) rows i r within c.requires.follow.workers);
    }

pub loop-row-preserved : goal.loop-row-preserved
loop-row-preserved c =
    let rows = c.args.rows.now in
    let i = c.loop-row.row-index in record {
      opening_is = c.store.ensures.opening ∙ c.loop-row.invariant.opening_is;
      holds = λ book holds follow.
          subst (HoldsBook c.store.new.self) (sym (one_more book rows i c.row-item.result c.loop-row-test.true c.row-item.is))
          (c.in_ok-store.ensures.stored (book ++ take i rows) (c.loop-row.invariant.holds book holds follow) (front_not_full book rows i c.loop-row-test.true follow.few));
    }

pub returns-clause-book : goal.returns-clause-book
returns-clause-book c = λ book holds follow.
    subst (λ rs. HoldsBook c.loop-row.self (book ++ rs)) (take_all c.loop-row.row-index c.args.rows.now c.loop-row-test.false) (c.loop-row.invariant.holds book holds follow)

pub returns-in_err-store-clause-refused : goal.returns-in_err-store-clause-refused
returns-in_err-store-clause-refused c = either_way c.from_residual.result (λ book holds follow. record {
  count = c.loop-row.row-index;
  holds = c.in_err-store.ensures.refused (book ++ take c.loop-row.row-index c.args.rows.now) (c.loop-row.invariant.holds book holds follow);
})
