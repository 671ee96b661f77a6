use Rattle.std.proofs.Common.{◌≡◌, ◌<◌, Option, None, Some, ◌++◌, sym, ap, subst, ◌∙◌, option_to_list}
use Rattle.std.proofs.lemmas.List.{append-nil}
use Rattle.auction_rows.specs.{Book.{Book}, Replies.{next, reply, row_of}, declared.rows.Row.{Row}}
use Rattle.item_shards.proofs.BidLemmas.{id_at_hand}
use Rattle.item_shards.proofs.SerialLemmas.{goes_on, view_adds_none, worker_of_added}
use Rattle.item_shards.specs.Serial.{serial_opening, HoldsBook}
use Rattle.item_shards.proofs.serial.SerialAuction.perform_store.Goals as goal

pub perform_bid-requires-clause-id : goal.perform_bid-requires-clause-id
perform_bid-requires-clause-id c = id_at_hand c.args.self.now c.requires.room.book c.requires.room.holds c.args.worker c.requires.worker

pub returns-in-StoreBid-clause-reply : goal.returns-in-StoreBid-clause-reply
returns-in-StoreBid-clause-reply c = λ b holds. c.perform_bid.ensures.reply b holds ∙ ap (reply (serial_opening c.args.self.now) b c.args.worker) (sym c.in-StoreBid.is)

pub returns-in-StoreBid-clause-book : goal.returns-in-StoreBid-clause-book
returns-in-StoreBid-clause-book c = λ b holds not_full.
    subst (λ request. HoldsBook c.perform_bid.new.self (next (serial_opening c.args.self.now) b c.args.worker request)) (sym c.in-StoreBid.is) (c.perform_bid.ensures.book b holds not_full)

pub returns-then-is_view-clause-book : goal.returns-then-is_view-clause-book
returns-then-is_view-clause-book c = λ b holds not_full.
    let start = serial_opening c.args.self.now in let request = c.args.request.now in
    let none = view_adds_none c.args.worker request (reply start b c.args.worker request) (sym c.is_view.ensures ∙ c.if-is_view.true) in
    subst (λ (after : Book). HoldsBook c.args.self.now after) (sym (ap (λ (o : Option Row). b ++ option_to_list o) none ∙ append-nil b)) holds

pub store-requires : goal.store-requires
store-requires c =
    let start = serial_opening c.args.self.now in let w = c.args.worker in
    let request = c.args.request.now in let b = c.requires.room.book in let row = c.in-Some.row in
    let is : row_of w request (reply start b w request) ≡ Some row =
    ap (row_of w request) (sym (c.reply_to_store-reply.ensures b c.requires.room.holds)) ∙ sym c.row_of_store.ensures ∙ c.in-Some.is in
    record {
      book = b;
      holds = c.requires.room.holds;
      not_full = c.requires.room.not_full;
      goes_on = goes_on start b w request row is;
      worker = subst (λ v. v < 16) (sym (worker_of_added start b w request row is)) c.requires.worker;
    }

pub returns-in_ok-store-clause-book : goal.returns-in_ok-store-clause-book
returns-in_ok-store-clause-book c = λ b holds not_full.
    let start = serial_opening c.args.self.now in let w = c.args.worker in
    let request = c.args.request.now in
    let added : row_of w request (reply start b w request) ≡ Some c.in-Some.row =
    ap (row_of w request) (sym (c.reply_to_store-reply.ensures b holds)) ∙ sym c.row_of_store.ensures ∙ c.in-Some.is in
    subst (λ (o : Option Row). HoldsBook c.store.new.self (b ++ option_to_list o)) (sym added) (c.in_ok-store.ensures.stored b holds not_full)

pub returns-in_default-row_of_store-clause-book : goal.returns-in_default-row_of_store-clause-book
returns-in_default-row_of_store-clause-book c = λ b holds not_full.
    let start = serial_opening c.args.self.now in let w = c.args.worker in
    let request = c.args.request.now in
    let none : row_of w request (reply start b w request) ≡ None =
    ap (row_of w request) (sym (c.reply_to_store-reply.ensures b holds)) ∙ sym c.row_of_store.ensures ∙ c.in_default-row_of_store.is in
    subst (λ (after : Book). HoldsBook c.args.self.now after) (sym (ap (λ (o : Option Row). b ++ option_to_list o) none ∙ append-nil b)) holds
