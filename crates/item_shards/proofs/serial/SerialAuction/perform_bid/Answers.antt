use Rattle.std.proofs.Common.{◌≡◌, ◌∷◌, [], ◌++◌, Some, None, true, sym, subst, ◌∙◌, arith}
use Rattle.auction_rows.specs.Refusals.{number_refusal, refusal}
use Rattle.auction_rows.specs.declared.requests.Object.TheVariants.{Item}
use Rattle.item_shards.proofs.BidLemmas.{bid_fits, bid_row, by_opening, next_id, refused_as, refused_by_number, refused_next, refused_reply, stored_next, stored_reply}
use Rattle.item_shards.proofs.SerialLemmas.{counted_in, counts_next, limits_next, none_counted, stands_after, stored_few}
use Rattle.item_shards.{proofs.StandingLemmas.{stands_moved}, specs.Answering.{bid_request}}
use Rattle.item_shards.specs.{Contents.{after_acts}, Counting.{AreFew}}
use Rattle.item_shards.specs.{Serial.{HoldsBook, serial_opening}, ShardContents.{contents}}
use Rattle.item_shards.specs.Writing.{writes_of}
use Rattle.item_shards.proofs.serial.SerialAuction.perform_bid.Goals as goal

pub try_bid-requires-clause-count : goal.try_bid-requires-clause-count
try_bid-requires-clause-count c =
    let can = c.requires.room in
    bid_fits c.args.self.now can.book can.holds c.args.item (c.args.self.now.has_all (Item c.args.item)) can.not_full

pub overflow_add-counts : goal.overflow_add-counts
overflow_add-counts c =
    let can = c.requires.room in
    let few = subst AreFew (sym (counted_in c.args.self.now can.book c.args.bid.id.worker can.holds c.requires.worker)) (stored_few can.book c.args.bid.id.worker can.not_full) in
    omega (arith, few.1)

pub returns-in-Some-clause-reply : goal.returns-in-Some-clause-reply
returns-in-Some-clause-reply c = λ b holds.
    let start = serial_opening c.args.self.now in
    let is : number_refusal start (bid_request c.args.item c.args.bid) ≡ Some c.in-Some.reason = by_opening c.args.self.now c.deref.result.now (bid_request c.args.item c.args.bid) c.bidder_refusal.result c.deref.ensures (c.bidder_refusal.ensures c.args.item c.args.bid.amount c.args.bid.time) ∙ c.in-Some.is in
    sym (refused_reply start b c.args.item c.args.bid c.in-Some.reason (refused_by_number start b (bid_request c.args.item c.args.bid) c.in-Some.reason is))

pub returns-in-Some-clause-book : goal.returns-in-Some-clause-book
returns-in-Some-clause-book c = λ b holds not_full.
    let start = serial_opening c.args.self.now in
    let is : number_refusal start (bid_request c.args.item c.args.bid) ≡ Some c.in-Some.reason = by_opening c.args.self.now c.deref.result.now (bid_request c.args.item c.args.bid) c.bidder_refusal.result c.deref.ensures (c.bidder_refusal.ensures c.args.item c.args.bid.amount c.args.bid.time) ∙ c.in-Some.is in
    subst (HoldsBook c.args.self.now) (sym (refused_next start b c.args.item c.args.bid c.in-Some.reason (refused_by_number start b (bid_request c.args.item c.args.bid) c.in-Some.reason is))) holds

pub returns-in-Some-try_bid-clause-reply : goal.returns-in-Some-try_bid-clause-reply
returns-in-Some-try_bid-clause-reply c = λ b holds.
    let auction = c.args.self.now in let item = c.args.item in
    let none : number_refusal (serial_opening auction) (bid_request item c.args.bid) ≡ None = by_opening c.args.self.now c.deref.result.now (bid_request c.args.item c.args.bid) c.bidder_refusal.result c.deref.ensures (c.bidder_refusal.ensures c.args.item c.args.bid.amount c.args.bid.time) ∙ c.in_default.is in
    let is : refusal (serial_opening auction) b (bid_request item c.args.bid) ≡ Some c.in-Some-try_bid.reason =
    sym (refused_as auction b holds item (auction.has_all (Item item)) c.args.bid none) ∙ sym c.in-Some-try_bid.ensures.by in
    sym (refused_reply (serial_opening auction) b item c.args.bid c.in-Some-try_bid.reason is)

pub returns-in-Some-try_bid-clause-book : goal.returns-in-Some-try_bid-clause-book
returns-in-Some-try_bid-clause-book c = λ b holds not_full.
    let auction = c.args.self.now in let item = c.args.item in
    let none : number_refusal (serial_opening auction) (bid_request item c.args.bid) ≡ None = by_opening c.args.self.now c.deref.result.now (bid_request c.args.item c.args.bid) c.bidder_refusal.result c.deref.ensures (c.bidder_refusal.ensures c.args.item c.args.bid.amount c.args.bid.time) ∙ c.in_default.is in
    let is : refusal (serial_opening auction) b (bid_request item c.args.bid) ≡ Some c.in-Some-try_bid.reason =
    sym (refused_as auction b holds item (auction.has_all (Item item)) c.args.bid none) ∙ sym c.in-Some-try_bid.ensures.by in
    subst (HoldsBook _) (sym (refused_next (serial_opening auction) b item c.args.bid c.in-Some-try_bid.reason is)) (record {
      records = stands_moved auction.shard c.try_bid.new.self (contents auction.shard) b [] c.try_bid.ensures.after.same c.in-Some-try_bid.ensures.after.contents holds.records;
      counts = holds.counts;
      limits = holds.limits;
    })

pub returns-clause-reply : goal.returns-clause-reply
returns-clause-reply c = λ b holds.
    let auction = c.args.self.now in let item = c.args.item in
    let none : number_refusal (serial_opening auction) (bid_request item c.args.bid) ≡ None = by_opening c.args.self.now c.deref.result.now (bid_request c.args.item c.args.bid) c.bidder_refusal.result c.deref.ensures (c.bidder_refusal.ensures c.args.item c.args.bid.amount c.args.bid.time) ∙ c.in_default.is in
    let taken : refusal (serial_opening auction) b (bid_request item c.args.bid) ≡ None =
    sym (refused_as auction b holds item (auction.has_all (Item item)) c.args.bid none) ∙ sym c.in_default-try_bid.ensures.by in
    sym (stored_reply (serial_opening auction) b item c.args.bid taken (next_id auction b holds c.args.bid.id.worker c.args.bid.id.serial c.requires.worker c.requires.id))

pub returns-clause-book : goal.returns-clause-book
returns-clause-book c = λ b holds not_full.
    let auction = c.args.self.now in let shard = auction.shard in
    let start = serial_opening auction in let item = c.args.item in
    let r = bid_row item c.args.bid in
    let none : number_refusal start (bid_request item c.args.bid) ≡ None = by_opening c.args.self.now c.deref.result.now (bid_request c.args.item c.args.bid) c.bidder_refusal.result c.deref.ensures (c.bidder_refusal.ensures c.args.item c.args.bid.amount c.args.bid.time) ∙ c.in_default.is in
    let taken : refusal start b (bid_request item c.args.bid) ≡ None =
    sym (refused_as auction b holds item (auction.has_all (Item item)) c.args.bid none) ∙ sym c.in_default-try_bid.ensures.by in
    subst (HoldsBook _) (sym (stored_next start b item c.args.bid taken (next_id auction b holds c.args.bid.id.worker c.args.bid.id.serial c.requires.worker c.requires.id))) (record {
      records = stands_moved shard c.try_bid.new.self (after_acts (contents shard) (writes_of r)) (b ++ r ∷ []) [] c.try_bid.ensures.after.same c.in_default-try_bid.ensures.after.contents
          (stands_after start shard.parts.value.number shard.parts.value.shards (λ id. true) (contents shard) auction.has_all b r holds.records);
      counts = λ w within. counts_next b r auction.stored none_counted holds.counts c.requires.worker w within;
      limits = limits_next b r holds.limits not_full;
    })
