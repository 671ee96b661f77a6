-- Bids of the auction of one thread: by what its shard has, with the book that it holds.
use Rattle.std.proofs.Common.{◌≡◌, ℕ, ◌+◌, ◌<◌, ◌^◌, [], ◌∷◌, ◌++◌, Option, Some, None, option_to_list, length, get_or, refl, sym, ap, subst, ◌∙◌, arith}
use Rattle.std.{proofs.lemmas.{Bool.{eq-eqb}, List.{append-nil}}, specs.Option.{option_or}}
use Rattle.std.specs.Prelude.{IfSome, slice_get}
use Rattle.auction_rows.{proofs.RefusalLemmas.{refusal-split}, specs.Book.{Book, bids_stored}}
use Rattle.auction_rows.specs.Refusals.{facts_for, item_refusal, left_for, number_refusal, refusal}
use Rattle.auction_rows.specs.Replies.{answer, answer_unless, next, reply, row_if, row_of}
use Rattle.auction_rows.specs.declared.replies.Reply.TheVariants.{BidStored, Refused}
use Rattle.auction_rows.specs.declared.requests.Object.TheVariants.{Item}
use Rattle.auction_rows.specs.declared.{values.Opening.Opening, requests.ItemId.ItemId, requests.BidEntry.BidEntry, requests.Request.Request, replies.Refusal.Refusal, rows.Row.Row}
use Rattle.auction_rows.specs.declared.rows.Row.TheVariants as row
use Rattle.item_shards.proofs.{AnswerLemmas.{stock_is}, CountLemmas.{bids_at_most}}
use Rattle.item_shards.proofs.SerialLemmas.{counted_in, none_counted, refused_by_item, refused_by_stock}
use Rattle.item_shards.specs.Answering.{bid_request, refusal_with}
use Rattle.item_shards.specs.{Serial.{HoldsBook, serial_opening}, ShardContents.{LiesIn, contents}}
use Rattle.item_shards.specs.{Values.{Value, stock}, declared.serial.SerialAuction.{SerialAuction}}
use Rattle.item_shards.specs.declared.serial.StoreCounts.{StoreCounts}
use Rattle.item_shards.specs.declared.shard.ShardRecords.{ShardRecords}

-- the row of a bid
abbrev pub bid_row : ItemId → BidEntry → Row
bid_row item bid = row.Bid (record { id = bid.id; item = item; bidder = bid.bidder; amount = bid.amount; time = bid.time })

-- the opening's reason goes first
pub refused_by_number : (start : Opening) (b : Book) (request : Request) (reason : Refusal) → number_refusal start request ≡ Some reason → refusal start b request ≡ Some reason
refused_by_number start b request reason is = refusal-split start b request ∙ ap (λ o. option_or o (item_refusal request (facts_for b request) (left_for b request))) is

-- what the opening of a shard's records gives
pub by_opening : (auction : SerialAuction) (parts : ShardRecords) (request : Request) (found : Option Refusal) → parts ≡ auction.shard.parts.value → found ≡ number_refusal parts.opening request
    → number_refusal (serial_opening auction) request ≡ found
by_opening auction parts request found same is = sym (is ∙ ap (λ (p : ShardRecords). number_refusal p.opening request) same)

module _ (start : Opening) (b : Book) (item : ItemId) (bid : BidEntry) where
  abbrev asked : Request
  asked = bid_request item bid

  -- a refused bid is answered by the reason, and adds no row
  pub refused_reply : (reason : Refusal) → refusal start b asked ≡ Some reason → reply start b bid.id.worker asked ≡ Refused reason
  refused_reply reason is = ap (λ o. answer_unless o (answer b bid.id.worker asked)) is

  pub refused_next : (reason : Refusal) → refusal start b asked ≡ Some reason → next start b bid.id.worker asked ≡ b
  refused_next reason is = ap (λ answered. b ++ option_to_list (row_of bid.id.worker asked answered)) (refused_reply reason is) ∙ append-nil b

  -- one that is not refused gets its worker's next id, and adds its row
  module _ (none : refusal start b asked ≡ None) (serial : bid.id.serial ≡ bids_stored b bid.id.worker) where
    pub stored_reply : reply start b bid.id.worker asked ≡ BidStored bid.id
    stored_reply =
        ap (λ o. answer_unless o (answer b bid.id.worker asked)) none
        ∙ ap (λ (n : ℕ). BidStored (record { worker = bid.id.worker; serial = n })) (sym serial)

    pub stored_next : next start b bid.id.worker asked ≡ b ++ bid_row item bid ∷ []
    stored_next =
        ap (λ answered. b ++ option_to_list (row_of bid.id.worker asked answered)) stored_reply
        ∙ ap (λ own. b ++ option_to_list (row_if own (bid_row item bid))) (eq-eqb bid.id.worker bid.id.worker refl)

module _ (auction : SerialAuction) (b : Book) (holds : HoldsBook auction b) where
  -- the next id of a worker's bids is the book's
  pub next_id : (worker serial : ℕ) → worker < 16 → IfSome (slice_get auction.stored worker) (λ counts. serial ≡ counts.bids) → serial ≡ bids_stored b worker
  next_id worker serial below is = subst (λ (o : Option StoreCounts). IfSome o (λ counts. serial ≡ counts.bids)) (holds.counts worker below) is

  pub id_at_hand : (worker : ℕ) → worker < 16 → IfSome (slice_get auction.stored worker) (λ counts. (get_or auction.stored worker none_counted).bids ≡ counts.bids)
  id_at_hand worker below =
      subst (λ (o : Option StoreCounts). IfSome o (λ counts. (get_or auction.stored worker none_counted).bids ≡ counts.bids)) (sym (holds.counts worker below))
      (ap (λ (s : StoreCounts). s.bids) (counted_in auction b worker holds below))

  module _ (item : ItemId) (here : LiesIn auction.shard (Item item)) where
    -- if the opening does not refuse a bid, what the shard has in stock decides
    pub refused_as : (bid : BidEntry) → number_refusal (serial_opening auction) (bid_request item bid) ≡ None
        → refusal_with (stock (contents auction.shard (Item item))) (bid_request item bid) ≡ refusal (serial_opening auction) b (bid_request item bid)
    refused_as bid none =
        refused_by_stock b (bid_request item bid) item (stock (contents auction.shard (Item item))) refl (ap stock (holds.records (Item item) here refl) ∙ stock_is b item)
        ∙ refused_by_item (serial_opening auction) b (bid_request item bid) none

    -- one bid more fits
    pub bid_fits : length b < 16000000 → (contents auction.shard (Item item)).bids.bids + 1 < 2 ^ 64
    bid_fits not_full = omega (arith, not_full, bids_at_most b item, ap (λ (v : Value). v.bids.bids) (holds.records (Item item) here refl))
