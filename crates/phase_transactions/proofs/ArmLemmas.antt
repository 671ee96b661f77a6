-- What each kind of store does is good on a shard that it took, by what it was answered.
use Rattle.std.proofs.Common.{◌≡◌, ℕ, Option, Some, None, MatchOption, option_map, refl, subst}
use Rattle.auction_rows.specs.declared.replies.Reply.TheVariants.{BidStored, Bought, Refused}
use Rattle.auction_rows.specs.declared.requests.Request.TheVariants.{StoreBid, StoreComment, BuyNow}
use Rattle.auction_rows.specs.declared.{values.Stars.Stars, requests.ItemId.ItemId, requests.BidId.BidId, requests.BuyId.BuyId, requests.Facts.Facts, requests.BidEntry.BidEntry, requests.Request.Request, replies.Refusal.Refusal, replies.Reply.Reply}
use Rattle.item_shards.specs.Events.{Bid, Comment, Buy, Look}
use Rattle.item_shards.specs.Shown as shown
use Rattle.shard_boxes.specs.Helds.{HeldState}
use Rattle.phase_transactions.proofs.GoodLemmas.{bid_good, buy_good, comment_good}
use Rattle.phase_transactions.specs.{Workers.{WorkerState}, inner.Begun.{IsAnsweredOn, Step}}
use Rattle.phase_transactions.specs.inner.Deeds.{AreGoodOn}
use Rattle.worker_slices.specs.Homes.{shard_at}

-- what is accepted is not refused
free : (A : Type 0) (refused : Option Refusal) (reply : Reply) → ((reason : Refusal) → reply ≡ Refused reason → ⊥) → MatchOption refused A (λ reason. reply ≡ Refused reason) → refused ≡ None
free A None reply other is = refl
free A (Some reason) reply other is = absurd (other reason is)

no_bid : (id : BidId) (reason : Refusal) → BidStored id ≡ Refused reason → ⊥
no_bid id reason is = absurd (cc)

no_buy : (id : BuyId) (reason : Refusal) → Bought id ≡ Refused reason → ⊥
no_buy id reason is = absurd (cc)

module _ {step : Step} {w : WorkerState} {seen : Option (Facts × ℕ)} {held : HeldState} (request : Request) (reply : Reply) (its : IsAnsweredOn step w request seen reply held) where
  at : (r : Request) (p : Reply) → request ≡ r → reply ≡ p → IsAnsweredOn step w r seen p held
  at r p is told = subst (λ q. IsAnsweredOn step w r seen q held) told (subst (λ q. IsAnsweredOn step w q seen reply held) is its)

  pub bid_arm : (bidder : ℕ) (item : ItemId) (amount time : ℕ) (id : BidId) (entry : BidEntry) → request ≡ StoreBid bidder item amount time → reply ≡ BidStored id
      → AreGoodOn (shard_at step.homes.item) (shard_at step.homes.item) (Look (shown.Left item seen)) (Bid item entry) held
  bid_arm bidder item amount time id entry is told =
      let on = at (StoreBid bidder item amount time) (BidStored id) is told in
      bid_good step.initial step.workers w.key held w.slices w.opening on.taken on.opened on.below bidder item amount time entry seen step.homes.item on.homes_are.0 (on.found item refl) (free _ _ (BidStored id) (no_bid id) on.answered)

  pub buy_arm : (buyer : ℕ) (item : ItemId) (quantity time : ℕ) (id : BuyId) → request ≡ BuyNow buyer item quantity time → reply ≡ Bought id
      → AreGoodOn (shard_at step.homes.item) (shard_at step.homes.item) (Look (shown.Left item seen)) (Buy item quantity) held
  buy_arm buyer item quantity time id is told =
      let on = at (BuyNow buyer item quantity time) (Bought id) is told in
      buy_good step.initial step.workers w.key held w.slices w.opening on.taken on.opened on.below buyer item quantity time seen step.homes.item on.homes_are.0 (on.found item refl) (free _ _ (Bought id) (no_buy id) on.answered)

  pub comment_arm : (author about : ℕ) (item : ItemId) (stars : Stars) → request ≡ StoreComment author about item stars
      → AreGoodOn (shard_at step.homes.item) (shard_at step.homes.other) (Look (shown.Facts item (option_map (λ s. s.0) seen))) (Comment about stars) held
  comment_arm author about item stars is =
      let on = at (StoreComment author about item stars) reply is refl in
      comment_good step.initial step.workers w.key held w.slices w.opening on.taken on.opened on.below author about item stars seen step.homes.item step.homes.other on.homes_are.1 (on.found item refl) on.allowed
