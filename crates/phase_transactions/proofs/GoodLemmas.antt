-- What a store does can be done on the shards in which its objects lie, as they were taken.
use Rattle.std.proofs.Common.{◌≡◌, ℕ, ◌-◌, ◌<◌, Bool, false, cond, List, length, Option, Some, None, IsSome, option_map, refl, sym, ap, subst, ◌∙◌, arith}
use Rattle.std.proofs.lemmas.{Bool.{or_parts, leb-false, ltb-false}, Option.{same_Some}}
use Rattle.std.specs.{Option.{option_or}, Prelude.{nat_le, nat_lt}}
use Rattle.auction_rows.{proofs.RefusalLemmas.{in_range}, specs.Refusals.{number_refusal}}
use Rattle.auction_rows.specs.Requests.{shard_of}
use Rattle.auction_rows.specs.declared.replies.Refusal.TheVariants.{NoSuchItem, Closed, NotEnough}
use Rattle.auction_rows.specs.declared.requests.Object.TheVariants.{Item, User}
use Rattle.auction_rows.specs.declared.requests.Request.TheVariants.{StoreBid, StoreComment, BuyNow}
use Rattle.auction_rows.specs.declared.{values.Opening.Opening, values.Stars.Stars, requests.ItemId.ItemId, requests.Facts.Facts, requests.BidEntry.BidEntry, requests.Object.Object, replies.Refusal.Refusal}
use Rattle.item_shards.specs.{CommitNumbers.{last_number}, Events.{Bid, Comment, Buy, Look}}
use Rattle.item_shards.specs.Values.{Value, HasInStock, stock}
use Rattle.item_shards.specs.Shown as shown
use Rattle.item_shards.specs.ShardContents.{LiesIn, clock, contents, opening as opening_of}
use Rattle.shard_boxes.{proofs.LimitLemmas.{two_fit}, specs.{Helds.{HeldState}, Keys.{KeyState}}}
use Rattle.shard_boxes.specs.States.{ShardState, state_of}
use Rattle.worker_slices.specs.{Homes.{IsHomeOf, shard_at}, declared.homes.Home.{Home}}
use Rattle.worker_slices.specs.declared.slices.Hot.{Hot}
use Rattle.worker_slices.specs.declared.homes.Home.TheVariants as home
use Rattle.phase_transactions.specs.{Performing.{HaveOpening}, Txns.{refusal_by}}
use Rattle.phase_transactions.specs.inner.{Deeds.{AreGoodOn, IsGood}, HeldShards.{IsAsTaken}}

none_not_some : {reason : Refusal} → Some reason ≡ None → ⊥
none_not_some is = absurd (cc)

-- what no reason refuses
second_none : (o p : Option Refusal) → option_or o p ≡ None → p ≡ None
second_none None p is = is
second_none (Some reason) p is = absurd (cc)

bid_stored : (start : Opening) (bidder : ℕ) (item : ItemId) (amount time bought : ℕ) (facts : Option Facts)
    → refusal_by start (option_map (λ f. (f, f.quantity - bought)) facts) (StoreBid bidder item amount time) ≡ None → IsSome facts
bid_stored start bidder item amount time bought None free = absurd (none_not_some (second_none (number_refusal start (StoreBid bidder item amount time)) (Some NoSuchItem) free))
bid_stored start bidder item amount time bought (Some facts) free = refl

enough_if : (closed many : Bool) → cond closed (Some Closed) (cond many (Some NotEnough) None) ≡ None → many ≡ false
enough_if false false is = refl
enough_if closed many is = absurd (cc)

left_to_buy : (start : Opening) (buyer : ℕ) (item : ItemId) (quantity time : ℕ) (value : Value) (facts : Option Facts) → value.facts ≡ facts
    → refusal_by start (option_map (λ f. (f, f.quantity - value.bought)) facts) (BuyNow buyer item quantity time) ≡ None → HasInStock value quantity
left_to_buy start buyer item quantity time value None known free = absurd (none_not_some (second_none (number_refusal start (BuyNow buyer item quantity time)) (Some NoSuchItem) free))
left_to_buy start buyer item quantity time value (Some facts) known free = record {
  number = facts.quantity - value.bought;
  is_left = ap (option_map (λ f. f.quantity - value.bought)) known;
  enough = ltb-false (facts.quantity - value.bought) quantity (enough_if (nat_le facts.closes time) (nat_lt (facts.quantity - value.bought) quantity) (second_none (number_refusal start (BuyNow buyer item quantity time)) _ free));
}

about_known : (start : Opening) (author about : ℕ) (item : ItemId) (stars : Stars) → number_refusal start (StoreComment author about item stars) ≡ None → about < start.users
about_known start author about item stars allowed =
    let none = in_range start (StoreComment author about item stars) allowed in
    leb-false start.users about (or_parts (nat_le start.users about) false (or_parts (nat_le start.users author) _ none.0).1).0

-- the shard of an object is that of its home
pub home_number : (hots : List (Object × Hot)) (shards n : ℕ) (object : Object) (h : Home) → IsHomeOf hots shards object h → shard_at h ≡ Some n → n ≡ shard_of object shards
home_number hots shards n object home.Nowhere at is = absurd at
home_number hots shards n object (home.Slice place) at is = absurd (cc)
home_number hots shards n object (home.Shard s) at is = sym (same_Some s n is) ∙ at.0

-- the facts of what is left of an item are its own
facts_of_stock : (value : Value) (facts : Option Facts) → option_map (λ (s : Facts × ℕ). s.0) (option_map (λ f. (f, f.quantity - value.bought)) facts) ≡ facts
facts_of_stock value None = refl
facts_of_stock value (Some facts) = refl

-- what writes
module _ (initial : List ShardState) (workers : ℕ) (key : KeyState) (held : HeldState) (hots : List (Object × Hot)) (start : Opening)
    (its : IsAsTaken initial workers key held) (openings : HaveOpening initial start) (below : clock held.shard < last_number) where
  lies : (object : Object) (h : Home) → IsHomeOf hots (length initial) object h → shard_at h ≡ Some held.number → LiesIn held.shard object
  lies object h at is = ap (shard_of object) its.shards_is ∙ sym (home_number hots (length initial) held.number object h at is) ∙ sym its.number_is

  opened : opening_of held.shard ≡ start
  opened = its.opening_is ∙ openings held.number its.known

  -- a bid on a cold item
  pub bid_good : (bidder : ℕ) (item : ItemId) (amount time : ℕ) (entry : BidEntry) (seen : Option (Facts × ℕ)) (h : Home) → IsHomeOf hots (length initial) (Item item) h
      → (shard_at h ≡ Some held.number → seen ≡ stock (contents held.shard (Item item))) → refusal_by start seen (StoreBid bidder item amount time) ≡ None
      → AreGoodOn (shard_at h) (shard_at h) (Look (shown.Left item seen)) (Bid item entry) held
  bid_good bidder item amount time entry seen h at seen_is free =
      let value = contents held.shard (Item item) in
      let writes : shard_at h ≡ Some held.number → IsGood held.shard (contents held.shard) (Bid item entry) = λ is. (
        (
          lies (Item item) h at is,
          bid_stored start bidder item amount time value.bought value.facts (ap (λ s. refusal_by start s (StoreBid bidder item amount time)) (sym (seen_is is)) ∙ free),
          omega (arith, its.within.bids item, below),
        ),
        tt,
      ) in
      record { first = λ is. (tt, seen_is is); second = writes; after = λ is also. writes also }

  -- a purchase of one
  pub buy_good : (buyer : ℕ) (item : ItemId) (quantity time : ℕ) (seen : Option (Facts × ℕ)) (h : Home) → IsHomeOf hots (length initial) (Item item) h
      → (shard_at h ≡ Some held.number → seen ≡ stock (contents held.shard (Item item))) → refusal_by start seen (BuyNow buyer item quantity time) ≡ None
      → AreGoodOn (shard_at h) (shard_at h) (Look (shown.Left item seen)) (Buy item quantity) held
  buy_good buyer item quantity time seen h at seen_is free =
      let value = contents held.shard (Item item) in
      let writes : shard_at h ≡ Some held.number → IsGood held.shard (contents held.shard) (Buy item quantity) = λ is. (
        (
          lies (Item item) h at is,
          left_to_buy start buyer item quantity time value value.facts refl (ap (λ s. refusal_by start s (BuyNow buyer item quantity time)) (sym (seen_is is)) ∙ free),
        ),
        tt,
      ) in
      record { first = λ is. (tt, seen_is is); second = writes; after = λ is also. writes also }

  -- a comment
  pub comment_good : (author about : ℕ) (item : ItemId) (stars : Stars) (seen : Option (Facts × ℕ)) (h k : Home) → IsHomeOf hots (length initial) (User about) k
      → (shard_at h ≡ Some held.number → seen ≡ stock (contents held.shard (Item item))) → number_refusal start (StoreComment author about item stars) ≡ None
      → AreGoodOn (shard_at h) (shard_at k) (Look (shown.Facts item (option_map (λ s. s.0) seen))) (Comment about stars) held
  comment_good author about item stars seen h k at seen_is allowed =
      let value = contents held.shard (Item item) in
      let fits = (two_fit (state_of held.shard) (Comment about stars) (Look shown.Nothing) its.within below).0 in
      let writes : shard_at k ≡ Some held.number → IsGood held.shard (contents held.shard) (Comment about stars) = λ is. (
        (
          lies (User about) k at is,
          subst (λ (o : Opening). about < o.users) (sym opened) (about_known start author about item stars allowed),
          fits.0,
          fits.1,
        ),
        tt,
      ) in
      record { first = λ is. (tt, ap (option_map (λ s. s.0)) (seen_is is) ∙ facts_of_stock value value.facts); second = writes; after = λ is also. writes also }
