-- What a store does to the slices of its worker.
use Rattle.std.proofs.Common.{◌≡◌, ℕ, ◌==◌, Bool, true, false, cond, List, [], ◌∷◌, refl, sym, ◌∙◌}
use Rattle.std.proofs.lemmas.Bool.{or_parts}
use Rattle.auction_rows.{proofs.RequestLemmas.{same_either_way}, specs.Footprint.{is_hot}}
use Rattle.auction_rows.specs.{Replies.{row_of, row_if}, Requests.{same_object}}
use Rattle.auction_rows.specs.StoreReplies.{reply_of}
use Rattle.auction_rows.specs.declared.requests.Request.TheVariants.{StoreItem, StoreBid, StoreComment, BuyNow}
use Rattle.auction_rows.specs.declared.{values.Stars.Stars, requests.ItemId.ItemId, requests.BidId.BidId, requests.CommentId.CommentId, requests.Facts.Facts, requests.Object.Object, requests.Request.Request, replies.StoreReply.StoreReply}
use Rattle.auction_rows.specs.declared.replies.StoreReply.TheVariants as store
use Rattle.auction_rows.specs.declared.rows.Row.TheVariants as row
use Rattle.item_shards.specs.{Writing.{writes_if}, declared.shard.slices.Slice.{Slice}}
use Rattle.worker_slices.specs.Homes.{IsHomeOf}
use Rattle.worker_slices.specs.Slicing.{hot_objects, with_slice_changed, slices_after_acts}
use Rattle.worker_slices.specs.declared.{homes.Home.{Home}, slices.Hot.{Hot}}
use Rattle.worker_slices.specs.declared.homes.Home.TheVariants as home

-- what is written of a cold object changes no slice
pub cold_kept : (hots : List (Object × Hot)) (object : Object) (change : Slice → Slice) → is_hot (hot_objects hots) object ≡ false → with_slice_changed object change hots ≡ hots
cold_kept [] object change cold = refl
cold_kept (hot ∷ hots) object change cold =
    let both = or_parts (same_object hot.0 object) (is_hot (hot_objects hots) object) cold in
    let apart = same_either_way object hot.0 ∙ both.0 in
    λ i. (hot.0, cond (apart i) (record hot.1 { slice = change hot.1.slice }) hot.1) ∷ cold_kept hots object change both.1 i

-- nor of one whose home is no slice
pub unsliced : (hots : List (Object × Hot)) (shards : ℕ) (object : Object) (change : Slice → Slice) (h : Home) → ((place : ℕ) → h ≡ home.Slice place → ⊥) → IsHomeOf hots shards object h → hots ≡ with_slice_changed object change hots
unsliced hots shards object change home.Nowhere none is = absurd is
unsliced hots shards object change (home.Slice place) none is = absurd (none place refl)
unsliced hots shards object change (home.Shard shard) none is = sym (cold_kept hots object change is.1)

-- where the reply is no id of the kind nothing is written
pub no_item : (hots : List (Object × Hot)) (worker : ℕ) (facts : Facts) (time : ℕ) (reply : StoreReply) → ((id : ItemId) → reply ≡ store.ItemStored id → ⊥) → hots ≡ slices_after_acts hots (writes_if (row_of worker (StoreItem facts time) (reply_of reply)))
no_item hots worker facts time (store.ItemStored id) none = absurd (none id refl)
no_item hots worker facts time reply none = refl

pub no_bid : (hots : List (Object × Hot)) (worker bidder : ℕ) (item : ItemId) (amount time : ℕ) (reply : StoreReply) → ((id : BidId) → reply ≡ store.BidStored id → ⊥)
    → hots ≡ slices_after_acts hots (writes_if (row_of worker (StoreBid bidder item amount time) (reply_of reply)))
no_bid hots worker bidder item amount time (store.BidStored id) none = absurd (none id refl)
no_bid hots worker bidder item amount time reply none = refl

pub no_comment : (hots : List (Object × Hot)) (worker author about : ℕ) (item : ItemId) (stars : Stars) (reply : StoreReply) → ((id : CommentId) → reply ≡ store.CommentStored id → ⊥)
    → hots ≡ slices_after_acts hots (writes_if (row_of worker (StoreComment author about item stars) (reply_of reply)))
no_comment hots worker author about item stars (store.CommentStored id) none = absurd (none id refl)
no_comment hots worker author about item stars reply none = refl

-- nor where the request is no store that is splittable
buy_unwritten : (hots : List (Object × Hot)) (b : Bool) (r : _) → hots ≡ slices_after_acts hots (writes_if (row_if b (row.Buy r)))
buy_unwritten hots true r = refl
buy_unwritten hots false r = refl

pub unwritten : (hots : List (Object × Hot)) (worker : ℕ) (request : Request) (reply : StoreReply) → ((facts : Facts) (time : ℕ) → request ≡ StoreItem facts time → ⊥)
    → ((bidder : ℕ) (item : ItemId) (amount time : ℕ) → request ≡ StoreBid bidder item amount time → ⊥)
    → ((author about : ℕ) (item : ItemId) (stars : Stars) → request ≡ StoreComment author about item stars → ⊥)
    → hots ≡ slices_after_acts hots (writes_if (row_of worker request (reply_of reply)))
unwritten hots worker (StoreItem facts time) reply a b c = absurd (a facts time refl)
unwritten hots worker (StoreBid bidder item amount time) reply a b c = absurd (b bidder item amount time refl)
unwritten hots worker (StoreComment author about item stars) reply a b c = absurd (c author about item stars refl)
unwritten hots worker (BuyNow buyer item quantity time) (store.Bought id) a b c = buy_unwritten hots (id.worker == worker) _
unwritten hots worker request reply a b c = refl
