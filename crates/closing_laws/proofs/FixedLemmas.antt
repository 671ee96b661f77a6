-- What is fixed of hot items stays: no commit of the phase buys one, and the facts of a stored item stay.
use Rattle.std.proofs.Common.{◌≡◌, ℕ, ◌==◌, Bool, true, false, cond, List, ◌++◌, Option, Some, None, IsSome, option_to_list, option_map, unwrap_or, ◌-◌, refl, sym, ap, subst, ◌∙◌}
use Rattle.std.proofs.lemmas.{Bool.{false≢true}, List.{append-nil}}
use Rattle.auction_rows.proofs.RequestLemmas.{same_item-true}
use Rattle.auction_rows.specs.Book.{Book, same_item, facts_of, left, bought, bid_entry}
use Rattle.auction_rows.specs.{Footprint.{is_hot}, Replies.{row_of, row_if}}
use Rattle.auction_rows.specs.declared.replies.Reply.TheVariants.{ItemStored, BidStored, CommentStored, Bought}
use Rattle.auction_rows.specs.declared.requests.Object.TheVariants.{Item}
use Rattle.auction_rows.specs.declared.requests.Request.TheVariants.{StoreItem, StoreBid, StoreComment, BuyNow}
use Rattle.auction_rows.specs.declared.{requests.ItemId.ItemId, requests.Facts.Facts, requests.Object.Object, requests.Request.Request, replies.Reply.Reply, rows.Row.Row}
use Rattle.auction_rows.specs.declared.rows.Row.TheVariants as row
use Rattle.item_shards.proofs.RowLemmas.{value_next}
use Rattle.item_shards.specs.Contents.{Contents, with_facts, bid_on, bought_of, after_acts}
use Rattle.item_shards.specs.{Values.{Value, value, stock_in}, Writing.{writes_of}}
use Rattle.phase_transactions.proofs.HomeLemmas.{no_other}
use Rattle.phase_transactions.specs.Txns.{Setting, hot_of, is_put_off}
use Rattle.worker_slices.specs.Slicing.{stock_of}
use Rattle.phase_permits.specs.Replying.{HasFixed}

-- a row is no purchase of an item
abbrev IsNoPurchase : ItemId → Row → Type 0
IsNoPurchase id (row.Item r) = Unit {0}
IsNoPurchase id (row.Bid r) = Unit {0}
IsNoPurchase id (row.Comment r) = Unit {0}
IsNoPurchase id (row.Buy r) = same_item r.item id ≡ false

abbrev IsNoPurchaseIfAny : ItemId → Option Row → Type 0
IsNoPurchaseIfAny id None = Unit {0}
IsNoPurchaseIfAny id (Some one) = IsNoPurchase id one

-- a value keeps its facts and how many are bought
abbrev HasKept : Value → Value → Type 0
HasKept old new = (new.facts ≡ old.facts) × (new.bought ≡ old.bought)

-- the facts of a stored item stay
facts_kept : (v : Value) (facts : Facts) → IsSome v.facts → HasKept v (with_facts facts v)
facts_kept v facts stored = at v.facts stored where
  at : (o : Option Facts) → IsSome o → HasKept (record v { facts = o }) (with_facts facts (record v { facts = o }))
  at None some = absurd (false≢true some)
  at (Some there) some = (refl, refl)

row_kept : (contents : Contents) (id : ItemId) (one : Row) → IsSome (contents (Item id)).facts → IsNoPurchase id one → HasKept (contents (Item id)) (after_acts contents (writes_of one) (Item id))
row_kept contents id (row.Item r) stored unbought = at (same_item r.id id) where
  at : (b : Bool) → HasKept (contents (Item id)) (cond b (with_facts r.facts (contents (Item id))) (contents (Item id)))
  at true = facts_kept (contents (Item id)) r.facts stored
  at false = (refl, refl)
row_kept contents id (row.Bid r) stored unbought = at (same_item r.item id) where
  at : (b : Bool) → HasKept (contents (Item id)) (cond b (bid_on (bid_entry r) (contents (Item id))) (contents (Item id)))
  at true = (refl, refl)
  at false = (refl, refl)
row_kept contents id (row.Comment r) stored unbought = (refl, refl)
row_kept contents id (row.Buy r) stored unbought = subst (λ b. HasKept (contents (Item id)) (cond b (bought_of r.quantity (contents (Item id))) (contents (Item id)))) (sym unbought) (refl, refl)

-- in a book with one row more a stored item has what it had, where the row is no purchase of it
kept_next : (book : Book) (item : ItemId) (one : Option Row) → IsSome (facts_of book item) → IsNoPurchaseIfAny item one
    → HasKept (value book (Item item)) (value (book ++ option_to_list one) (Item item))
kept_next book item None some unbought = subst (λ b. HasKept (value book (Item item)) (value b (Item item))) (sym (append-nil book)) (refl, refl)
kept_next book item (Some one) some unbought =
    subst (HasKept (value book (Item item))) (sym (value_next book one (Item item))) (row_kept (value book) item one some unbought)

-- what is left of an item, by its facts and how many are bought
abbrev stock_with : Option Facts → ℕ → Option (Facts × ℕ)
stock_with facts bought = option_map (λ f. (f, unwrap_or (option_map (λ g. g.quantity) facts) 0 - bought)) facts

stored_in : (book : Book) (item : ItemId) → IsSome (stock_in book item) → IsSome (facts_of book item)
stored_in book item some = at (facts_of book item) some where
  at : (facts : Option Facts) → IsSome (option_map {U = Facts × ℕ} (λ f. (f, left book item)) facts) → IsSome facts
  at None some = some
  at (Some facts) some = refl

-- a request that was not put off is no purchase of a hot item
no_purchase_if : (id : ItemId) (b : Bool) (one : Row) → IsNoPurchase id one → IsNoPurchaseIfAny id (row_if b one)
no_purchase_if id true one unbought = unbought
no_purchase_if id false one unbought = tt

another_item : (hot : List Object) (one other : ItemId) → is_hot hot (Item one) ≡ false → is_hot hot (Item other) ≡ true → same_item one other ≡ false
another_item hot one other cold is = at (same_item one other) refl where
  at : (b : Bool) → same_item one other ≡ b → b ≡ false
  at true same = absurd (false≢true (sym cold ∙ ap (λ i. is_hot hot (Item i)) (same_item-true one other same) ∙ is))
  at false same = refl

no_purchase : (hot : List Object) (item : ItemId) → is_hot hot (Item item) ≡ true → (worker : ℕ) (request : Request) (given : Reply) → is_put_off hot request ≡ false
    → IsNoPurchaseIfAny item (row_of worker request given)
no_purchase hot item is worker (StoreItem facts time) (ItemStored id) goes = no_purchase_if item (id.worker == worker) _ tt
no_purchase hot item is worker (StoreBid bidder on amount time) (BidStored id) goes = no_purchase_if item (id.worker == worker) _ tt
no_purchase hot item is worker (StoreComment author about on stars) (CommentStored id) goes = no_purchase_if item (id.worker == worker) _ tt
no_purchase hot item is worker (BuyNow buyer of quantity time) (Bought id) goes =
    no_purchase_if item (id.worker == worker) _ (another_item hot of item (no_other (is_hot hot (Item of)) goes) is)
no_purchase hot item is worker request given goes = tt

-- the hot items have in a book these facts, and so many are bought
abbrev pub HasItems : Setting → (ItemId → Option Facts × ℕ) → Book → Type 0
HasItems z items book = (item : ItemId) → is_hot (hot_of z) (Item item) ≡ true → (facts_of book item ≡ (items item).0) × (bought book item ≡ (items item).1)

-- so what is fixed of hot items stays
pub fixed_next : (z : Setting) → ((item : ItemId) → is_hot (hot_of z) (Item item) ≡ true → IsSome (stock_of z.stocks (Item item)))
    → (items : ItemId → Option Facts × ℕ) (book : Book) (worker : ℕ) (request : Request) (given : Reply) → is_put_off (hot_of z) request ≡ false
    → HasFixed z book × HasItems z items book
    → HasFixed z (book ++ option_to_list (row_of worker request given)) × HasItems z items (book ++ option_to_list (row_of worker request given))
fixed_next z stocked items book worker request given goes has =
    let kept : (item : ItemId) → is_hot (hot_of z) (Item item) ≡ true → HasKept (value book (Item item)) (value (book ++ option_to_list (row_of worker request given)) (Item item)) =
    λ item hot. kept_next book item (row_of worker request given)
    (stored_in book item (subst (λ (o : Option (Facts × ℕ)). IsSome o) (sym (has.0 item hot)) (stocked item hot)))
    (no_purchase (hot_of z) item hot worker request given goes) in (
      λ item hot. (λ i. stock_with ((kept item hot).0 i) ((kept item hot).1 i)) ∙ has.0 item hot,
      λ item hot. ((kept item hot).0 ∙ (has.1 item hot).0, (kept item hot).1 ∙ (has.1 item hot).1),
    )
