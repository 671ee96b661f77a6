-- What holds of each act of an entry on the contents as it was holds of the acts that it owes, in turn.
use Rattle.std.proofs.Common.{◌≡◌, ℕ, Bool, true, false, cond, List, [], ◌∷◌, ◌++◌, Option, Some, None, refl, sym, subst}
use Rattle.std.{proofs.lemmas.List.Elements.{filter-append}, specs.List.{AllByRecursion}}
use Rattle.std.specs.Prelude.{is_some}
use Rattle.phase_laws.specs.Replay.{SawInTurn}
use Rattle.auction_rows.specs.{History.{row_of_entry}, Refusals.{number_refusal}}
use Rattle.auction_rows.specs.declared.requests.Object.TheVariants.{Item, User, Category}
use Rattle.auction_rows.specs.declared.requests.Request.TheVariants.{StoreItem, StoreBid, StoreComment, BuyNow, ViewItem, ViewBids, ViewCategory, ViewUser}
use Rattle.auction_rows.specs.declared.{values.Opening.Opening, requests.ItemId.ItemId, requests.Facts.Facts, requests.ItemEntry.ItemEntry, requests.Object.Object, requests.Request.Request, replies.Refusal.Refusal, replies.Reply.Reply, rows.Row.Row, rows.Entry.Entry}
use Rattle.auction_rows.specs.declared.rows.Row.TheVariants as row
use Rattle.item_shards.specs.Contents.{Contents, after_act}
use Rattle.item_shards.specs.{Events.{Event, AddItem, ListItem, Look}, Shown.{Shown}}
use Rattle.item_shards.specs.Writing.{looks_of, writes_if, is_cold_in, is_done_on, done_on, padded, acts_owed}
use Rattle.item_shards.specs.Shown as shown

-- a fact of acts that looks at nothing have, and that listing an item has after the item is added, if it had it before
module _ (P : Contents → Event → Type 0) (nothing : (contents : Contents) → P contents (Look shown.Nothing))
    (listed : (contents : Contents) (id : ItemId) (facts : Facts) (category : ℕ) (entry : ItemEntry) → P contents (ListItem category entry) → P (after_act contents (AddItem id facts)) (ListItem category entry)) where
  abbrev InTurn : Contents → List Event → Type 0
  InTurn = SawInTurn P after_act

  padded_in_turn : (contents : Contents) (acts : List Event) → InTurn contents acts → InTurn contents (padded acts)
  padded_in_turn contents [] h = (nothing contents, (nothing contents, tt))
  padded_in_turn contents (act ∷ []) h = (h.0, (nothing (after_act contents act), tt))
  padded_in_turn contents (act ∷ other ∷ acts) h = (h.0, (h.1.0, tt))

  module _ (number shards : ℕ) (hot : List Object) (contents : Contents) where
    -- it holds of an act if that is done on the shard
    abbrev pub HoldsHere : Event → Type 0
    HoldsHere act = is_done_on number shards hot act ≡ true → P contents act

    after_look : (b : Bool) (shown : Shown) (acts : List Event) → (b ≡ true → P contents (Look shown)) → InTurn contents acts → InTurn contents (cond b (Look shown ∷ []) [] ++ acts)
    after_look true shown acts is rest = (is refl, rest)
    after_look false shown acts is rest = rest

    one_write : (b : Bool) (act : Event) → (b ≡ true → P contents act) → InTurn contents (cond b (act ∷ []) [])
    one_write true act is = (is refl, tt)
    one_write false act is = tt

    two_writes : (a b : Bool) (id : ItemId) (facts : Facts) (category : ℕ) (entry : ItemEntry) → (a ≡ true → P contents (AddItem id facts)) → (b ≡ true → P contents (ListItem category entry))
        → InTurn contents (cond a (AddItem id facts ∷ cond b (ListItem category entry ∷ []) []) (cond b (ListItem category entry ∷ []) []))
    two_writes true true id facts category entry added is = (added refl, (listed contents id facts category entry (is refl), tt))
    two_writes true false id facts category entry added is = (added refl, tt)
    two_writes false true id facts category entry added is = (is refl, tt)
    two_writes false false id facts category entry added is = tt

    looks_in_turn : (saw : Option (Facts × ℕ)) (answered : Reply) (request : Request) (acts : List Event) → AllByRecursion HoldsHere (looks_of saw answered request)
        → InTurn contents acts → InTurn contents (done_on number shards hot (looks_of saw answered request) ++ acts)
    looks_in_turn saw answered (StoreItem facts time) acts h rest = rest
    looks_in_turn saw answered (StoreBid bidder item amount time) acts h rest = after_look (is_cold_in number shards hot (Item item)) _ acts h.0 rest
    looks_in_turn saw answered (StoreComment author about item stars) acts h rest = after_look (is_cold_in number shards hot (Item item)) _ acts h.0 rest
    looks_in_turn saw answered (BuyNow buyer item quantity time) acts h rest = after_look (is_cold_in number shards hot (Item item)) _ acts h.0 rest
    looks_in_turn saw answered (ViewItem item) acts h rest = after_look (is_cold_in number shards hot (Item item)) _ acts h.0 rest
    looks_in_turn saw answered (ViewBids item) acts h rest = after_look (is_cold_in number shards hot (Item item)) _ acts h.0 rest
    looks_in_turn saw answered (ViewCategory category) acts h rest = after_look (is_cold_in number shards hot (Category category)) _ acts h.0 rest
    looks_in_turn saw answered (ViewUser user) acts h rest = after_look (is_cold_in number shards hot (User user)) _ acts h.0 rest

    writes_in_turn : (one : Option Row) → AllByRecursion HoldsHere (writes_if one) → InTurn contents (done_on number shards hot (writes_if one))
    writes_in_turn None h = tt
    writes_in_turn (Some (row.Item r)) h =
        two_writes (is_cold_in number shards hot (Item r.id)) (is_cold_in number shards hot (Category r.facts.category)) _ _ _ _ h.0 h.1.0
    writes_in_turn (Some (row.Bid r)) h = one_write (is_cold_in number shards hot (Item r.item)) _ h.0
    writes_in_turn (Some (row.Comment r)) h = one_write (is_cold_in number shards hot (User r.about)) _ h.0
    writes_in_turn (Some (row.Buy r)) h = one_write (is_cold_in number shards hot (Item r.item)) _ h.0

    pub owed_in_turn : (opening : Opening) (saw : Option (Facts × ℕ)) (entry : Entry)
        → (number_refusal opening entry.request ≡ None → AllByRecursion HoldsHere (looks_of saw entry.reply entry.request) × AllByRecursion HoldsHere (writes_if (row_of_entry entry)))
        → InTurn contents (acts_owed opening number shards hot saw entry)
    owed_in_turn opening saw entry each = padded_in_turn contents _ (at (number_refusal opening entry.request) refl) where
      at : (refused : Option Refusal) → number_refusal opening entry.request ≡ refused
          → InTurn contents (done_on number shards hot (cond (is_some refused) [] (looks_of saw entry.reply entry.request ++ writes_if (row_of_entry entry))))
      at None e =
          let all = each e in
          subst (InTurn contents) (sym (filter-append (is_done_on number shards hot) (looks_of saw entry.reply entry.request) (writes_if (row_of_entry entry))))
          (looks_in_turn saw entry.reply entry.request _ all.0 (writes_in_turn (row_of_entry entry) all.1))
      at (Some reason) e = tt
