-- What an entry's acts look at is true of the contents of a shard that stands for the book.
use Rattle.std.proofs.Common.{◌≡◌, ℕ, Bool, true, List, Option, Some, None, refl, sym, ap, ◌∙◌}
use Rattle.std.specs.{List.{AllByRecursion}, Prelude.{option_map}}
use Rattle.phase_laws.specs.Replay.{SawInTurn}
use Rattle.auction_rows.specs.{History.{IsRight, row_of_entry}, Refusals.{number_refusal}}
use Rattle.auction_rows.specs.Replies.{answer_unless, reply}
use Rattle.auction_rows.specs.declared.requests.Object.TheVariants.{Item, User, Category}
use Rattle.auction_rows.specs.declared.requests.Request.TheVariants.{StoreItem, StoreBid, StoreComment, BuyNow, ViewItem, ViewBids, ViewCategory, ViewUser}
use Rattle.auction_rows.specs.declared.{values.Opening.Opening, requests.ItemId.ItemId, requests.Facts.Facts, requests.Object.Object, requests.Request.Request, replies.Reply.Reply, rows.Row.Row, rows.Entry.Entry}
use Rattle.auction_rows.specs.declared.rows.Row.TheVariants as row
use Rattle.auction_rows.specs.Book.{Book, facts_of, left as left_of}
use Rattle.item_shards.proofs.AnswerLemmas.{item_reply, bids_reply, category_reply_is, user_reply_is, stock_is}
use Rattle.item_shards.proofs.{StandingLemmas.{stands_at}, TurnLemmas.{owed_in_turn}}
use Rattle.item_shards.specs.{Contents.{Contents, after_act}, Looking.{IsTrueAct}}
use Rattle.item_shards.specs.Standing.{ContentsStandsFor}
use Rattle.item_shards.specs.Values.{Value, value, stock, stock_in, stock_for}
use Rattle.item_shards.specs.Views.{item_view, bids_view, category_view, user_view, category_reply, user_reply}
use Rattle.item_shards.specs.Writing.{looks_of, writes_if, is_cold_in, is_done_on, acts_owed}

-- where no number refuses it
as_category : (opening : Opening) (category : ℕ) (v : Value) → number_refusal opening (ViewCategory category) ≡ None → category_reply opening category v ≡ category_view v
as_category opening category v e = ap (λ o. answer_unless o (category_view v)) e

as_user : (opening : Opening) (user : ℕ) (v : Value) → number_refusal opening (ViewUser user) ≡ None → user_reply opening user v ≡ user_view v
as_user opening user v e = ap (λ o. answer_unless o (user_view v)) e

module _ (number shards : ℕ) (hot : List Object) (contents : Contents) where
  abbrev here : Object → Bool
  here = is_cold_in number shards hot

  -- whatever is written, no look is among it
  writes_hold : (one : Option Row) → AllByRecursion (λ act. is_done_on number shards hot act ≡ true → IsTrueAct contents act) (writes_if one)
  writes_hold None = tt
  writes_hold (Some (row.Item r)) = (λ e. tt, (λ e. tt, tt))
  writes_hold one = (λ e. tt, tt)

  module _ (opening : Opening) (book : Book) (stands : ContentsStandsFor number shards contents book hot) where
    at_object : (object : Object) → here object ≡ true → contents object ≡ value book object
    at_object = stands_at number shards contents book hot stands

    facts_true : (item : ItemId) → here (Item item) ≡ true → option_map (λ (seen : Facts × ℕ). seen.0) (stock_in book item) ≡ (contents (Item item)).facts
    facts_true item e = first (facts_of book item) ∙ ap (λ (v : Value). v.facts) (sym (at_object (Item item) e)) where
      first : (stored : Option Facts) → option_map (λ (seen : Facts × ℕ). seen.0) (option_map {U = Facts × ℕ} (λ facts. (facts, left_of book item)) stored) ≡ stored
      first None = refl
      first (Some facts) = refl

    stock_true : (item : ItemId) → here (Item item) ≡ true → stock_in book item ≡ stock (contents (Item item))
    stock_true item e = sym (stock_is book item) ∙ ap stock (sym (at_object (Item item) e))

    view_true : (object : Object) (answered : Reply) (view : Value → Reply) → answered ≡ view (value book object) → here object ≡ true → answered ≡ view (contents object)
    view_true object answered view is e = is ∙ ap view (sym (at_object object e))

    looks_hold : (worker : ℕ) (request : Request) (answered : Reply) → answered ≡ reply opening book worker request → number_refusal opening request ≡ None
        → AllByRecursion (λ act. is_done_on number shards hot act ≡ true → IsTrueAct contents act) (looks_of (stock_for book request) answered request)
    looks_hold worker (StoreItem facts time) answered right e = tt
    looks_hold worker (StoreBid bidder item amount time) answered right e = (stock_true item, tt)
    looks_hold worker (StoreComment author about item stars) answered right e = (facts_true item, tt)
    looks_hold worker (BuyNow buyer item quantity time) answered right e = (stock_true item, tt)
    looks_hold worker (ViewItem item) answered right e =
        (view_true (Item item) answered item_view (right ∙ sym (item_reply opening book worker item)), tt)
    looks_hold worker (ViewBids item) answered right e =
        (view_true (Item item) answered bids_view (right ∙ sym (bids_reply opening book worker item)), tt)
    looks_hold worker (ViewCategory category) answered right e =
        let is = right ∙ sym (category_reply_is opening book worker category) ∙ as_category opening category (value book (Category category)) e in
        (view_true (Category category) answered category_view is, tt)
    looks_hold worker (ViewUser user) answered right e =
        let is = right ∙ sym (user_reply_is opening book worker user) ∙ as_user opening user (value book (User user)) e in
        (view_true (User user) answered user_view is, tt)

    pub entry_true : (entry : Entry) → IsRight opening book entry → SawInTurn IsTrueAct after_act contents (acts_owed opening number shards hot (stock_for book entry.request) entry)
    entry_true entry right =
        owed_in_turn IsTrueAct (λ s. tt) (λ s id facts category listing h. tt) number shards hot contents opening (stock_for book entry.request) entry
        (λ e. (looks_hold entry.worker entry.request entry.reply right e, writes_hold (row_of_entry entry)))
