-- A commit's reply is the model's, whichever request it is of.
use Rattle.std.proofs.Common.{◌≡◌, ℕ, ◌-◌, ◌==◌, Bool, true, false, cond, List, [], ◌∷◌, ◌++◌, length, Option, Some, None, MatchOption, option_map, option_and_then, unwrap_or, refl, sym, ap, subst, ◌∙◌, arith, take, length-append}
use Rattle.std.proofs.{Math.Seq.{take-append_seam}, lemmas.Option.{same_Some}}
use Rattle.std.specs.{List.{list_any}, Option.{option_or}}
use Rattle.auction_rows.{proofs.RefusalLemmas.{refusal-split}, specs.Book.{Book, facts_of, left}}
use Rattle.auction_rows.specs.{Footprint.{is_hot, objects_of}, History.{IsRight, row_of_entry}}
use Rattle.auction_rows.specs.Refusals.{number_refusal, item_refusal, refusal}
use Rattle.auction_rows.specs.{Replies.{answer_unless, answer, reply}, Requests.{item_of, shard_of}}
use Rattle.auction_rows.specs.declared.replies.Reply.TheVariants.{ItemStored, BidStored, CommentStored, Bought, Refused}
use Rattle.auction_rows.specs.declared.requests.Object.TheVariants.{Item, User, Category}
use Rattle.auction_rows.specs.declared.requests.Request.TheVariants.{StoreItem, StoreBid, StoreComment, BuyNow, ViewItem, ViewBids, ViewCategory, ViewUser}
use Rattle.auction_rows.specs.declared.{values.Opening.Opening, values.Stars.Stars, requests.ItemId.ItemId, requests.Facts.Facts, requests.Object.Object, requests.Request.Request, replies.Refusal.Refusal, replies.Reply.Reply}
use Rattle.item_shards.proofs.AnswerLemmas.{item_reply, bids_reply, category_reply_is, user_reply_is, stock_is}
use Rattle.item_shards.specs.{Contents.{Contents, target}, Events.{Event, Look}, Looking.{IsTrueOf}}
use Rattle.item_shards.specs.{Shown.{Shown}, Standing.{ContentsStandsFor}}
use Rattle.item_shards.specs.Values.{Value, value, stock, stock_in, stock_for}
use Rattle.item_shards.specs.Views.{item_view, bids_view, category_view, user_view}
use Rattle.item_shards.specs.Writing.{looks_of, writes_if}
use Rattle.item_shards.specs.Shown as shown
use Rattle.shard_boxes.specs.Lines.{Line, acts_in, after_lines, AreTrueOf}
use Rattle.shard_boxes.specs.States.{ShardState, state_at}
use Rattle.worker_slices.specs.{Slicing.{stock_of}, declared.counters.Counters.{Counters}}
use Rattle.phase_transactions.proofs.HomeLemmas.{no_other, same_objects_of}
use Rattle.phase_transactions.specs.Performing.{HasCommitted, HasCommittedSome, asks}
use Rattle.phase_permits.specs.Dealing.{HasPerformedFirstSome}
use Rattle.phase_transactions.specs.Txns.{Setting, Txn, hot_of, takes, line_on, stock_seen, refusal_by, IsAnswered, ReadSet}
use Rattle.phase_transactions.specs.Workers.{WorkerState, last_reply, setting_of, txn_of, with_first_unstashed}
use Rattle.phase_permits.proofs.{LastLemmas.{as_read}, LookLemmas.{look_true, value_there}}
use Rattle.phase_permits.proofs.UntouchedLemmas.{took_asked}
use Rattle.phase_permits.specs.Replying.{CountsOf, SawTrue, StoodFor, HasFixed, IsModelReply, IsModelReplyToFirst, lines_found}

-- a reply that is the answer, or the refusal
answered_by : (refused : Option Refusal) (given mine theirs : Reply) → MatchOption refused (given ≡ mine) (λ reason. given ≡ Refused reason) → mine ≡ theirs → given ≡ answer_unless refused theirs
answered_by None given mine theirs is same = is ∙ same
answered_by (Some reason) given mine theirs is same = is

-- What a book refuses, it refuses by what it has of the item.

by_stock : (request : Request) (book : Book) (item : ItemId) (facts : Option Facts)
    → item_refusal request facts (left book item)
    ≡ (let seen : Option (Facts × ℕ) = option_map (λ f. (f, left book item)) facts in
    item_refusal request (option_map (λ s. s.0) seen) (unwrap_or (option_map (λ s. s.1) seen) 0))
by_stock request book item None = refl
by_stock request book item (Some facts) = refl

by_item : (request : Request) (book : Book) (item : Option ItemId)
    → item_refusal request (option_and_then (facts_of book) item) (unwrap_or (option_map (left book) item) 0)
    ≡ (let seen = option_and_then (stock_in book) item in item_refusal request (option_map (λ s. s.0) seen) (unwrap_or (option_map (λ s. s.1) seen) 0))
by_item request book None = refl
by_item request book (Some item) = by_stock request book item (facts_of book item)

refused_by : (opening : Opening) (book : Book) (request : Request) → refusal opening book request ≡ refusal_by opening (stock_for book request) request
refused_by opening book request = refusal-split opening book request ∙ ap (option_or (number_refusal opening request)) (by_item request book (item_of request))

-- where the opening refuses a request, what was seen does not matter
or_same : (refused : Option Refusal) (first second : Option Refusal) → (refused ≡ None → first ≡ second) → option_or refused first ≡ option_or refused second
or_same None first second same = same refl
or_same (Some reason) first second same = refl

viewed_by : (A : Type 0) (refused : Option Refusal) (given theirs : Reply) → MatchOption refused A (λ reason. given ≡ Refused reason) → (refused ≡ None → given ≡ theirs) → given ≡ answer_unless refused theirs
viewed_by A None given theirs is same = same refl
viewed_by A (Some reason) given theirs is same = is

-- what is refused of a comment does not depend on what is left
comment_by_facts : (author about : ℕ) (item : ItemId) (stars : Stars) (facts : Option Facts) (m n : ℕ)
    → item_refusal (StoreComment author about item stars) facts m ≡ item_refusal (StoreComment author about item stars) facts n
comment_by_facts author about item stars None m n = refl
comment_by_facts author about item stars (Some facts) m n = refl

facts_in : (facts : Option Facts) (n : ℕ) → option_map (λ (s : Facts × ℕ). s.0) (option_map {U = Facts × ℕ} (λ f. (f, n)) facts) ≡ facts
facts_in None n = refl
facts_in (Some facts) n = refl

module _ (z : Setting) (taken : ℕ → Contents) (book : Book) (fixed : HasFixed z book) (counters : Counters) where
  -- what a bid and a purchase saw of their item is what the book has
  stock_right : (txn : Txn) (item : ItemId) (objects : List Object) (acts : List Event) → number_refusal z.opening txn.0.request ≡ None
      → objects_of txn.0.request txn.0.reply ≡ Item item ∷ objects
      → looks_of txn.1.stock txn.0.reply txn.0.request ++ writes_if (row_of_entry txn.0) ≡ Look (shown.Left item txn.1.stock) ∷ acts
      → SawTrue z taken txn → StoodFor z taken book txn → stock_seen z txn item ≡ stock_in book item
  stock_right txn item objects acts accepted needed acted saw stood = go (is_hot (hot_of z) (Item item)) refl where
    go : (b : Bool) → is_hot (hot_of z) (Item item) ≡ b → cond b (stock_of z.stocks (Item item)) txn.1.stock ≡ stock_in book item
    go true hot = sym (fixed item hot)
    go false cold =
        look_true z txn accepted taken saw (Item item) objects (shown.Left item txn.1.stock) acts needed acted refl cold
        ∙ ap stock (value_there z txn accepted taken book stood (Item item) objects needed cold)
        ∙ stock_is book item

  -- what a comment saw of its item are the facts that the book has
  facts_right : (txn : Txn) (item : ItemId) (objects : List Object) (acts : List Event) → number_refusal z.opening txn.0.request ≡ None
      → objects_of txn.0.request txn.0.reply ≡ Item item ∷ objects
      → looks_of txn.1.stock txn.0.reply txn.0.request ++ writes_if (row_of_entry txn.0) ≡ Look (shown.Facts item (option_map (λ s. s.0) txn.1.stock)) ∷ acts
      → SawTrue z taken txn → StoodFor z taken book txn → option_map (λ s. s.0) (stock_seen z txn item) ≡ option_map (λ (s : Facts × ℕ). s.0) (stock_in book item)
  facts_right txn item objects acts accepted needed acted saw stood = go (is_hot (hot_of z) (Item item)) refl where
    go : (b : Bool) → is_hot (hot_of z) (Item item) ≡ b → option_map (λ s. s.0) (cond b (stock_of z.stocks (Item item)) txn.1.stock) ≡ option_map (λ (s : Facts × ℕ). s.0) (stock_in book item)
    go true hot = ap (option_map (λ (s : Facts × ℕ). s.0)) (sym (fixed item hot))
    go false cold =
        look_true z txn accepted taken saw (Item item) objects (shown.Facts item (option_map (λ s. s.0) txn.1.stock)) acts needed acted refl cold
        ∙ ap (λ (v : Value). v.facts) (value_there z txn accepted taken book stood (Item item) objects needed cold)
        ∙ sym (facts_in (facts_of book item) (left book item))

  -- a view showed what the book has
  view_right : (txn : Txn) (object : Object) (told : Shown) (view : Value → Reply) → number_refusal z.opening txn.0.request ≡ None
      → objects_of txn.0.request txn.0.reply ≡ object ∷ []
      → looks_of txn.1.stock txn.0.reply txn.0.request ++ writes_if (row_of_entry txn.0) ≡ Look told ∷ [] → target (Look told) ≡ Some object
      → ((contents : Contents) → IsTrueOf contents told → txn.0.reply ≡ view (contents object))
      → is_hot (hot_of z) object ≡ false → SawTrue z taken txn → StoodFor z taken book txn → txn.0.reply ≡ view (value book object)
  view_right txn object told view accepted needed acted about shows cold saw stood =
      shows (taken (shard_of object z.shards)) (look_true z txn accepted taken saw object [] told [] needed acted about cold)
      ∙ ap view (value_there z txn accepted taken book stood object [] needed cold)

  module _ (phase number worker index : ℕ) (found : ReadSet) (counts : CountsOf book worker counters) where
    abbrev txn_with : Request → Reply → Txn
    txn_with request given = (record { phase = phase; number = number; worker = worker; index = index; request = request; reply = given }, found)

    abbrev IsRightFor : Request → Type 0
    IsRightFor request = (given : Reply) → SawTrue z taken (txn_with request given) → StoodFor z taken book (txn_with request given)
        → IsAnswered z counters (txn_with request given) → given ≡ reply z.opening book worker request

    -- a store by what was seen of its item
    store_right : (request : Request) (given mine : Reply) (seen : Option (Facts × ℕ)) → MatchOption (refusal_by z.opening seen request) (given ≡ mine) (λ reason. given ≡ Refused reason)
        → mine ≡ answer book worker request
        → (number_refusal z.opening request ≡ None → item_refusal request (option_map (λ s. s.0) seen) (unwrap_or (option_map (λ s. s.1) seen) 0)
        ≡ (let has = stock_for book request in item_refusal request (option_map (λ s. s.0) has) (unwrap_or (option_map (λ s. s.1) has) 0)))
        → given ≡ reply z.opening book worker request
    store_right request given mine seen is same refused =
        answered_by (refusal_by z.opening seen request) given mine (answer book worker request) is same
        ∙ ap (λ o. answer_unless o (answer book worker request)) (or_same (number_refusal z.opening request) _ _ refused ∙ sym (refused_by z.opening book request))

    abbrev refused_with : Request → Option (Facts × ℕ) → Option Refusal
    refused_with request seen = item_refusal request (option_map (λ s. s.0) seen) (unwrap_or (option_map (λ s. s.1) seen) 0)

    bid_right : (bidder : ℕ) (item : ItemId) (amount time : ℕ) → IsRightFor (StoreBid bidder item amount time)
    bid_right bidder item amount time given saw stood is =
        let request = StoreBid bidder item amount time in let txn = txn_with request given in
        store_right request given (BidStored (record { worker = worker; serial = counters.bids })) (stock_seen z txn item) is.answered
        (ap (λ n. BidStored (record { worker = worker; serial = n })) (sym counts.bids))
        (λ accepted. ap (refused_with request) (stock_right txn item [] (writes_if (row_of_entry txn.0)) accepted refl refl saw stood))

    buy_right : (buyer : ℕ) (item : ItemId) (quantity time : ℕ) → IsRightFor (BuyNow buyer item quantity time)
    buy_right buyer item quantity time given saw stood is =
        let request = BuyNow buyer item quantity time in let txn = txn_with request given in
        store_right request given (Bought (record { worker = worker; serial = counters.buys })) (stock_seen z txn item) is.answered
        (ap (λ n. Bought (record { worker = worker; serial = n })) (sym counts.buys))
        (λ accepted. ap (refused_with request) (stock_right txn item [] (writes_if (row_of_entry txn.0)) accepted refl refl saw stood))

    comment_right : (author about : ℕ) (item : ItemId) (stars : Stars) → IsRightFor (StoreComment author about item stars)
    comment_right author about item stars given saw stood is =
        let request = StoreComment author about item stars in let txn = txn_with request given in
        let seen = stock_seen z txn item in
        let left_of = λ (s : Option (Facts × ℕ)). unwrap_or (option_map (λ t. t.1) s) 0 in
        store_right request given (CommentStored (record { worker = worker; serial = counters.comments })) seen is.answered
        (ap (λ n. CommentStored (record { worker = worker; serial = n })) (sym counts.comments))
        (λ accepted. comment_by_facts author about item stars (option_map (λ s. s.0) seen) (left_of seen) (left_of (stock_in book item))
        ∙ ap (λ (facts : Option Facts). item_refusal request facts (left_of (stock_in book item)))
        (facts_right txn item (User about ∷ []) (writes_if (row_of_entry txn.0)) accepted refl refl saw stood))

    item_right : (facts : Facts) (time : ℕ) → IsRightFor (StoreItem facts time)
    item_right facts time given saw stood is =
        store_right (StoreItem facts time) given (ItemStored (record { worker = worker; serial = counters.items })) None is.answered
        (ap (λ n. ItemStored (record { worker = worker; serial = n })) (sym counts.items)) (λ accepted. refl)

    view_item_right : (item : ItemId) → IsRightFor (ViewItem item)
    view_item_right item given saw stood is =
        view_right (txn_with (ViewItem item) given) (Item item) (shown.Item item given) item_view refl refl refl refl (λ contents is. is) (no_other (is_hot (hot_of z) (Item item)) is.not_put_off) saw stood
        ∙ item_reply z.opening book worker item

    view_bids_right : (item : ItemId) → IsRightFor (ViewBids item)
    view_bids_right item given saw stood is =
        view_right (txn_with (ViewBids item) given) (Item item) (shown.Bids item given) bids_view refl refl refl refl (λ contents is. is) (no_other (is_hot (hot_of z) (Item item)) is.not_put_off) saw stood
        ∙ bids_reply z.opening book worker item

    view_category_right : (category : ℕ) → IsRightFor (ViewCategory category)
    view_category_right category given saw stood is =
        viewed_by Unit (number_refusal z.opening (ViewCategory category)) given (category_view (value book (Category category))) is.answered
        (λ accepted. view_right (txn_with (ViewCategory category) given) (Category category) (shown.Category category given) category_view accepted refl refl refl (λ contents is. is)
        (no_other (is_hot (hot_of z) (Category category)) is.not_put_off) saw stood)
        ∙ category_reply_is z.opening book worker category

    view_user_right : (user : ℕ) → IsRightFor (ViewUser user)
    view_user_right user given saw stood is =
        viewed_by Unit (number_refusal z.opening (ViewUser user)) given (user_view (value book (User user))) is.answered
        (λ accepted. view_right (txn_with (ViewUser user) given) (User user) (shown.User user given) user_view accepted refl refl refl (λ contents is. is)
        (no_other (is_hot (hot_of z) (User user)) is.not_put_off) saw stood)
        ∙ user_reply_is z.opening book worker user

    right_by : (request : Request) → IsRightFor request
    right_by (StoreItem facts time) = item_right facts time
    right_by (StoreBid bidder item amount time) = bid_right bidder item amount time
    right_by (StoreComment author about item stars) = comment_right author about item stars
    right_by (BuyNow buyer item quantity time) = buy_right buyer item quantity time
    right_by (ViewItem item) = view_item_right item
    right_by (ViewBids item) = view_bids_right item
    right_by (ViewCategory category) = view_category_right category
    right_by (ViewUser user) = view_user_right user

-- A transaction's reply is the model's for every book for which the shards that it took stood.
pub txn_right : (z : Setting) (taken : ℕ → Contents) (counters : Counters) (txn : Txn) → SawTrue z taken txn → IsAnswered z counters txn
    → (book : Book) → StoodFor z taken book txn → HasFixed z book → CountsOf book txn.0.worker counters → IsRight z.opening book txn.0
txn_right z taken counters txn saw is book stood fixed counts =
    right_by z taken book fixed counters txn.0.phase txn.0.number txn.0.worker txn.0.index txn.1 counts txn.0.request txn.0.reply saw stood is

-- what was found before the last that was seen
before_last : (found : List (ℕ × Line)) (last : ℕ × Line) → take (length (found ++ last ∷ []) - 1) (found ++ last ∷ []) ≡ found
before_last found last =
    let longer = length-append found (last ∷ []) in
    let less : length (found ++ last ∷ []) - 1 ≡ length found = omega (arith, longer) in
    ap (λ n. take n (found ++ last ∷ [])) less ∙ take-append_seam found (last ∷ [])

-- so it is with what a permit commits
pub model_reply : (initial : List ShardState) (old new : WorkerState) (request : Request) (index : ℕ) (given : Reply) → HasCommitted initial old new request index given
    → IsModelReply initial old new request given
model_reply initial old new request index given done book stood has counts =
    let z = setting_of old (length initial) in
    let txn = txn_of old done.number request index given done.found in
    let put = done.transacted.put in
    let found_is : (shard : ℕ) (took : takes z shard txn ≡ true) → lines_found new.key shard ≡ (put.puts shard took).found =
    λ shard took. ap (λ (seen : List (ℕ × Line)). take (length seen - 1) seen) (put.puts shard took).seen ∙ before_last (put.puts shard took).found (new.key.worker, line_on z shard txn) in
    let asked : (shard : ℕ) → asks (length initial) old request shard ≡ takes z shard txn =
    λ shard. ap (list_any (λ taken. taken == shard)) (sym (took_asked old (length initial) done.number index request given done.found done.transacted.answered)) in
    txn_right z (λ shard. (after_lines (state_at initial shard) (lines_found new.key shard)).contents) old.counters txn
    (λ shard took. subst (λ (found : List (ℕ × Line)). AreTrueOf (after_lines (state_at initial shard) found).contents (acts_in (line_on z shard txn).acts)) (sym (found_is shard took)) (put.puts shard took).follows.looks)
    done.transacted.answered book
    (λ shard took. subst (ContentsStandsFor shard (length initial) (after_lines (state_at initial shard) (lines_found new.key shard)).contents book) (sym (same_objects_of old.slices)) (stood shard (asked shard ∙ took)))
    has counts

-- and with what is read after a commit as its reply
pub model_reply_read : (initial : List ShardState) (old new : WorkerState) (request : Request) (index : ℕ) (read : Reply) → HasCommittedSome initial old new request index
    → last_reply new.journal.entries ≡ Some read → IsModelReply initial old new request read
model_reply_read initial old new request index read (given, done) is = model_reply initial old new request index read (as_read initial old new request index given done read is)

pub first_reply_read : (initial : List ShardState) (old new : WorkerState) (read : Reply) → HasPerformedFirstSome initial old new
    → last_reply new.journal.entries ≡ Some read → IsModelReplyToFirst initial old new read
first_reply_read initial old new read (given, done) is index request first =
    subst (λ r. IsModelReply initial old new r read) (ap (λ (p : ℕ × Request). p.1) (same_Some (done.index, done.request) (index, request) (sym done.first ∙ first)))
    (model_reply_read initial (with_first_unstashed old) new done.request done.index read (given, done.committed) is)
