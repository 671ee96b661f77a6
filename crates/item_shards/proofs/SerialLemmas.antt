-- The auction of one thread: what it answers and stores, by the book that it holds.
use Rattle.std.proofs.Common.{◌≡◌, ℕ, ◌+◌, ◌<◌, ◌≤◌, ◌==◌, Bool, true, false, cond, List, [], ◌∷◌, ◌++◌, Option, Some, None, option_to_list, length, refl, sym, ap, subst, ◌∙◌, arith, append_assoc, set, get_or, take, drop}
use Rattle.std.proofs.{Math.ListN.{length-set}, lemmas.Bool.{eqb-true, eq-eqb, false≢true}}
use Rattle.std.proofs.lemmas.List.{length-append, length-replicate, get_or-replicate, get_or-set_same, get_or-set_other, take_more, take-append-drop, length-take-le}
use Rattle.std.proofs.lemmas.List.Sums.{sum_by-append, count_by-le-length}
use Rattle.std.proofs.lemmas.Option.{slice_get-get_or, slice_get_within, get_or_from_slice_get}
use Rattle.std.specs.{List.{AllByRecursion, cons_option}, Option.{option_or}}
use Rattle.std.specs.Prelude.{option_map, option_and_then, unwrap_or, count_by, slice_get, Result, Ok, Err, OnErr, replicate}
use Rattle.auction_rows.proofs.RefusalLemmas.{refusal-split}
use Rattle.auction_rows.specs.Book.{Book, as_item, as_bid, as_comment, as_buy, facts_of, item_entry}
use Rattle.auction_rows.specs.History.{commit, commit_of, after_entry, GoOn, IsBook}
use Rattle.auction_rows.specs.Refusals.{number_refusal, item_refusal, refusal, facts_for, left_for}
use Rattle.auction_rows.specs.{Replies.{reply, row_of}, Requests.{is_view, item_of, shard_of}}
use Rattle.auction_rows.specs.declared.requests.Object.TheVariants.{Item, User, Category}
use Rattle.auction_rows.specs.declared.requests.Request.TheVariants.{ViewItem, ViewBids, ViewCategory, ViewUser}
use Rattle.auction_rows.specs.declared.{values.Opening.Opening, requests.ItemId.ItemId, requests.Facts.Facts, requests.Object.Object, requests.Request.Request, replies.Reply.Reply, rows.ItemRow.ItemRow, rows.BidRow.BidRow, rows.CommentRow.CommentRow, rows.BuyRow.BuyRow, rows.Row.Row}
use Rattle.auction_rows.specs.declared.rows.Row.TheVariants as row
use Rattle.auction_rows.specs.Book as book
use Rattle.auction_rows.proofs.HistoryLemmas.{own_row, stored_by as commit_is, rows_go_on, book_parts}
use Rattle.item_shards.proofs.{CanActLemmas.{row_can}, CountLemmas.{of_kind}}
use Rattle.item_shards.proofs.RowLemmas.{this_kind, other_kind, through}
use Rattle.item_shards.proofs.StandingLemmas.{cold_here, row_stands}
use Rattle.item_shards.specs.{Acting.{CanActOn, HasRoomFor}, Contents.{Contents, after_acts}}
use Rattle.item_shards.specs.Counting.{stored_by, worker_of, counted, AreFew}
use Rattle.item_shards.specs.{Events.{AddItem, ListItem}, Limits.{IsWithinLimits}}
use Rattle.item_shards.specs.{Serial.{HoldsBook}, Standing.{ContentsStandsFor}, Values.{stock_in}}
use Rattle.item_shards.specs.Writing.{writes_of, writes_if, is_done_on, done_on}
use Rattle.item_shards.specs.declared.serial.SerialAuction.{SerialAuction}
use Rattle.item_shards.specs.declared.serial.StoreCounts.{StoreCounts}

-- ---- refusals

abbrev pub facts_seen : Option (Facts × ℕ) → Option Facts
facts_seen seen = option_map (λ (pair : Facts × ℕ). pair.0) seen

abbrev pub left_seen : Option (Facts × ℕ) → ℕ
left_seen seen = unwrap_or (option_map (λ (pair : Facts × ℕ). pair.1) seen) 0

-- an item refuses a request by what is seen of its facts and of what is left
pub refused_by_stock : (b : Book) (request : Request) (id : ItemId) (seen : Option (Facts × ℕ)) → item_of request ≡ Some id → seen ≡ stock_in b id
    → item_refusal request (facts_seen seen) (left_seen seen) ≡ item_refusal request (facts_for b request) (left_for b request)
refused_by_stock b request id seen is same =
    ap (λ s. item_refusal request (facts_seen s) (left_seen s)) same
    ∙ at (facts_of b id) (book.left b id)
    ∙ (λ i. item_refusal request (option_and_then (facts_of b) (sym is i)) (unwrap_or (option_map (book.left b) (sym is i)) 0)) where
      at : (stored : Option Facts) (l : ℕ) → (let s = option_map {U = Facts × ℕ} (λ (facts : Facts). (facts, l)) stored in item_refusal request (facts_seen s) (left_seen s) ≡ item_refusal request stored l)
      at None l = refl
      at (Some facts) l = refl

-- where the opening refuses nothing, the item alone refuses
pub refused_by_item : (start : Opening) (b : Book) (request : Request) → number_refusal start request ≡ None
    → item_refusal request (facts_for b request) (left_for b request) ≡ refusal start b request
refused_by_item start b request none =
    sym (refusal-split start b request ∙ ap (λ o. option_or o (item_refusal request (facts_for b request) (left_for b request))) none)

-- ---- rows that go on a book

-- the row that a request adds goes on the book, and was stored by that worker's request
pub goes_on : (start : Opening) (b : Book) (worker : ℕ) (request : Request) (r : Row) → row_of worker request (reply start b worker request) ≡ Some r → GoOn start b (r ∷ [])
goes_on start b worker request r is =
    subst (λ o. GoOn start b (cons_option o [])) is (rows_go_on start b (commit worker request (reply start b worker request) ∷ []) (refl, tt))

pub worker_is : (r : Row) → worker_of r ≡ (commit_of r).worker
worker_is (row.Item r) = refl
worker_is r = refl

pub worker_of_added : (start : Opening) (b : Book) (worker : ℕ) (request : Request) (r : Row) → row_of worker request (reply start b worker request) ≡ Some r → worker_of r ≡ worker
worker_of_added start b worker request r is = worker_is r ∙ ap (λ e. e.worker) (commit_is b worker request (refusal start b request) r is)

-- the book after the commit that a row was stored by is the book with the row
pub after_own : (start : Opening) (b : Book) (r : Row) → GoOn start b (r ∷ []) → after_entry start b (commit_of r) ≡ b ++ r ∷ []
after_own start b r goes =
    ap (λ answered. b ++ option_to_list (row_of (commit_of r).worker (commit_of r).request answered)) (sym goes.0) ∙ ap (λ o. b ++ option_to_list o) (own_row r)

-- its acts can be done where every object lies
module _ (start : Opening) (number shards : ℕ) (rooms : ItemId → Bool) (contents : Contents) (here : (object : Object) → shard_of object shards ≡ number) where
  all_done : (r : Row) → AllByRecursion (λ act. is_done_on number shards [] act ≡ true → CanActOn start number shards rooms contents act) (writes_of r)
      → AllByRecursion (CanActOn start number shards rooms contents) (writes_of r)
  all_done (row.Item r) can =
      (can.0 (cold_here number shards [] (Item r.id) (here (Item r.id)) refl), (can.1.0 (cold_here number shards [] (Category r.facts.category) (here (Category r.facts.category)) refl), tt))
  all_done (row.Bid r) can = (can.0 (cold_here number shards [] (Item r.item) (here (Item r.item)) refl), tt)
  all_done (row.Comment r) can = (can.0 (cold_here number shards [] (User r.about) (here (User r.about)) refl), tt)
  all_done (row.Buy r) can = (can.0 (cold_here number shards [] (Item r.item) (here (Item r.item)) refl), tt)

  pub writes_can_be_done : (b : Book) (r : Row) → ContentsStandsFor number shards contents b [] → GoOn start b (r ∷ []) → IsWithinLimits (after_entry start b (commit_of r))
      → HasRoomFor number shards rooms (commit_of r) → AllByRecursion (CanActOn start number shards rooms contents) (writes_of r)
  writes_can_be_done b r stands goes limits room =
      all_done r (subst (λ o. AllByRecursion (λ act. is_done_on number shards [] act ≡ true → CanActOn start number shards rooms contents act) (writes_if o)) (own_row r)
      (row_can start number shards rooms contents b [] stands None (commit_of r) goes.0 limits room))

  all_acts : (r : Row) → done_on number shards [] (writes_of r) ≡ writes_of r
  all_acts (row.Item r) = λ i.
      let added = AddItem r.id r.facts in
      let listed = ListItem r.facts.category (item_entry r) ∷ [] in
      let rest = cond (cold_here number shards [] (Category r.facts.category) (here (Category r.facts.category)) refl i) listed [] in
      cond (cold_here number shards [] (Item r.id) (here (Item r.id)) refl i) (added ∷ rest) rest
  all_acts (row.Bid r) = ap (λ b. cond b (writes_of (row.Bid r)) []) (cold_here number shards [] (Item r.item) (here (Item r.item)) refl)
  all_acts (row.Comment r) = ap (λ b. cond b (writes_of (row.Comment r)) []) (cold_here number shards [] (User r.about) (here (User r.about)) refl)
  all_acts (row.Buy r) = ap (λ b. cond b (writes_of (row.Buy r)) []) (cold_here number shards [] (Item r.item) (here (Item r.item)) refl)

  pub stands_after : (b : Book) (r : Row) → ContentsStandsFor number shards contents b [] → ContentsStandsFor number shards (after_acts contents (writes_of r)) (b ++ r ∷ []) []
  stands_after b r stands = subst (λ acts. ContentsStandsFor number shards (after_acts contents acts) (b ++ r ∷ []) []) (all_acts r) (row_stands number shards contents b [] r stands)

-- a book within limits that is not full is so with one more row
pub limits_next : (b : Book) (r : Row) → IsWithinLimits b → length b < 16000000 → IsWithinLimits (b ++ r ∷ [])
limits_next b r limits not_full = record { few = omega (arith, not_full, length-append b (r ∷ [])) }

-- ---- answers

-- what holds whatever the answer is holds of an error
pub either_way : {T E P : Type 0} (answered : Result T E) → P → OnErr answered P
either_way (Ok x) p = tt
either_way (Err e) p = p

-- ---- counts

pub count_more : {R : Type 0} (p : R → Bool) (rs : List R) (r : R) → count_by p (rs ++ r ∷ []) ≡ cond (p r) (count_by p rs + 1) (count_by p rs)
count_more p rs r = sum_by-append (λ x. cond (p x) 1 0) rs (r ∷ []) ∙ at (p r) where
  at : (b : Bool) → count_by p rs + (0 + cond b 1 0) ≡ cond b (count_by p rs + 1) (count_by p rs)
  at true = refl
  at false = omega arith

-- how many of these a worker has
abbrev stores : ℕ → List ItemRow → List BidRow → List CommentRow → List BuyRow → StoreCounts
stores worker items bids comments buys = record {
  items = count_by (λ x. x.id.worker == worker) items;
  bids = count_by (λ x. x.id.worker == worker) bids;
  comments = count_by (λ x. x.id.worker == worker) comments;
  buys = count_by (λ x. x.id.worker == worker) buys;
}

-- one more row is counted among its worker's
pub stored_next : (b : Book) (r : Row) (worker : ℕ) → stored_by (b ++ r ∷ []) worker ≡ cond (worker_of r == worker) (counted r (stored_by b worker)) (stored_by b worker)
stored_next b (row.Item r) worker =
    let made = λ (n : ℕ). record (stored_by b worker) { items = n } in
    (λ i. stores worker (this_kind as_item b (row.Item r) r refl i) (other_kind as_bid b (row.Item r) refl i) (other_kind as_comment b (row.Item r) refl i) (other_kind as_buy b (row.Item r) refl i))
    ∙ ap made (count_more (λ x. x.id.worker == worker) (book.item_rows b) r) ∙ through made (r.id.worker == worker) _ _
stored_next b (row.Bid r) worker =
    let made = λ (n : ℕ). record (stored_by b worker) { bids = n } in
    (λ i. stores worker (other_kind as_item b (row.Bid r) refl i) (this_kind as_bid b (row.Bid r) r refl i) (other_kind as_comment b (row.Bid r) refl i) (other_kind as_buy b (row.Bid r) refl i))
    ∙ ap made (count_more (λ x. x.id.worker == worker) (book.bid_rows b) r) ∙ through made (r.id.worker == worker) _ _
stored_next b (row.Comment r) worker =
    let made = λ (n : ℕ). record (stored_by b worker) { comments = n } in
    (λ i. stores worker (other_kind as_item b (row.Comment r) refl i) (other_kind as_bid b (row.Comment r) refl i) (this_kind as_comment b (row.Comment r) r refl i) (other_kind as_buy b (row.Comment r) refl i))
    ∙ ap made (count_more (λ x. x.id.worker == worker) (book.comment_rows b) r) ∙ through made (r.id.worker == worker) _ _
stored_next b (row.Buy r) worker =
    let made = λ (n : ℕ). record (stored_by b worker) { buys = n } in
    (λ i. stores worker (other_kind as_item b (row.Buy r) refl i) (other_kind as_bid b (row.Buy r) refl i) (other_kind as_comment b (row.Buy r) refl i) (this_kind as_buy b (row.Buy r) r refl i))
    ∙ ap made (count_more (λ x. x.id.worker == worker) (book.buy_rows b) r) ∙ through made (r.id.worker == worker) _ _

pub stored_few : (b : Book) (worker : ℕ) → length b < 16000000 → AreFew (stored_by b worker)
stored_few b worker few = (
  omega (arith, few, count_by-le-length (λ r. r.id.worker == worker) (book.item_rows b), of_kind as_item b),
  omega (arith, few, count_by-le-length (λ r. r.id.worker == worker) (book.bid_rows b), of_kind as_bid b),
  omega (arith, few, count_by-le-length (λ r. r.id.worker == worker) (book.comment_rows b), of_kind as_comment b),
  omega (arith, few, count_by-le-length (λ r. r.id.worker == worker) (book.buy_rows b), of_kind as_buy b),
)

-- counts that are those of a book are those of the book with a row once the row is counted
pub counts_next : (b : Book) (r : Row) (old : List StoreCounts) (d : StoreCounts) → ((worker : ℕ) → worker < 16 → slice_get old worker ≡ Some (stored_by b worker)) → worker_of r < 16
    → (worker : ℕ) → worker < 16 → slice_get (set old (worker_of r) (counted r (get_or old (worker_of r) d))) worker ≡ Some (stored_by (b ++ r ∷ []) worker)
counts_next b r old d counts own worker within = at (worker_of r == worker) refl where
  next : List StoreCounts
  next = set old (worker_of r) (counted r (get_or old (worker_of r) d))

  inside : (v : ℕ) → v < 16 → v < length old
  inside v h = slice_get_within old v (stored_by b v) (counts v h)

  read : (v : ℕ) → v < 16 → get_or old v d ≡ stored_by b v
  read v h = get_or_from_slice_get old v (stored_by b v) d (counts v h)

  got : slice_get next worker ≡ Some (get_or next worker d)
  got = slice_get-get_or next worker d (subst (λ n. worker < n) (sym (length-set old (worker_of r) (counted r (get_or old (worker_of r) d)))) (inside worker within))

  at : (same : Bool) → (worker_of r == worker) ≡ same → slice_get next worker ≡ Some (stored_by (b ++ r ∷ []) worker)
  at true e =
      let is : worker_of r ≡ worker = eqb-true (worker_of r) worker e in
      got
      ∙ ap Some (ap (λ v. get_or next v d) (sym is) ∙ get_or-set_same old (worker_of r) (counted r (get_or old (worker_of r) d)) d (inside (worker_of r) own)
      ∙ ap (counted r) (read (worker_of r) own ∙ ap (stored_by b) is)
      ∙ sym (stored_next b r worker ∙ ap (λ t. cond t (counted r (stored_by b worker)) (stored_by b worker)) e))
  at false e =
      got
      ∙ ap Some (get_or-set_other old (worker_of r) worker (counted r (get_or old (worker_of r) d)) d (λ is. false≢true (sym e ∙ eq-eqb (worker_of r) worker (sym is)))
      ∙ read worker within
      ∙ sym (stored_next b r worker ∙ ap (λ t. cond t (counted r (stored_by b worker)) (stored_by b worker)) e))

-- ---- replies

abbrev pub none_counted : StoreCounts
none_counted = record { items = 0; bids = 0; comments = 0; buys = 0 }

-- a worker's counts are those of the book
pub counted_in : (auction : SerialAuction) (b : Book) (worker : ℕ) → HoldsBook auction b → worker < 16 → get_or auction.stored worker none_counted ≡ stored_by b worker
counted_in auction b worker holds below = get_or_from_slice_get auction.stored worker (stored_by b worker) none_counted (holds.counts worker below)

-- a view adds no row
pub view_adds_none : (worker : ℕ) (request : Request) (answered : Reply) → is_view request ≡ true → row_of worker request answered ≡ None
view_adds_none worker (ViewItem item) answered view = refl
view_adds_none worker (ViewBids item) answered view = refl
view_adds_none worker (ViewCategory category) answered view = refl
view_adds_none worker (ViewUser user) answered view = refl
view_adds_none worker request answered view = absurd (false≢true view)

-- ---- the empty book

pub none_stored : (worker : ℕ) → worker < 16 → slice_get (replicate 16 (stored_by [] worker)) worker ≡ Some (stored_by [] worker)
none_stored worker within =
    let none = stored_by [] worker in
    slice_get-get_or (replicate 16 none) worker none (subst (λ n. worker < n) (sym (length-replicate 16 none)) within) ∙ ap Some (get_or-replicate 16 worker none none within)

-- ---- rows stored one by one after a book

-- the next row goes on the book and the rows before it
module _ (book rows : List Row) (i : ℕ) (r : Row) (within : i < length rows) (is : r ≡ get_or rows i r) where
  pub one_more : book ++ take (i + 1) rows ≡ (book ++ take i rows) ++ r ∷ []
  one_more = ap (λ front. book ++ front) (take_more rows i r within ∙ ap (λ x. take i rows ++ x ∷ []) (sym is)) ∙ sym (append_assoc book (take i rows) (r ∷ []))

  whole : ((book ++ take i rows) ++ r ∷ []) ++ drop (i + 1) rows ≡ book ++ rows
  whole =
      ap (λ front. front ++ drop (i + 1) rows) (sym one_more) ∙ append_assoc book (take (i + 1) rows) (drop (i + 1) rows) ∙ ap (λ rs. book ++ rs) (take-append-drop (i + 1) rows)

  pub next_goes_on : (start : Opening) → IsBook start (book ++ rows) → GoOn start (book ++ take i rows) (r ∷ [])
  next_goes_on start is_book =
      (book_parts start (book ++ take i rows) (r ∷ []) (book_parts start ((book ++ take i rows) ++ r ∷ []) (drop (i + 1) rows) (subst (IsBook start) (sym whole) is_book)).0).1

pub front_not_full : (book rows : List Row) (i : ℕ) → i < length rows → length book + length rows ≤ 16000000 → length (book ++ take i rows) < 16000000
front_not_full book rows i within few = omega (arith, length-append book (take i rows), length-take-le i rows (omega arith), within, few)
