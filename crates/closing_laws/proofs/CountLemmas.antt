-- Counters that count a book count the next one, after a commit of their worker; after one of another worker they stay.
use Rattle.std.proofs.Common.{◌≡◌, ℕ, ◌+◌, ◌==◌, Bool, true, false, cond, [], ◌∷◌, ◌++◌, Option, Some, None, option_to_list, refl, sym, ap, subst, ◌∙◌, arith, eq-eqb}
use Rattle.std.proofs.lemmas.{Bool.{false≢true}, List.{Elements.{filter_map-append}, append-nil}}
use Rattle.std.{proofs.lemmas.List.Sums.{sum_by-append}, specs.List.{filter_map}}
use Rattle.std.specs.Prelude.{count_by}
use Rattle.auction_rows.specs.Book.{Book, as_item, as_bid, as_comment, as_buy, facts_of}
use Rattle.auction_rows.specs.Replies.{answer, answer_unless, item_seen, row_of, row_if}
use Rattle.auction_rows.specs.declared.requests.Request.TheVariants.{StoreItem, StoreBid, StoreComment, BuyNow, ViewItem, ViewBids, ViewCategory, ViewUser}
use Rattle.auction_rows.specs.declared.{requests.Facts.Facts, requests.Request.Request, replies.Refusal.Refusal, rows.Row.Row}
use Rattle.auction_rows.specs.declared.rows.Row.TheVariants as row
use Rattle.worker_slices.specs.{Counting.{counters_after}, declared.counters.Counters.{Counters}}
use Rattle.phase_permits.specs.Replying.{CountsOf}

-- the rows of one kind that pass a test, with one row more
count_more : {R : Type 0} (kind : Row → Option R) (p : R → Bool) (book : Book) (one : Row)
    → count_by p (filter_map kind (book ++ one ∷ [])) ≡ count_by p (filter_map kind book) + count_by p (filter_map kind (one ∷ []))
count_more kind p book one =
    ap (count_by p) (filter_map-append kind book (one ∷ []))
    ∙ sum_by-append (λ x. cond (p x) 1 0) (filter_map kind book) (filter_map kind (one ∷ []))

one_counted : (b : Bool) (n : ℕ) → b ≡ true → n + (0 + cond b 1 0) ≡ n + 1
one_counted true n is = refl
one_counted false n is = absurd (false≢true is)

no_more : (n : ℕ) → n + 0 ≡ n
no_more n = omega arith

-- a row counts for its worker
abbrev worker_is : ℕ → Row → Bool
worker_is worker (row.Item r) = r.id.worker == worker
worker_is worker (row.Bid r) = r.id.worker == worker
worker_is worker (row.Comment r) = r.id.worker == worker
worker_is worker (row.Buy r) = r.id.worker == worker

abbrev with_row : Row → Counters → Counters
with_row (row.Item r) counters = record counters { items = counters.items + 1; commits = counters.commits + 1 }
with_row (row.Bid r) counters = record counters { bids = counters.bids + 1; commits = counters.commits + 1 }
with_row (row.Comment r) counters = record counters { comments = counters.comments + 1; commits = counters.commits + 1 }
with_row (row.Buy r) counters = record counters { buys = counters.buys + 1; commits = counters.commits + 1 }

module _ (book : Book) (worker : ℕ) (counters : Counters) (counts : CountsOf book worker counters) where
  own_row : (one : Row) → worker_is worker one ≡ true → CountsOf (book ++ one ∷ []) worker (with_row one counters)
  own_row (row.Item r) own = record {
    items = count_more as_item (λ x. x.id.worker == worker) book (row.Item r) ∙ one_counted (r.id.worker == worker) _ own ∙ ap (λ n. n + 1) counts.items;
    bids = count_more as_bid (λ x. x.id.worker == worker) book (row.Item r) ∙ no_more _ ∙ counts.bids;
    comments = count_more as_comment (λ x. x.id.worker == worker) book (row.Item r) ∙ no_more _ ∙ counts.comments;
    buys = count_more as_buy (λ x. x.id.worker == worker) book (row.Item r) ∙ no_more _ ∙ counts.buys;
  }
  own_row (row.Bid r) own = record {
    items = count_more as_item (λ x. x.id.worker == worker) book (row.Bid r) ∙ no_more _ ∙ counts.items;
    bids = count_more as_bid (λ x. x.id.worker == worker) book (row.Bid r) ∙ one_counted (r.id.worker == worker) _ own ∙ ap (λ n. n + 1) counts.bids;
    comments = count_more as_comment (λ x. x.id.worker == worker) book (row.Bid r) ∙ no_more _ ∙ counts.comments;
    buys = count_more as_buy (λ x. x.id.worker == worker) book (row.Bid r) ∙ no_more _ ∙ counts.buys;
  }
  own_row (row.Comment r) own = record {
    items = count_more as_item (λ x. x.id.worker == worker) book (row.Comment r) ∙ no_more _ ∙ counts.items;
    bids = count_more as_bid (λ x. x.id.worker == worker) book (row.Comment r) ∙ no_more _ ∙ counts.bids;
    comments = count_more as_comment (λ x. x.id.worker == worker) book (row.Comment r) ∙ one_counted (r.id.worker == worker) _ own ∙ ap (λ n. n + 1) counts.comments;
    buys = count_more as_buy (λ x. x.id.worker == worker) book (row.Comment r) ∙ no_more _ ∙ counts.buys;
  }
  own_row (row.Buy r) own = record {
    items = count_more as_item (λ x. x.id.worker == worker) book (row.Buy r) ∙ no_more _ ∙ counts.items;
    bids = count_more as_bid (λ x. x.id.worker == worker) book (row.Buy r) ∙ no_more _ ∙ counts.bids;
    comments = count_more as_comment (λ x. x.id.worker == worker) book (row.Buy r) ∙ no_more _ ∙ counts.comments;
    buys = count_more as_buy (λ x. x.id.worker == worker) book (row.Buy r) ∙ one_counted (r.id.worker == worker) _ own ∙ ap (λ n. n + 1) counts.buys;
  }

  -- a count of one kind with a row of another worker
  other_count : {R : Type 0} (kind : Row → Option R) (p : R → Bool) (one : Row) (n : ℕ) → count_by p (filter_map kind (one ∷ [])) ≡ 0
      → count_by p (filter_map kind book) ≡ n → count_by p (filter_map kind (book ++ one ∷ [])) ≡ n
  other_count kind p one n none is = count_more kind p book one ∙ ap (λ m. count_by p (filter_map kind book) + m) none ∙ no_more _ ∙ is

  not_one : (b : Bool) → b ≡ false → 0 + cond b 1 0 ≡ 0
  not_one true is = absurd (false≢true (sym is))
  not_one false is = refl

  other_row : (one : Row) → worker_is worker one ≡ false → CountsOf (book ++ one ∷ []) worker counters
  other_row (row.Item r) other = record {
    items = other_count as_item (λ x. x.id.worker == worker) (row.Item r) counters.items (not_one (r.id.worker == worker) other) counts.items;
    bids = other_count as_bid (λ x. x.id.worker == worker) (row.Item r) counters.bids refl counts.bids;
    comments = other_count as_comment (λ x. x.id.worker == worker) (row.Item r) counters.comments refl counts.comments;
    buys = other_count as_buy (λ x. x.id.worker == worker) (row.Item r) counters.buys refl counts.buys;
  }
  other_row (row.Bid r) other = record {
    items = other_count as_item (λ x. x.id.worker == worker) (row.Bid r) counters.items refl counts.items;
    bids = other_count as_bid (λ x. x.id.worker == worker) (row.Bid r) counters.bids (not_one (r.id.worker == worker) other) counts.bids;
    comments = other_count as_comment (λ x. x.id.worker == worker) (row.Bid r) counters.comments refl counts.comments;
    buys = other_count as_buy (λ x. x.id.worker == worker) (row.Bid r) counters.buys refl counts.buys;
  }
  other_row (row.Comment r) other = record {
    items = other_count as_item (λ x. x.id.worker == worker) (row.Comment r) counters.items refl counts.items;
    bids = other_count as_bid (λ x. x.id.worker == worker) (row.Comment r) counters.bids refl counts.bids;
    comments = other_count as_comment (λ x. x.id.worker == worker) (row.Comment r) counters.comments (not_one (r.id.worker == worker) other) counts.comments;
    buys = other_count as_buy (λ x. x.id.worker == worker) (row.Comment r) counters.buys refl counts.buys;
  }
  other_row (row.Buy r) other = record {
    items = other_count as_item (λ x. x.id.worker == worker) (row.Buy r) counters.items refl counts.items;
    bids = other_count as_bid (λ x. x.id.worker == worker) (row.Buy r) counters.bids refl counts.bids;
    comments = other_count as_comment (λ x. x.id.worker == worker) (row.Buy r) counters.comments refl counts.comments;
    buys = other_count as_buy (λ x. x.id.worker == worker) (row.Buy r) counters.buys (not_one (r.id.worker == worker) other) counts.buys;
  }

  same_rows : (b : Book) → b ≡ book → CountsOf b worker counters
  same_rows b is = subst (λ c. CountsOf c worker counters) (sym is) counts

  no_row : CountsOf (book ++ []) worker counters
  no_row = same_rows (book ++ []) (append-nil book)

  -- what was refused or only looked at counts as a commit alone
  uncounted : CountsOf (book ++ []) worker (record counters { commits = counters.commits + 1 })
  uncounted = record { items = no_row.items; bids = no_row.bids; comments = no_row.comments; buys = no_row.buys }

  own_if : (b : Bool) (one : Row) → b ≡ true → worker_is worker one ≡ true → CountsOf (book ++ option_to_list (row_if b one)) worker (with_row one counters)
  own_if true one is own = own_row one own
  own_if false one is own = absurd (false≢true is)

  -- a commit of the worker
  pub own_commit : (request : Request) (refused : Option Refusal)
      → (let given = answer_unless refused (answer book worker request) in CountsOf (book ++ option_to_list (row_of worker request given)) worker (counters_after counters given))
  own_commit (StoreItem facts time) None = own_if (worker == worker) _ (eq-eqb worker worker refl) (eq-eqb worker worker refl)
  own_commit (StoreBid bidder item amount time) None = own_if (worker == worker) _ (eq-eqb worker worker refl) (eq-eqb worker worker refl)
  own_commit (StoreComment author about item stars) None = own_if (worker == worker) _ (eq-eqb worker worker refl) (eq-eqb worker worker refl)
  own_commit (BuyNow buyer item quantity time) None = own_if (worker == worker) _ (eq-eqb worker worker refl) (eq-eqb worker worker refl)
  own_commit (ViewItem item) None = at (facts_of book item) where
    at : (facts : Option Facts) → CountsOf (book ++ option_to_list (row_of worker (ViewItem item) (item_seen book item facts))) worker (counters_after counters (item_seen book item facts))
    at None = uncounted
    at (Some facts) = uncounted
  own_commit (ViewBids item) None = uncounted
  own_commit (ViewCategory category) None = uncounted
  own_commit (ViewUser user) None = uncounted
  own_commit request refused = uncounted

  other_if : (b : Bool) (one : Row) → worker_is worker one ≡ false → CountsOf (book ++ option_to_list (row_if b one)) worker counters
  other_if true one other = other_row one other
  other_if false one other = no_row

  -- a commit of another one
  pub other_commit : (by : ℕ) (request : Request) (refused : Option Refusal) → (by == worker) ≡ false
      → CountsOf (book ++ option_to_list (row_of by request (answer_unless refused (answer book by request)))) worker counters
  other_commit by (StoreItem facts time) None other = other_if (by == by) _ other
  other_commit by (StoreBid bidder item amount time) None other = other_if (by == by) _ other
  other_commit by (StoreComment author about item stars) None other = other_if (by == by) _ other
  other_commit by (BuyNow buyer item quantity time) None other = other_if (by == by) _ other
  other_commit by request refused other = no_row
