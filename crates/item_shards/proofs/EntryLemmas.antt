-- What contents stand for, after the acts that an entry owes.
use Rattle.std.proofs.Common.{◌≡◌, ℕ, ◌+◌, ◌≤◌, ◌==◌, Bool, true, false, ◌&&◌, ◌||◌, cond, not, List, [], ◌∷◌, ◌++◌, map, filter, length, length-append, Option, Some, None, option_to_list, refl, sym, ap, subst, ◌∙◌, arith}
use Rattle.std.proofs.lemmas.{Bool.{false≢true, or_parts}, List.Elements.{filter-append}}
use Rattle.std.{proofs.lemmas.List.Sums.{length-filter, count_by-le-length}, specs.List.{list_any}}
use Rattle.std.specs.{Option.{option_or}, Prelude.{is_some, is_none}}
use Rattle.auction_rows.proofs.{RefusalLemmas.{refusal-split}, RequestLemmas.{row_made}}
use Rattle.auction_rows.specs.{Book.{Book}, Footprint.{is_hot, objects_of, takes_shard}}
use Rattle.auction_rows.specs.History.{IsRight, after_entry, row_of_entry}
use Rattle.auction_rows.specs.Refusals.{number_refusal, item_refusal, refusal, facts_for, left_for}
use Rattle.auction_rows.specs.{Replies.{reply, row_of, row_if}, Requests.{is_view, shard_of}}
use Rattle.auction_rows.specs.declared.replies.Reply.TheVariants.{ItemStored, BidStored, CommentStored, Bought}
use Rattle.auction_rows.specs.declared.requests.Object.TheVariants.{Item, User, Category}
use Rattle.auction_rows.specs.declared.requests.Request.TheVariants.{StoreItem, StoreBid, StoreComment, BuyNow, ViewItem, ViewBids, ViewCategory, ViewUser}
use Rattle.auction_rows.specs.declared.{values.Opening.Opening, requests.Facts.Facts, requests.Object.Object, requests.Request.Request, replies.Refusal.Refusal, replies.Reply.Reply, rows.Row.Row, rows.Entry.Entry}
use Rattle.item_shards.proofs.{StandingLemmas.{rows_stand}, Stored.{none_from}}
use Rattle.item_shards.specs.{Contents.{Contents, after_acts}, Events.{Event, Look}, Shown.{Shown}}
use Rattle.item_shards.specs.Standing.{ContentsStandsFor}
use Rattle.item_shards.specs.Writing.{looks_of, writes_of, writes_if, acts_of, is_cold_in, is_done_on, done_on, padded, acts_owed}

-- the looks at nothing leave the contents
pub padded_leaves : (contents : Contents) (acts : List Event) → length acts ≤ 2 → after_acts contents (padded acts) ≡ after_acts contents acts
padded_leaves contents (act ∷ other ∷ more ∷ acts) few = absurd (omega (arith, few))
padded_leaves contents acts few = refl

-- an entry has at most two acts
with_row : (looks : List Event) (b : Bool) (one : Row) → length looks + length (writes_of one) ≤ 2 → length (looks ++ writes_if (row_if b one)) ≤ 2
with_row looks true one few = omega (arith, few, length-append looks (writes_of one))
with_row looks false one few = omega (arith, few, length-append looks [])

few_in : (saw : Option (Facts × ℕ)) (worker : ℕ) (request : Request) (answered : Reply) → length (looks_of saw answered request ++ writes_if (row_of worker request answered)) ≤ 2
few_in saw worker (StoreItem facts time) (ItemStored id) = with_row [] (id.worker == worker) _ (omega arith)
few_in saw worker (StoreBid bidder item amount time) (BidStored id) = with_row (looks_of saw (BidStored id) (StoreBid bidder item amount time)) (id.worker == worker) _ (omega arith)
few_in saw worker (StoreComment author about item stars) (CommentStored id) = with_row (looks_of saw (CommentStored id) (StoreComment author about item stars)) (id.worker == worker) _ (omega arith)
few_in saw worker (BuyNow buyer item quantity time) (Bought id) = with_row (looks_of saw (Bought id) (BuyNow buyer item quantity time)) (id.worker == worker) _ (omega arith)
few_in saw worker request answered = omega arith

kept_few : (p : Event → Bool) (acts : List Event) (n : ℕ) → length acts ≤ n → length (filter p acts) ≤ n
kept_few p acts n few = omega (arith, few, length-filter p acts, count_by-le-length p acts)

pub few_done : (number shards : ℕ) (hot : List Object) (opening : Opening) (saw : Option (Facts × ℕ)) (entry : Entry) → length (done_on number shards hot (acts_of opening saw entry)) ≤ 2
few_done number shards hot opening saw entry = kept_few (is_done_on number shards hot) (acts_of opening saw entry) 2 (at (is_some (number_refusal opening entry.request))) where
  at : (b : Bool) → length (cond b [] (looks_of saw entry.reply entry.request ++ writes_if (row_of_entry entry))) ≤ 2
  at true = omega arith
  at false = few_in saw entry.worker entry.request entry.reply

-- where the opening refuses a request the entry adds no row
and_not : (b : Bool) (reason : Refusal) (o : Option Refusal) → o ≡ Some reason → (b && is_none o) ≡ false
and_not b reason o e = ap (λ p. b && is_none p) e ∙ at b where
  at : (b : Bool) → (b && false) ≡ false
  at true = refl
  at false = refl

pub no_row : (opening : Opening) (book : Book) (worker : ℕ) (request : Request) (reason : Refusal) → number_refusal opening request ≡ Some reason
    → row_of worker request (reply opening book worker request) ≡ None
no_row opening book worker request reason e =
    none_from (row_of worker request (reply opening book worker request))
    (row_made book worker request (refusal opening book request)
    ∙ and_not (not (is_view request)) reason (refusal opening book request)
    (refusal-split opening book request ∙ ap (λ o. option_or o (item_refusal request (facts_for book request) (left_for book request))) e))

module _ (number shards : ℕ) (hot : List Object) where
  -- a look that is done or not leaves the contents
  look_leaves : (contents : Contents) (b : Bool) (shown : Shown) (acts : List Event) → after_acts contents (cond b (Look shown ∷ []) [] ++ acts) ≡ after_acts contents acts
  look_leaves contents true shown acts = refl
  look_leaves contents false shown acts = refl

  looks_leave : (contents : Contents) (saw : Option (Facts × ℕ)) (answered : Reply) (request : Request) (acts : List Event)
      → after_acts contents (done_on number shards hot (looks_of saw answered request) ++ acts) ≡ after_acts contents acts
  looks_leave contents saw answered (StoreItem facts time) acts = refl
  looks_leave contents saw answered (StoreBid bidder item amount time) acts = look_leaves contents (is_cold_in number shards hot (Item item)) _ acts
  looks_leave contents saw answered (StoreComment author about item stars) acts = look_leaves contents (is_cold_in number shards hot (Item item)) _ acts
  looks_leave contents saw answered (BuyNow buyer item quantity time) acts = look_leaves contents (is_cold_in number shards hot (Item item)) _ acts
  looks_leave contents saw answered (ViewItem item) acts = look_leaves contents (is_cold_in number shards hot (Item item)) _ acts
  looks_leave contents saw answered (ViewBids item) acts = look_leaves contents (is_cold_in number shards hot (Item item)) _ acts
  looks_leave contents saw answered (ViewCategory category) acts = look_leaves contents (is_cold_in number shards hot (Category category)) _ acts
  looks_leave contents saw answered (ViewUser user) acts = look_leaves contents (is_cold_in number shards hot (User user)) _ acts

  module _ (opening : Opening) (contents : Contents) (book : Book) (saw : Option (Facts × ℕ)) (entry : Entry) (right : IsRight opening book entry) where
    -- what is written is what is left of the acts
    writes_alone : (refused : Option Refusal) → number_refusal opening entry.request ≡ refused
        → after_acts contents (done_on number shards hot (cond (is_some refused) [] (looks_of saw entry.reply entry.request ++ writes_if (row_of_entry entry))))
        ≡ after_acts contents (done_on number shards hot (writes_if (row_of_entry entry)))
    writes_alone None e =
        ap (after_acts contents) (filter-append (is_done_on number shards hot) (looks_of saw entry.reply entry.request) (writes_if (row_of_entry entry)))
        ∙ looks_leave contents saw entry.reply entry.request (done_on number shards hot (writes_if (row_of_entry entry)))
    writes_alone (Some reason) e =
        ap (λ one. after_acts contents (done_on number shards hot (writes_if one)))
        (sym (ap (row_of entry.worker entry.request) right ∙ no_row opening book entry.worker entry.request reason e))

    owed_writes : after_acts contents (acts_owed opening number shards hot saw entry) ≡ after_acts contents (done_on number shards hot (writes_if (row_of_entry entry)))
    owed_writes = padded_leaves contents (done_on number shards hot (acts_of opening saw entry)) (few_done number shards hot opening saw entry) ∙ writes_alone (number_refusal opening entry.request) refl

    pub entry_stands : ContentsStandsFor number shards contents book hot
        → ContentsStandsFor number shards (after_acts contents (acts_owed opening number shards hot saw entry)) (after_entry opening book entry) hot
    entry_stands stands =
        subst (λ (now : Contents). ContentsStandsFor number shards now (after_entry opening book entry) hot) (sym owed_writes)
        (subst (λ (after : Book). ContentsStandsFor number shards (after_acts contents (done_on number shards hot (writes_if (row_of_entry entry)))) after hot)
        (ap (λ answered. book ++ option_to_list (row_of entry.worker entry.request answered)) right)
        (rows_stand number shards contents book hot (row_of_entry entry) stands))

  -- a test of any of the objects that are not hot is one of all
  taken_cold : (objects : List Object) → list_any (λ taken. taken == number) (map (λ o. shard_of o shards) (filter (λ o. not (is_hot hot o)) objects)) ≡ list_any (is_cold_in number shards hot) objects
  taken_cold [] = refl
  taken_cold (o ∷ objects) = at (is_hot hot o) (taken_cold objects) where
    at : (b : Bool) → list_any (λ taken. taken == number) (map (λ p. shard_of p shards) (filter (λ p. not (is_hot hot p)) objects)) ≡ list_any (is_cold_in number shards hot) objects
        → list_any (λ taken. taken == number) (map (λ p. shard_of p shards) (cond (not b) (o ∷ filter (λ p. not (is_hot hot p)) objects) (filter (λ p. not (is_hot hot p)) objects)))
        ≡ ((not b && (shard_of o shards == number)) || list_any (is_cold_in number shards hot) objects)
    at true e = e
    at false e = ap (λ b. (shard_of o shards == number) || b) e

  one_dropped : (b : Bool) (act : Event) → (b || false) ≡ false → cond b (act ∷ []) [] ≡ []
  one_dropped true act e = absurd (false≢true (sym e))
  one_dropped false act e = refl

  both_dropped : (a b : Bool) (act other : Event) → (a || (b || false)) ≡ false → cond a (act ∷ cond b (other ∷ []) []) (cond b (other ∷ []) []) ≡ []
  both_dropped true b act other e = absurd (false≢true (sym e))
  both_dropped false b act other e = one_dropped b other e

  -- nothing is done where no object of the entry is cold
  module _ (saw : Option (Facts × ℕ)) where
    no_looks : (request : Request) (answered : Reply) → list_any (is_cold_in number shards hot) (objects_of request answered) ≡ false
        → done_on number shards hot (looks_of saw answered request) ≡ []
    no_looks (StoreItem facts time) answered e = refl
    no_looks (StoreBid bidder item amount time) answered e = one_dropped (is_cold_in number shards hot (Item item)) _ e
    no_looks (StoreComment author about item stars) answered e =
        one_dropped (is_cold_in number shards hot (Item item)) _ (ap (λ b. b || false) (or_parts (is_cold_in number shards hot (Item item)) _ e).0)
    no_looks (BuyNow buyer item quantity time) answered e = one_dropped (is_cold_in number shards hot (Item item)) _ e
    no_looks (ViewItem item) answered e = one_dropped (is_cold_in number shards hot (Item item)) _ e
    no_looks (ViewBids item) answered e = one_dropped (is_cold_in number shards hot (Item item)) _ e
    no_looks (ViewCategory category) answered e = one_dropped (is_cold_in number shards hot (Category category)) _ e
    no_looks (ViewUser user) answered e = one_dropped (is_cold_in number shards hot (User user)) _ e

  row_dropped : (b : Bool) (one : Row) → done_on number shards hot (writes_of one) ≡ [] → done_on number shards hot (writes_if (row_if b one)) ≡ []
  row_dropped true one e = e
  row_dropped false one e = refl

  no_writes : (worker : ℕ) (request : Request) (answered : Reply) → list_any (is_cold_in number shards hot) (objects_of request answered) ≡ false
      → done_on number shards hot (writes_if (row_of worker request answered)) ≡ []
  no_writes worker (StoreItem facts time) (ItemStored id) e =
      row_dropped (id.worker == worker) _ (both_dropped (is_cold_in number shards hot (Item id)) (is_cold_in number shards hot (Category facts.category)) _ _ e)
  no_writes worker (StoreBid bidder item amount time) (BidStored id) e = row_dropped (id.worker == worker) _ (one_dropped (is_cold_in number shards hot (Item item)) _ e)
  no_writes worker (StoreComment author about item stars) (CommentStored id) e =
      row_dropped (id.worker == worker) _ (one_dropped (is_cold_in number shards hot (User about)) _ (or_parts (is_cold_in number shards hot (Item item)) _ e).1)
  no_writes worker (BuyNow buyer item quantity time) (Bought id) e = row_dropped (id.worker == worker) _ (one_dropped (is_cold_in number shards hot (Item item)) _ e)
  no_writes worker request answered e = refl

  pub nothing_done : (opening : Opening) (saw : Option (Facts × ℕ)) (entry : Entry) → takes_shard opening shards hot entry number ≡ false
      → done_on number shards hot (acts_of opening saw entry) ≡ []
  nothing_done opening saw entry e = at (is_some (number_refusal opening entry.request)) e where
    at : (b : Bool) → list_any (λ taken. taken == number) (map (λ o. shard_of o shards) (cond b [] (filter (λ o. not (is_hot hot o)) (objects_of entry.request entry.reply)))) ≡ false
        → done_on number shards hot (cond b [] (looks_of saw entry.reply entry.request ++ writes_if (row_of_entry entry))) ≡ []
    at true e = refl
    at false e =
        let cold = sym (taken_cold (objects_of entry.request entry.reply)) ∙ e in
        filter-append (is_done_on number shards hot) (looks_of saw entry.reply entry.request) (writes_if (row_of_entry entry))
        ∙ (λ i. no_looks saw entry.request entry.reply cold i ++ no_writes entry.worker entry.request entry.reply cold i)

  -- so the contents of a shard that the entry does not take stands as it is
  pub untaken_stands : (opening : Opening) (contents : Contents) (book : Book) (entry : Entry) → ContentsStandsFor number shards contents book hot → IsRight opening book entry
      → takes_shard opening shards hot entry number ≡ false → ContentsStandsFor number shards contents (after_entry opening book entry) hot
  untaken_stands opening contents book entry stands right e =
      subst (λ acts. ContentsStandsFor number shards (after_acts contents (padded acts)) (after_entry opening book entry) hot) (nothing_done opening None entry e)
      (entry_stands opening contents book None entry right stands)
