-- One row more on shards and counters that are kept between phases.
use Rattle.std.proofs.Common.{◌≡◌, ℕ, All, ◌+◌, ◌<◌, ◌≤◌, ◌^◌, ◌==◌, Bool, true, false, cond, List, [], ◌∷◌, ◌++◌, Option, None, Some, ◌&&◌, not, is_some, is_none, get_or, map, length, set, refl, sym, ap, subst, ◌∙◌, arith, eq-eqb}
use Rattle.std.proofs.lemmas.Bool.{eqb-true, false≢true}
use Rattle.std.proofs.lemmas.List.{get_or_read, get_or-set_same, get_or-set_other, length-set}
use Rattle.std.proofs.lemmas.List.Elements.{All-from_recursion, recursion_from_All}
use Rattle.std.proofs.lemmas.Option.{none-some}
use Rattle.phase_laws.proofs.ListLemmas.{all-append}
use Rattle.auction_rows.{proofs.HistoryLemmas.{longer_book}, specs.Book.{Book}}
use Rattle.auction_rows.specs.History.{IsBook, GoOn}
use Rattle.auction_rows.specs.declared.{values.Opening.Opening, replies.Refusal.Refusal, rows.Row.Row}
use Rattle.auction_rows.specs.declared.rows.Row.TheVariants as row
use Rattle.item_shards.proofs.SerialLemmas.{stored_next}
use Rattle.item_shards.specs.{Counting.{worker_of, stored_by, counted}, Writing.{writes_of}}
use Rattle.item_shards.specs.declared.{serial.StoreCounts.{StoreCounts}, shard.Shard.{Shard}}
use Rattle.shard_boxes.specs.States.{ShardState, state_of}
use Rattle.shard_boxes.specs.declared.limits.TheConstants.{MOST_COMMITS}
use Rattle.auction_shards.specs.Writing.{CanWriteOn, HaveDone}
use Rattle.worker_slices.specs.declared.counters.Counters.{Counters}
use Rattle.phase_permits.specs.Replying.{CountsOf}
use Rattle.phase_transactions.specs.Workers.{no_counters}
use Rattle.closing_laws.specs.Standing.{StandFor, AreCountersOf, AreOfWorkers, counters_at, stores}
use Rattle.phase_floor.proofs.{BookSize.{size_at_most}, Kept.{are_opened}}
use Rattle.phase_floor.proofs.RowActs.{can_write, ready_next, stand_next}
use Rattle.phase_floor.specs.{Adding.{with_counted}, Resuming.{with_row}}
use Rattle.phase_floor.specs.States.{JoinedState, AreOfABook, AreWithinMost, IsBookOf, IsKept, IsWithinMost, joined_of, states_of}
use Rattle.phase_floor.specs.inner.Rows.{CanTake, AreReady, HaveRoom}

-- ---- counters

abbrev counts : Counters → StoreCounts
counts c = record { items = c.items; bids = c.bids; comments = c.comments; buys = c.buys }

counted_as : (r : Row) (c : Counters) → counted r (counts c) ≡ counts (with_row r c)
counted_as (row.Item r) c = refl
counted_as r c = refl

stores_as : (r : Row) (c : Counters) → (stores (with_row r c) ≡ stores c + 1) × ((with_row r c).commits ≡ c.commits + 1)
stores_as (row.Item r) c = (omega arith, refl)
stores_as r c = (omega arith, refl)

module _ (b : Book) (w : ℕ) (c : Counters) where
  told : CountsOf b w c → stored_by b w ≡ counts c
  told of = (λ i. record { items = of.items i; bids = of.bids i; comments = of.comments i; buys = of.buys i })

  counts_of : stored_by b w ≡ counts c → CountsOf b w c
  counts_of is = record {
    items = ap (λ (s : StoreCounts). s.items) is;
    bids = ap (λ (s : StoreCounts). s.bids) is;
    comments = ap (λ (s : StoreCounts). s.comments) is;
    buys = ap (λ (s : StoreCounts). s.buys) is;
  }

-- a worker's counters have room for one row more
pub have_room : (c : Counters) → stores c ≤ c.commits → (limit : ℕ) → limit ≤ MOST_COMMITS → c.commits < limit → HaveRoom c
have_room c stored limit last room = record {
  items = omega (arith, stored, last, room);
  bids = omega (arith, stored, last, room);
  comments = omega (arith, stored, last, room);
  buys = omega (arith, stored, last, room);
  commits = omega (arith, last, room);
}

module _ (counters : List Counters) (r : Row) (own : worker_of r < length counters) where
  abbrev next : List Counters
  next = with_counted r counters

  pub as_many : length next ≡ length counters
  as_many = length-set counters (worker_of r) (with_row r (counters_at counters (worker_of r)))

  -- the counters of each worker
  at_next : (w : ℕ) (t : Bool) → (worker_of r == w) ≡ t → counters_at next w ≡ cond t (with_row r (counters_at counters w)) (counters_at counters w)
  at_next w true e =
      let is : worker_of r ≡ w = eqb-true (worker_of r) w e in
      ap (counters_at next) (sym is) ∙ get_or-set_same counters (worker_of r) (with_row r (counters_at counters (worker_of r))) no_counters own ∙ ap (λ v. with_row r (counters_at counters v)) is
  at_next w false e =
      get_or-set_other counters (worker_of r) w (with_row r (counters_at counters (worker_of r))) no_counters (λ is. false≢true (sym e ∙ eq-eqb (worker_of r) w (sym is)))

  pub counts_next : (b : Book) → AreCountersOf counters b → AreCountersOf next (b ++ r ∷ [])
  counts_next b are w low = at (worker_of r == w) refl where
    of : CountsOf b w (counters_at counters w)
    of = are w (omega (arith, low, as_many))

    at : (t : Bool) → (worker_of r == w) ≡ t → CountsOf (b ++ r ∷ []) w (counters_at next w)
    at true e =
        subst (CountsOf (b ++ r ∷ []) w) (sym (at_next w true e)) (counts_of (b ++ r ∷ []) w (with_row r (counters_at counters w))
        (stored_next b r w ∙ ap (λ t. cond t (counted r (stored_by b w)) (stored_by b w)) e ∙ ap (counted r) (told b w (counters_at counters w) of) ∙ counted_as r (counters_at counters w)))
    at false e =
        subst (CountsOf (b ++ r ∷ []) w) (sym (at_next w false e)) (counts_of (b ++ r ∷ []) w (counters_at counters w)
        (stored_next b r w ∙ ap (λ t. cond t (counted r (stored_by b w)) (stored_by b w)) e ∙ told b w (counters_at counters w) of))

  pub most_next : AreWithinMost counters → (counters_at counters (worker_of r)).commits < MOST_COMMITS → AreWithinMost next
  most_next most room w low = at (worker_of r == w) refl where
    was : IsWithinMost (counters_at counters w)
    was = most w (omega (arith, low, as_many))

    at : (t : Bool) → (worker_of r == w) ≡ t → IsWithinMost (counters_at next w)
    at true e =
        let here : (counters_at counters w).commits < MOST_COMMITS = subst (λ v. (counters_at counters v).commits < MOST_COMMITS) (eqb-true (worker_of r) w e) room in
        let more = stores_as r (counters_at counters w) in
        subst IsWithinMost (sym (at_next w true e)) (record { stored = omega (arith, more.0, more.1, was.stored); commits = omega (arith, more.1, here) })
    at false e = subst IsWithinMost (sym (at_next w false e)) was

-- ---- shards and counters

module _ (opening : Opening) (limit : ℕ) (old : List ShardState) (counters : List Counters) (r : Row) (kept : IsKept opening limit old counters) where
  -- shards that are kept are ready
  pub ready : AreReady opening old
  ready = record {
    numbered = λ s low. ((kept.opened s low).number_is, (kept.opened s low).shards_is);
    opening_is = kept.opening_is;
    clock_is = λ s low. (kept.opened s low).clock_is;
  }

  module _ (b : Book) (is_book : IsBook opening b) (of_workers : AreOfWorkers (length counters) b) (stands : StandFor old counters b []) (goes_on : GoOn opening b (r ∷ []))
      (own : worker_of r < length counters) where
    pub longer : IsBook opening (b ++ r ∷ [])
    longer = longer_book opening b (r ∷ []) is_book goes_on

    pub workers_next : AreOfWorkers (length counters) (b ++ r ∷ [])
    workers_next = all-append (λ row. worker_of row < length counters) b (r ∷ []) of_workers (own, tt)

    few : length b < 2 ^ 59
    few =
        let most = size_at_most b MOST_COMMITS (length counters) of_workers (λ w low.
        let of = stands.counts w low in let own_most = kept.most w low in omega (arith, of.items, of.bids, of.comments, of.buys, own_most.stored, own_most.commits)) in
        omega (arith, most, kept.few_workers)

    -- the row can be written on the shards
    pub can : CanWriteOn old r
    can = can_write opening old old r ready b stands.shards goes_on few

module _ (opening : Opening) (limit : ℕ) (old new : List Shard) (counters : List Counters) (r : Row) (kept : IsKept opening limit (map state_of old) counters)
    (done : HaveDone (map state_of old) (map state_of new) (writes_of r)) (own : worker_of r < length counters) where
  pub stand_more : (b : Book) → StandFor (map state_of old) counters b [] → StandFor (map state_of new) (with_counted r counters) (b ++ r ∷ []) []
  stand_more b stands = record {
    shards = stand_next opening (map state_of old) (map state_of new) r (ready opening limit (map state_of old) counters r kept) done b stands.shards;
    counts = counts_next counters r own b stands.counts;
  }

  -- and then they are kept
  pub kept_more : (counters_at counters (worker_of r)).commits < limit → (b : Book) → IsBook opening b → AreOfWorkers (length counters) b → StandFor (map state_of old) counters b [] → GoOn opening b (r ∷ [])
      → IsKept opening limit (map state_of new) (with_counted r counters)
  kept_more room b is_book of_workers stands goes_on =
      let many = as_many counters r own in
      let now = ready_next opening (map state_of old) (map state_of new) r (ready opening limit (map state_of old) counters r kept) done in
      let most = most_next counters r own kept.most (omega (arith, room, kept.last)) in
      let of_a_book : AreOfABook opening (map state_of new) (with_counted r counters) = λ none.
      none (b ++ r ∷ []) (longer opening limit (map state_of old) counters r kept b is_book of_workers stands goes_on own)
      (subst (λ n. AreOfWorkers n (b ++ r ∷ [])) (sym many) (workers_next opening limit (map state_of old) counters r kept b is_book of_workers stands goes_on own)) (stand_more b stands) in
      let few : length (with_counted r counters) ≤ 16 = omega (arith, many, kept.few_workers) in record {
        some_shards = omega (arith, done.len, kept.some_shards);
        few_shards = omega (arith, done.len, kept.few_shards);
        some_workers = omega (arith, many, kept.some_workers);
        few_workers = few;
        opened = are_opened opening new (with_counted r counters) now few most of_a_book;
        opening_is = now.opening_is;
        last = kept.last;
        most = most;
        of_a_book = of_a_book;
      }

-- ---- a state

-- the state with other shards and counters
abbrev pub with_parts : JoinedState → List Shard → List Counters → JoinedState
with_parts state shards counters = joined_of state.opening state.limit state.phase shards counters

module _ (state : JoinedState) (r : Row) (kept : IsKept state.opening state.limit (states_of state) state.counters) (take : CanTake state r) where
  own_book : AreOfWorkers (length state.counters) take.book
  own_book = recursion_from_All (λ row. worker_of row < length state.counters) take.book take.is_of.own

  pub writes : CanWriteOn (states_of state) r
  writes = can state.opening state.limit (states_of state) state.counters r kept take.book take.is_of.is_book own_book take.is_of.stands take.goes_on take.own

  pub room : HaveRoom (counters_at state.counters (worker_of r))
  room = have_room (counters_at state.counters (worker_of r)) (kept.most (worker_of r) take.own).stored state.limit kept.last take.room

  module _ (new : List Shard) (done : HaveDone (states_of state) (map state_of new) (writes_of r)) where
    -- with the row it is kept
    pub kept_taken : IsKept state.opening state.limit (map state_of new) (with_counted r state.counters)
    kept_taken = kept_more state.opening state.limit state.shards new state.counters r kept done take.own take.room take.book take.is_of.is_book own_book take.is_of.stands take.goes_on

    -- and of each book on which the row goes
    pub book_taken : (b : Book) → IsBookOf state b → GoOn state.opening b (r ∷ []) → IsBookOf (with_parts state new (with_counted r state.counters)) (b ++ r ∷ [])
    book_taken b of goes_on = record {
      is_book = longer_book state.opening b (r ∷ []) of.is_book goes_on;
      own = subst (λ n. All (λ row. worker_of row < n) (b ++ r ∷ [])) (sym (as_many state.counters r take.own)) (All-from_recursion (λ row. worker_of row < length state.counters) (b ++ r ∷ [])
          (all-append (λ row. worker_of row < length state.counters) b (r ∷ []) (recursion_from_All (λ row. worker_of row < length state.counters) b of.own) (take.own, tt)));
      stands = stand_more state.opening state.limit state.shards new state.counters r kept done take.own b of.stands;
    }

-- what a counted row leaves of counters of which one is read and put back
pub counted_back : (r : Row) (counters : List Counters) (w : ℕ) (now before : Counters) → w ≡ worker_of r → w < length counters → before ≡ get_or counters w before → now ≡ with_row r before
    → set counters w now ≡ with_counted r counters
counted_back r counters w now before is low read counts =
    ap (set counters w) (counts ∙ ap (with_row r) (get_or_read counters w before low read no_counters)) ∙ ap (λ n. set counters n (with_row r (counters_at counters n))) is

-- ---- replies

-- what is not refused and adds no row is a view
pub view_without_row : (view : Bool) (refused : Option Refusal) (row : Option Row) → is_some row ≡ (not view && is_none refused) → refused ≡ None → row ≡ None → view ≡ true
view_without_row true refused row made accepted none = refl
view_without_row false None None made accepted none = absurd (false≢true made)
view_without_row false None (Some row) made accepted none = absurd (none-some row (sym none))
view_without_row false (Some reason) row made accepted none = absurd (none-some reason (sym accepted))
