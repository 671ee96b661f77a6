-- What is kept between phases is kept by a phase that closes.
use Rattle.std.proofs.Common.{◌≡◌, ℕ, zero, suc, ◌*◌, ◌<◌, ◌≤◌, ◌==◌, Bool, true, false, cond, List, [], ◌∷◌, map, length, refl, sym, ap, ◌∙◌, subst, arith, unsigned_abs}
use Rattle.std.proofs.{Math.ListN.{get_or-map}, lemmas.{Bool.{eqb-true}, Int.{ints}}}
use Rattle.std.proofs.lemmas.List.{length-map}
use Rattle.auction_rows.specs.{Book.{Book}, History.{book_after}, Requests.{shard_of}}
use Rattle.auction_rows.specs.declared.requests.Object.TheVariants.{Item, User}
use Rattle.auction_rows.specs.declared.{values.Opening.Opening, requests.Object.Object, rows.Entry.Entry}
use Rattle.item_shards.proofs.CountLemmas.{bids_at_most, comments_at_most, rating_at_most}
use Rattle.item_shards.specs.{ShardContents.{kept}, Values.{Value, blank, value}}
use Rattle.item_shards.specs.declared.shard.Shard.{Shard}
use Rattle.shard_boxes.specs.States.{ShardState, state_of, state_at, IsWithin, AreInitial}
use Rattle.shard_boxes.specs.declared.limits.TheConstants.{MOST_COMMITS, MOST_KEPT}
use Rattle.worker_slices.specs.declared.counters.Counters.{Counters}
use Rattle.phase_transactions.specs.Workers.{WorkerState}
use Rattle.closing_laws.proofs.CommitLemmas.{book_left, stores_few, workers_go_on}
use Rattle.closing_laws.specs.Phases.{HasClosed, receipt_at, counters_of}
use Rattle.closing_laws.specs.Standing.{StandFor, AreOfWorkers, counters_at}
use Rattle.phase_floor.{proofs.BookSize.{size_at_most}, specs.Closings.{AreReceiptsOf, phase_of}}
use Rattle.phase_floor.specs.Floors.{FloorState, IsOpen}
use Rattle.phase_floor.specs.States.{IsKept, IsWithinMost, AreWithinMost, AreOfABook}
use Rattle.phase_floor.specs.inner.Rows.{AreReady}

-- A shard keeps nothing of what lies elsewhere.

elsewhere : (shards : List Shard) (s : ℕ) → s < length shards → (object : Object)
    → (shard_of object (state_at (map state_of shards) s).shards == (state_at (map state_of shards) s).number) ≡ false
    → (state_at (map state_of shards) s).contents object ≡ blank
elsewhere [] s below object apart = absurd (omega arith)
elsewhere (shard ∷ shards) zero below object apart = ap (λ b. cond b (kept shard object) blank) apart
elsewhere (shard ∷ shards) (suc s) below object apart = elsewhere shards s (omega (arith, below)) object apart

module _ (opening : Opening) (shards : List Shard) (counters : List Counters) (ready : AreReady opening (map state_of shards))
    (few : length counters ≤ 16) (most : AreWithinMost counters) (of_a_book : AreOfABook opening (map state_of shards) counters) where
  -- of a book for which they stand
  size : (book : Book) → AreOfWorkers (length counters) book → StandFor (map state_of shards) counters book [] → length book ≤ MOST_KEPT
  size book own holds =
      let all = size_at_most book MOST_COMMITS (length counters) own (λ w low.
      let counts = holds.counts w low in let its = most w low in omega (arith, counts.items, counts.bids, counts.comments, counts.buys, its.stored, its.commits)) in
      omega (arith, all, few)

  -- what holds of blank values and of those of a book for which they stand holds of theirs
  module _ (s : ℕ) (below : s < length (map state_of shards)) (object : Object) (measure : Value → ℕ) (top : ℕ) (none : measure blank ≤ top)
      (some : (book : Book) → length book ≤ MOST_KEPT → measure (value book object) ≤ top) where
    abbrev state : ShardState
    state = state_at (map state_of shards) s

    over : top < measure (state.contents object) → (book : Book) → AreOfWorkers (length counters) book → StandFor (map state_of shards) counters book [] → ⊥
    over more book own holds = at (shard_of object state.shards == state.number) refl where
      at : (b : Bool) → (shard_of object state.shards == state.number) ≡ b → ⊥
      at true here =
          let lies : shard_of object (length (map state_of shards)) ≡ s =
          ap (shard_of object) (sym (ready.numbered s below).1) ∙ eqb-true (shard_of object state.shards) state.number here ∙ (ready.numbered s below).0 in
          let is : measure (state.contents object) ≡ measure (value book object) = ap measure (holds.shards s below object lies refl) in
          let low = some book (size book own holds) in
          omega (arith, is, low, more)
      at false apart =
          let same : length (map state_of shards) ≡ length shards = simp length-map in
          let is : measure (state.contents object) ≡ measure blank = ap measure (elsewhere shards s (omega (arith, below, same)) object apart) in
          omega (arith, is, none, more)

    measured : measure (state.contents object) ≤ top
    measured =
        let not_over : ¬ (top < measure (state.contents object)) = λ more. of_a_book (λ book is own holds. over more book own holds) in
        omega (arith, not_over)

  within : (s : ℕ) → s < length (map state_of shards) → IsWithin (state_at (map state_of shards) s)
  within s below = record {
    bids = λ id. let m = measured s below (Item id) (λ v. v.bids.bids) MOST_KEPT (omega arith) (λ book small. let some = bids_at_most book id in omega (arith, some, small)) in omega (arith, m);
    comments = λ user. let m = measured s below (User user) (λ v. v.comments.comments) MOST_KEPT (omega arith) (λ book small. let some = comments_at_most book user in omega (arith, some, small)) in omega (arith, m);
    ratings = λ user. let m = measured s below (User user) (λ v. unsigned_abs v.comments.rating) (5 * MOST_KEPT) (omega (arith, ints)) (λ book small. let some = rating_at_most book user in omega (arith, some, small)) in omega (arith, m);
  }

  pub are_opened : AreInitial (map state_of shards)
  are_opened = λ s below. record {
    number_is = (ready.numbered s below).0;
    shards_is = (ready.numbered s below).1;
    clock_is = ready.clock_is s below;
    within = within s below;
  }

module _ (initial : List ShardState) (workers : ℕ) (floor : FloorState) (is_open : IsOpen initial workers floor) (receipts : List WorkerState) (are : AreReceiptsOf floor receipts)
    (given : List ShardState) (entries : List Entry) (closed : HasClosed (phase_of initial floor receipts given entries))
    (most : (w : ℕ) → w < length receipts → (counters_of (receipt_at receipts w)).commits ≤ MOST_COMMITS) where
  -- the counters of a worker after the phase
  pub counted : (w : ℕ) → w < length receipts → counters_of (receipt_at receipts w) ≡ counters_at (map counters_of receipts) w
  counted w below = sym (get_or-map counters_of receipts w _)

  many : length (map counters_of receipts) ≡ length receipts
  many = simp length-map

  most_after : AreWithinMost (map counters_of receipts)
  most_after w low =
      let below : w < length receipts = omega (arith, low, many) in
      subst IsWithinMost (counted w below) (record {
        stored = stores_few (phase_of initial floor receipts given entries) closed w below (is_open.kept.most w (omega (arith, below, are.0))).stored;
        commits = most w below;
      })

  module _ (shards : List Shard) (as_many : length (map state_of shards) ≡ length initial) (ready : AreReady floor.opening (map state_of shards))
      (stand : (book : Book) → StandFor initial floor.counters book [] → StandFor (map state_of shards) (map counters_of receipts) (book_after floor.opening book entries) []) where
    of_a_book_after : AreOfABook floor.opening (map state_of shards) (map counters_of receipts)
    of_a_book_after = λ none. is_open.kept.of_a_book (λ book is own holds.
        none (book_after floor.opening book entries) (book_left (phase_of initial floor receipts given entries) closed book holds is)
        (subst (λ n. AreOfWorkers n (book_after floor.opening book entries)) (sym many) (workers_go_on (phase_of initial floor receipts given entries) closed book holds own))
        (stand book holds))

    pub kept_after : IsKept floor.opening floor.limit (map state_of shards) (map counters_of receipts)
    kept_after =
        let few : length (map counters_of receipts) ≤ 16 = omega (arith, many, are.0, is_open.kept.few_workers) in record {
          some_shards = omega (arith, as_many, is_open.kept.some_shards);
          few_shards = omega (arith, as_many, is_open.kept.few_shards);
          some_workers = omega (arith, many, are.0, is_open.kept.some_workers);
          few_workers = few;
          opened = are_opened floor.opening shards (map counters_of receipts) ready few most_after of_a_book_after;
          opening_is = ready.opening_is;
          last = is_open.kept.last;
          most = most_after;
          of_a_book = of_a_book_after;
        }
