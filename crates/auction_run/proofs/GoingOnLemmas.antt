-- A run that goes on from a state begins with it, and leaves one from which a run can go on.
use Rattle.std.proofs.Common.{◌≡◌, ℕ, ◌+◌, ◌<◌, ◌≤◌, ◌==◌, ◌⊎◌, cond, List, [], ◌∷◌, ◌++◌, Some, None, length, slice_get, All, refl, subst, sym, ap, ◌∙◌, inl, inr, arith}
use Rattle.std.proofs.lemmas.Bool.{cases_lt}
use Rattle.std.proofs.lemmas.List.Elements.{All-from_recursion, recursion_from_All}
use Rattle.std.{proofs.lemmas.List.Sums.{sum_by-append}, specs.List.{AllByRecursion}}
use Rattle.std.specs.Prelude.{Result, Ok, Err, IfOk}
use Rattle.phase_laws.proofs.{ListLemmas.{all-append}, OrderLemmas.{all-weaker}}
use Rattle.auction_rows.proofs.HistoryLemmas.{book_after-replays, longer_book, rows_go_on}
use Rattle.auction_rows.specs.Book.{Book, items_stored, bids_stored, comments_stored, buys_stored, worker_of}
use Rattle.auction_rows.specs.History.{IsBook, book_after, rows_of}
use Rattle.auction_rows.specs.declared.{limits.Policy.Policy, values.Opening.Opening, requests.Request.Request, rows.Entry.Entry}
use Rattle.item_shards.specs.OpeningRows.{rows_by}
use Rattle.closing_laws.specs.Standing.{counters_at, stores}
use Rattle.phase_floor.proofs.{BookSize.{one_more}, NextRunLemmas.{at_next, many}}
use Rattle.phase_floor.specs.{NextRun.{for_next_run}, Resuming.{counters_in}}
use Rattle.phase_floor.specs.States.{JoinedState, StandsFor, IsBookOf}
use Rattle.run_laws.{proofs.ScriptLemmas.{past_end}, specs.Serving.{script_of}}
use Rattle.run_phases.proofs.BoardLemmas.{rows_workers}
use Rattle.run_phases.specs.{Beginning.{AreShort, HaveWorkers, BeginsWith}, Outcomes.{IsOutcome}}
use Rattle.run_phases.specs.declared.course.Outcome.{Outcome}
use Rattle.auction_run.specs.GoingOn.{IsReadyFor}

-- what follows of a value from two facts
pub of_both : {X E : Type 0} (r : Result X E) (P Q S : X → Type 0) → ((x : X) → P x → Q x → S x) → IfOk r P → IfOk r Q → IfOk r S
of_both (Ok x) P Q S so p q = so x p q
of_both (Err e) P Q S so p q = tt

-- ---- the book of a state

-- each row is of one kind
rows_counted : (book : Book) (w : ℕ) → rows_by book w ≡ items_stored book w + bids_stored book w + comments_stored book w + buys_stored book w
rows_counted [] w = omega arith
rows_counted (one ∷ book) w =
    let rest = rows_counted book w in let more = one_more one book w in
    let rows : rows_by (one ∷ book) w ≡ (0 + cond (worker_of one == w) 1 0) + rows_by book w = sum_by-append (λ x. cond (worker_of x == w) 1 0) (one ∷ []) book in
    omega (arith, rest, more, rows)

-- a worker's counters count its rows of each book of the state
pub stored : (state : JoinedState) (rows : Book) → StandsFor state rows → (w : ℕ) → w < length state.counters → stores (counters_at state.counters w) ≡ rows_by rows w
stored state rows stands w low =
    let counts = stands.counts w low in
    omega (arith, rows_counted rows w, counts.items, counts.bids, counts.comments, counts.buys)

-- ---- where a run begins

-- a run begins with what a state is for it
pub begins_next : (state : JoinedState) (rows : Book) (policy : Policy) (scripts : List (List Request)) → IsBookOf state rows → length scripts ≤ 16 →
    IsReadyFor state policy scripts → StandsFor (for_next_run state) rows → BeginsWith (for_next_run state) rows policy scripts
begins_next state rows policy scripts of few ready stands =
    let has = ready.0 in record {
      is_book = of.is_book;
      few = few;
      own = subst (λ n. All (λ row. worker_of row < n) rows) (sym has) of.own;
      short = λ w known. let is = stored state rows of.stands w (omega (arith, known, has)) in let both = ready.1.1.1 w known in (both.0, omega (arith, both.1, is));
      stands = stands;
      phase_is = refl;
      shards_are = sym ready.1.0;
      workers_are = many state.counters ∙ sym has;
      commits = λ w known. ap (λ counters. counters.commits) (at_next state.counters w) ∙ stored state rows of.stands w (omega (arith, known, has));
    }

-- under the names that a call has for the state and the scripts
pub begins_of : (state new : JoinedState) (rows : Book) (policy : Policy) (checked scripts : List (List Request)) → IsBookOf state rows → checked ≡ scripts →
    length checked ≤ 16 → IsReadyFor state policy checked → new ≡ for_next_run state → ((book : Book) → StandsFor state book → StandsFor new book) → BeginsWith new rows policy scripts
begins_of state new rows policy checked scripts of same few ready is stands =
    subst (BeginsWith new rows policy) same
    (subst (λ s. BeginsWith s rows policy checked) (sym is)
    (begins_next state rows policy checked of few ready (subst (λ s. StandsFor s rows) is (stands rows of.stands))))

-- a run begins with the state that an opening book leaves
pub begins_resumed : (opening : Opening) (rows : Book) (policy : Policy) (scripts : List (List Request)) (state : JoinedState) (workers : ℕ) →
    state.opening ≡ opening → state.limit ≡ 1000000 → state.phase ≡ 0 → length state.shards ≡ policy.shards → length state.counters ≡ workers → length scripts ≡ workers →
    ((w : ℕ) → w < workers → counters_at state.counters w ≡ counters_in rows w) → StandsFor state rows →
    IsBook opening rows → HaveWorkers rows scripts → AreShort rows scripts → BeginsWith state rows policy scripts
begins_resumed opening rows policy scripts state workers opening_is limit phase shards many as_many counters stands is_book have short = record {
  is_book = subst (λ o. IsBook o rows) (sym opening_is) is_book;
  few = have.few;
  own = have.own;
  short = λ w known. let both = short w known in (omega (arith, both), omega (arith, both, limit));
  stands = stands;
  phase_is = phase;
  shards_are = shards;
  workers_are = many ∙ sym as_many;
  commits = λ w known. ap (λ cs. cs.commits) (counters w (omega (arith, known, as_many)));
}

-- ---- what a run leaves

-- each entry of a run is of a worker that has a script
module _ (scripts : List (List Request)) where
  known_one : (e : Entry) → slice_get (script_of scripts e.worker) e.index ≡ Some e.request → (e.worker < length scripts) ⊎ (length scripts ≤ e.worker) → e.worker < length scripts
  known_one e there (inl below) = below
  known_one e there (inr past) =
      let none : None ≡ Some e.request = ap (λ script. slice_get script e.index) (sym (past_end scripts e.worker past)) ∙ there in absurd (cc none)

  known_all : (history : List Entry) → AllByRecursion (λ e. slice_get (script_of scripts e.worker) e.index ≡ Some e.request) history → AllByRecursion (λ e. e.worker < length scripts) history
  known_all history requests = all-weaker (λ e. slice_get (script_of scripts e.worker) e.index ≡ Some e.request) (λ e. e.worker < length scripts)
      (λ e there. known_one e there (cases_lt e.worker (length scripts))) history requests

-- what is left of a run from a book has the book after it
pub left_book : (opening : Opening) (rows : Book) (policy : Policy) (scripts : List (List Request)) →
    IsBook opening rows → All (λ row. worker_of row < length scripts) rows → (outcome : Outcome) → IsOutcome opening rows policy scripts outcome →
    IsBookOf outcome.state (book_after opening rows outcome.history.entries)
left_book opening rows policy scripts is_book own outcome is =
    let es = outcome.history.entries in
    let after : book_after opening rows es ≡ rows ++ rows_of es = book_after-replays opening rows es is.replays in
    let workers : AllByRecursion (λ row. worker_of row < length scripts) (rows ++ rows_of es) =
    all-append (λ row. worker_of row < length scripts) rows (rows_of es) (recursion_from_All (λ row. worker_of row < length scripts) rows own)
    (rows_workers (λ w. w < length scripts) opening rows es is.replays (known_all scripts es is.serves.requests)) in record {
      is_book = subst (λ o. IsBook o (book_after opening rows es)) (sym is.opening_is)
          (subst (IsBook opening) (sym after) (longer_book opening rows (rows_of es) is_book (rows_go_on opening rows es is.replays)));
      own = subst (λ book. All (λ row. worker_of row < length outcome.state.counters) book) (sym after)
          (subst (λ n. All (λ row. worker_of row < n) (rows ++ rows_of es)) (sym is.counters)
          (All-from_recursion (λ row. worker_of row < length scripts) (rows ++ rows_of es) workers));
      stands = is.stands;
    }
