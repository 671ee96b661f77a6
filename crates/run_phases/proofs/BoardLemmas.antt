-- The rows of a run's phases follow one another, and are few.
use Rattle.std.proofs.Common.{◌≡◌, ℕ, zero, suc, ◌+◌, ◌*◌, ◌-◌, ◌<◌, ◌≤◌, ◌==◌, ◌⊎◌, Bool, true, false, cond, List, [], ◌∷◌, ◌++◌, Option, Some, None, map, length, slice_get, All, refl, subst, sym, ap, ◌∙◌, inl, inr, arith, append_assoc, length-append, eqb-true}
use Rattle.std.proofs.lemmas.Bool.{eq-eqb, ne_eqb, false≢true, cases_lt}
use Rattle.std.proofs.lemmas.List.{append-nil, length-map}
use Rattle.std.proofs.lemmas.List.Elements.{All-from_recursion, recursion_from_All, filter-append, filter_map-append}
use Rattle.std.proofs.lemmas.List.Sums.{length-filter}
use Rattle.std.specs.List.{filter, AllByRecursion, cons_option}
use Rattle.auction_rows.proofs.HistoryLemmas.{book_after-replays, longer_book, rows_go_on}
use Rattle.auction_rows.specs.Book.{Book, worker_of}
use Rattle.auction_rows.specs.History.{IsBook, ReplaysFrom, after_entry, book_after, row_of_entry, rows_of}
use Rattle.auction_rows.specs.Replies.{row_of}
use Rattle.auction_rows.specs.declared.{limits.Policy.Policy, values.Opening.Opening, requests.Request.Request, rows.Row.Row, rows.Entry.Entry}
use Rattle.item_shards.proofs.{CountLemmas.{of_kind}, SerialLemmas.{worker_of_added}}
use Rattle.item_shards.specs.{OpeningRows.{rows_by}, Serial.{CanFollow}}
use Rattle.phase_floor.specs.States.{JoinedState, IsBookOf}
use Rattle.phase_boards.{proofs.BookLemmas.{book_of-snoc}, specs.Boards.{book_of, CanShow}}
use Rattle.phase_laws.proofs.ListLemmas.{all-append, all-both, all-kept, all-right, filter_false}
use Rattle.phase_laws.{proofs.OrderLemmas.{all-weaker, all-from_map}, specs.Order.{part}}
use Rattle.run_laws.proofs.CallLemmas.{requests_in_turns}
use Rattle.run_laws.proofs.ClosedLemmas.{none_chosen, none_numbered}
use Rattle.run_laws.proofs.CountLemmas.{how_many, how_many-is, count-append, count-map}
use Rattle.run_laws.proofs.{PartLemmas.{all_of_parts}, ScriptLemmas.{past_end}}
use Rattle.run_laws.proofs.{StepLemmas.{run_begins}, TurnLemmas.{length-numbered}}
use Rattle.run_laws.specs.{Run.{calls_of}, Serving.{script_of, segment_of, call_of, commit_phase}}
use Rattle.run_laws.specs.Turns.{numbered, turn, turns}
use Rattle.worker_journals.specs.Merged.{merged}
use Rattle.run_phases.specs.Beginning.{AreShort, AreShortFor}
use Rattle.run_phases.specs.Boards.{HasShownAfter, IsUpToDate, phase_rows}
use Rattle.run_phases.specs.{Outcomes.{HasShownFirstAfter}, Phases.{hot_sets}}
use Rattle.run_phases.specs.declared.faults.RunFault.{TheVariants.{Memory}, RunFault}
use Rattle.run_phases.specs.{declared.phase.Running.{Running}, inner.Plans.{waiting_in}}
use Rattle.run_phases.specs.inner.Running.{IsRunning}

-- ---- numbers, counted one by one

-- how many of the numbers are below one
abbrev total : ℕ → List ℕ → ℕ
total zero ns = 0
total (suc k) ns = how_many (λ n. n == k) ns + total k ns

total_without : (k n : ℕ) (ns : List ℕ) → k ≤ n → total k (n ∷ ns) ≡ total k ns
total_without zero n ns out = refl
total_without (suc k) n ns out = at (n == k) refl (total_without k n ns (omega (arith, out))) where
  at : (b : Bool) → (n == k) ≡ b → total k (n ∷ ns) ≡ total k ns → total (suc k) (n ∷ ns) ≡ total (suc k) ns
  at true e rest = absurd (omega (arith, eqb-true n k e, out))
  at false e rest = omega (arith, ap (λ b. cond b 1 0 + how_many (λ m. m == k) ns) e, rest)

total_with : (k n : ℕ) (ns : List ℕ) → n < k → total k (n ∷ ns) ≡ total k ns + 1
total_with zero n ns below = absurd (omega (arith, below))
total_with (suc k) n ns below = at (n == k) refl (total_with k n ns) where
  at : (b : Bool) → (n == k) ≡ b → (n < k → total k (n ∷ ns) ≡ total k ns + 1) → total (suc k) (n ∷ ns) ≡ total (suc k) ns + 1
  at true e rest = omega (arith, ap (λ b. cond b 1 0 + how_many (λ m. m == k) ns) e, total_without k n ns (omega (arith, eqb-true n k e)))
  at false e rest =
      let other : n ≡ k → ⊥ = λ same. false≢true (sym e ∙ eq-eqb n k same) in
      omega (arith, ap (λ b. cond b 1 0 + how_many (λ m. m == k) ns) e, rest (omega (arith, below, other)))

total_of_none : (k : ℕ) → total k [] ≡ 0
total_of_none zero = refl
total_of_none (suc k) = omega (arith, total_of_none k)

all_counted : (k : ℕ) (ns : List ℕ) → AllByRecursion (λ n. n < k) ns → length ns ≡ total k ns
all_counted k [] known = sym (total_of_none k)
all_counted k (n ∷ ns) known = omega (arith, all_counted k ns known.1, total_with k n ns known.0)

total_within : (k : ℕ) (ns : List ℕ) → total k ns ≤ length ns
total_within k [] = omega (arith, total_of_none k)
total_within k (n ∷ ns) = go (cases_lt n k) (total_within k ns) where
  go : (n < k) ⊎ (k ≤ n) → total k ns ≤ length ns → total k (n ∷ ns) ≤ length (n ∷ ns)
  go (inl below) rest = omega (arith, total_with k n ns below, rest)
  go (inr out) rest = omega (arith, total_without k n ns out, rest)

total_at_most : (k : ℕ) (ns : List ℕ) → ((n : ℕ) → n < k → how_many (λ m. m == n) ns ≤ 1000000) → total k ns ≤ k * 1000000
total_at_most zero ns few = omega arith
total_at_most (suc k) ns few = omega (arith, few k (omega arith), total_at_most k ns (λ n below. few n (omega (arith, below))))

kept_length : {X : Type 0} (p : X → Bool) (xs : List X) → length (filter p xs) ≡ how_many p xs
kept_length p xs = length-filter p xs ∙ sym (how_many-is p xs)

-- ---- turns are no more than the script

turns_counted : {R : Type 0} (commit : ℕ × R → ℕ) (n : ℕ) (script : List R) → length (turns commit n script) ≡ total n (map commit (numbered 0 script))
turns_counted commit zero script = refl
turns_counted commit (suc n) script =
    let now : length (turn commit n script) ≡ how_many (λ m. m == n) (map commit (numbered 0 script)) = kept_length (λ call. commit call == n) (numbered 0 script) ∙ sym (count-map commit (λ m. m == n) (numbered 0 script)) in
    omega (arith, length-append (turns commit n script) (turn commit n script), turns_counted commit n script, now)

turns_few : {R : Type 0} (commit : ℕ × R → ℕ) (n : ℕ) (script : List R) → length (turns commit n script) ≤ length script
turns_few commit n script =
    let same : length (map commit (numbered 0 script)) ≡ length script = length-map (numbered 0 script) commit ∙ length-numbered 0 script in
    omega (arith, turns_counted commit n script, total_within n (map commit (numbered 0 script)), same)

-- ---- the rows of entries

rows_few : (es : List Entry) → length (rows_of es) ≤ length es
rows_few es = of_kind row_of_entry es

-- a row is of its entry's worker
pub rows_workers : (P : ℕ → Type 0) (opening : Opening) (book : Book) (es : List Entry) → ReplaysFrom opening book es → AllByRecursion (λ e. P e.worker) es → AllByRecursion (λ r. P (worker_of r)) (rows_of es)
rows_workers P opening book [] replays all = tt
rows_workers P opening book (e ∷ es) replays all = at (row_of_entry e) refl (rows_workers P opening (after_entry opening book e) es replays.1 all.1) where
  at : (o : Option Row) → row_of_entry e ≡ o → AllByRecursion (λ r. P (worker_of r)) (rows_of es) → AllByRecursion (λ r. P (worker_of r)) (cons_option o (rows_of es))
  at None is rest = rest
  at (Some r) is rest = (subst P (sym (worker_of_added opening book e.worker e.request r (ap (row_of e.worker e.request) (sym replays.0) ∙ is))) all.0, rest)

-- ---- the phases of a run

of_phase : (p : ℕ) (history es : List Entry) → segment_of p history ≡ es → AllByRecursion (λ e. e.phase ≡ p) es
of_phase p history es is =
    subst (AllByRecursion (λ e. e.phase ≡ p)) is (all-weaker (λ e. (e.phase == p) ≡ true) (λ e. e.phase ≡ p) (λ e same. eqb-true e.phase p same) (segment_of p history) (all-kept (λ e. e.phase == p) history))

-- entries of a later phase leave the rows of those before it
earlier_rows : (n p : ℕ) (history es : List Entry) → n ≤ p → AllByRecursion (λ e. e.phase ≡ p) es → phase_rows n (history ++ es) ≡ phase_rows n history
earlier_rows zero p history es low now = refl
earlier_rows (suc n) p history es low now =
    let none : segment_of n es ≡ [] = filter_false (λ e. e.phase == n) es (all-weaker (λ e. e.phase ≡ p) (λ e. (e.phase == n) ≡ false) (λ e is. ne_eqb e.phase n (λ same. omega (arith, is, same, low))) es now) in
    let same : segment_of n (history ++ es) ≡ segment_of n history = filter-append (λ e. e.phase == n) history es ∙ ap (λ xs. segment_of n history ++ xs) none ∙ append-nil (segment_of n history) in
    (λ i. earlier_rows n p history es (omega (arith, low)) now i ++ rows_of (same i) ∷ [])

pub rows_length : (n : ℕ) (history : List Entry) → length (phase_rows n history) ≡ n
rows_length zero history = refl
rows_length (suc n) history = omega (arith, length-append (phase_rows n history) (rows_of (segment_of n history) ∷ []), rows_length n history)

module _ (opening : Opening) (rows : Book) (is_book : IsBook opening rows) (policy : Policy) (scripts : List (List Request)) (workers : length scripts ≤ 16)
    (own : All (λ row. worker_of row < length scripts) rows)
    (p : ℕ) (next : Running) (run : IsRunning opening rows policy scripts (suc p) next) where
  abbrev commit : ℕ × Request → ℕ
  commit = commit_phase policy (hot_sets next.hot.items)

  abbrev history : List Entry
  history = next.history.entries

  -- each entry is of a worker that has a script
  known : AllByRecursion (λ e. e.worker < length scripts) history
  known = all_of_parts (λ e. e.worker) (λ e. e.worker < length scripts) history
      (λ w. all-weaker (λ e. ((e.worker == w) ≡ true) × (slice_get (script_of scripts w) e.index ≡ Some e.request)) (λ e. e.worker < length scripts)
      (λ e both. at e w (eqb-true e.worker w both.0) both.1 (cases_lt w (length scripts))) (part (λ e. e.worker) w history)
      (all-both (λ e. (e.worker == w) ≡ true) (λ e. slice_get (script_of scripts w) e.index ≡ Some e.request) (part (λ e. e.worker) w history) (all-kept (λ e. e.worker == w) history)
      (all-from_map call_of (λ call. slice_get (script_of scripts w) call.0 ≡ Some call.1) (part (λ e. e.worker) w history)
      (subst (AllByRecursion (λ call. slice_get (script_of scripts w) call.0 ≡ Some call.1)) (sym (run.run.done w)) (requests_in_turns commit (suc p) (script_of scripts w))))))
    where
      at : (e : Entry) (w : ℕ) → e.worker ≡ w → slice_get (script_of scripts w) e.index ≡ Some e.request → (w < length scripts) ⊎ (length scripts ≤ w) → e.worker < length scripts
      at e w same there (inl below) = omega (arith, same, below)
      at e w same there (inr past) =
          let none : None ≡ Some e.request = ap (λ script. slice_get script e.index) (sym (past_end scripts w past)) ∙ there in absurd (cc none)

  -- the rows and the entries are no more than 1,000,000 of each worker
  abbrev all_workers : List ℕ
  all_workers = map worker_of rows ++ map (λ e. e.worker) history

  each : AreShort rows scripts → (w : ℕ) → w < length scripts → how_many (λ m. m == w) all_workers ≤ 1000000
  each short w below =
      let both = count-append (λ m. m == w) (map worker_of rows) (map (λ e. e.worker) history) in
      let first : how_many (λ m. m == w) (map worker_of rows) ≡ rows_by rows w = count-map worker_of (λ m. m == w) rows ∙ how_many-is (λ row. worker_of row == w) rows in
      let second : how_many (λ m. m == w) (map (λ e. e.worker) history) ≡ length (calls_of w history) =
      count-map (λ e. e.worker) (λ m. m == w) history ∙ sym (kept_length (λ e. e.worker == w) history) ∙ sym (length-map (part (λ e. e.worker) w history) call_of) in
      let few : length (calls_of w history) ≤ length (script_of scripts w) = subst (λ calls. length calls ≤ length (script_of scripts w)) (sym (run.run.done w)) (turns_few commit (suc p) (script_of scripts w)) in
      omega (arith, both, first, second, few, short w below)

  all_below : AllByRecursion (λ n. n < length scripts) all_workers
  all_below = all-append (λ n. n < length scripts) (map worker_of rows) (map (λ e. e.worker) history)
      (onto worker_of rows (recursion_from_All (λ row. worker_of row < length scripts) rows own)) (onto (λ e. e.worker) history known) where
        onto : {X : Type 0} (f : X → ℕ) (xs : List X) → AllByRecursion (λ x. f x < length scripts) xs → AllByRecursion (λ n. n < length scripts) (map f xs)
        onto f [] h = tt
        onto f (x ∷ xs) h = (h.0, onto f xs h.1)

  few : AreShort rows scripts → length rows + length (rows_of history) ≤ 16000000
  few short =
      let counted = all_counted (length scripts) all_workers all_below in
      let most = total_at_most (length scripts) all_workers (each short) in
      let long = length-append (map worker_of rows) (map (λ e. e.worker) history) in
      omega (arith, counted, most, long, length-map rows worker_of, length-map history (λ e. e.worker), rows_few history, workers)

  module _ (old : List Entry) (grown : history ≡ old ++ merged next.history.last) where
    abbrev es : List Entry
    es = merged next.history.last

    last : es ≡ segment_of p history
    last = sym run.last_entries ∙ run.last ∙ (let e : suc p - 1 ≡ p = omega arith in ap (λ n. segment_of n history) e)

    rows_now : rows_of history ≡ rows_of old ++ rows_of es
    rows_now = ap rows_of grown ∙ filter_map-append row_of_entry old es

    now : AllByRecursion (λ e. e.phase ≡ p) es
    now = of_phase p history es (sym last)

    -- the rows of the last phase follow those of the phases before it
    can_follow : AreShort rows scripts → CanFollow opening (rows ++ rows_of old) (rows_of es)
    can_follow short = record {
      is_book = subst (IsBook opening) (ap (λ rs. rows ++ rs) rows_now ∙ sym (append_assoc rows (rows_of old) (rows_of es)))
          (longer_book opening rows (rows_of history) is_book (rows_go_on opening rows history run.replayed.replays));
      workers = All-from_recursion (λ row. worker_of row < 16) (rows_of es)
          (all-right (λ row. worker_of row < 16) (rows_of old) (rows_of es)
          (subst (AllByRecursion (λ row. worker_of row < 16)) rows_now
          (rows_workers (λ w. w < 16) opening rows history run.replayed.replays
          (all-weaker (λ e. e.worker < length scripts) (λ e. e.worker < 16) (λ e below. omega (arith, below, workers)) history known))));
      few = omega (arith, few short, length-append rows (rows_of old), ap length rows_now, length-append (rows_of old) (rows_of es));
    }

    one_phase_more : phase_rows (suc p) history ≡ phase_rows p old ++ rows_of es ∷ []
    one_phase_more = (λ i. (ap (phase_rows p) grown ∙ earlier_rows p p old es (omega arith) now) i ++ rows_of (sym last i) ∷ [])

    module _ {B : Type 0} (has : B → Opening → Book → List (List Row) → Type 0) (board : B) (first : Book) (before : List (List Row)) (same : book_of first before ≡ rows)
        (shown : HasShownAfter has opening first before p old board) where
      book_now : book_of first (before ++ phase_rows p old) ≡ rows ++ rows_of old
      book_now = shown.book_is ∙ ap (λ book. book ++ rows_of old) same

      all_now : before ++ phase_rows (suc p) history ≡ (before ++ phase_rows p old) ++ rows_of es ∷ []
      all_now = ap (λ phases. before ++ phases) one_phase_more ∙ sym (append_assoc before (phase_rows p old) (rows_of es ∷ []))

      -- a board that has the phases before can be given the last one, if there are few rows
      pub can_show : (limit : ℕ) → limit ≤ 1000000 → AreShortFor limit rows scripts → CanShow has board (rows_of es)
      can_show limit low short = record {
        opening = opening;
        rows = first;
        phases = before ++ phase_rows p old;
        has_them = shown.has_them;
        follow = subst (λ book. CanFollow opening book (rows_of es)) (sym book_now) (can_follow (λ w below. omega (arith, low, (short w below).1)));
      }

      -- and then has all phases
      pub has_shown : (new : B) → ((opening : Opening) (rows : Book) (phases : List (List Row)) → has board opening rows phases → has new opening rows (phases ++ rows_of es ∷ [])) →
          HasShownAfter has opening first before (suc p) history new
      has_shown new given = record {
        has_them = subst (has new opening first) (sym all_now) (given opening first (before ++ phase_rows p old) shown.has_them);
        book_is = ap (book_of first) all_now ∙ book_of-snoc first (before ++ phase_rows p old) (rows_of es) ∙ ap (λ book. book ++ rows_of es) book_now
            ∙ append_assoc rows (rows_of old) (rows_of es) ∙ ap (λ rs. rows ++ rs) (sym rows_now) ∙ ap (λ book. book ++ rows_of history) (sym same);
      }

-- one phase takes a run one phase on, under the names that its plan has for the policy and the scripts
pub next_runs : (opening : Opening) (rows : Book) (is_book : IsBook opening rows) (policy own_policy : Policy) (scripts own_scripts : List (List Request)) (p : ℕ) (running next : Running) →
    own_policy ≡ policy → own_scripts ≡ scripts → IsRunning opening rows policy scripts p running →
    ((opening : Opening) (rows : Book) → IsBook opening rows → IsRunning opening rows own_policy own_scripts running.state.phase running →
    IsRunning opening rows own_policy own_scripts (suc running.state.phase) next) →
    IsRunning opening rows policy scripts (suc p) next
next_runs opening rows is_book policy own_policy scripts own_scripts p running next same_policy same_scripts run goes_on =
    subst (λ q. IsRunning opening rows policy scripts (suc q) next) run.phase_is
    (subst (λ po. IsRunning opening rows po scripts (suc running.state.phase) next) same_policy
    (subst (λ sc. IsRunning opening rows own_policy sc (suc running.state.phase) next) same_scripts
    (goes_on opening rows is_book
    (subst (λ po. IsRunning opening rows po own_scripts running.state.phase running) (sym same_policy)
    (subst (λ sc. IsRunning opening rows policy sc running.state.phase running) (sym same_scripts)
    (subst (λ q. IsRunning opening rows policy scripts q running) (sym run.phase_is) run))))))

-- before the first phase there are no entries
none_before : (es : List Entry) → AllByRecursion (λ e. e.phase < 0) es → es ≡ []
none_before [] none = refl
none_before (e ∷ es) none = absurd (omega (arith, none.0))

-- a board that has some phases has those of a run before its first after them
pub begins_shown : {B : Type 0} (has : B → Opening → Book → List (List Row) → Type 0) (opening : Opening) (rows : Book) (before : List (List Row)) (policy : Policy) (scripts : List (List Request))
    (running : Running) (board : B) → IsRunning opening (book_of rows before) policy scripts 0 running → has board opening rows before → HasShownAfter has opening rows before 0 running.history.entries board
begins_shown has opening rows before policy scripts running board run has_them = record {
  has_them = subst (has board opening rows) (sym (append-nil before)) has_them;
  book_is = ap (book_of rows) (append-nil before) ∙ sym (append-nil (book_of rows before))
      ∙ ap (λ es. book_of rows before ++ rows_of es) (sym (none_before running.history.entries run.run.phases_before));
}

-- ---- the first phases, where a run is refused

module _ {B : Type 0} (has has_refused : B → Opening → Book → List (List Row) → Type 0) (opening : Opening) (rows : Book) (before : List (List Row)) (policy : Policy)
    (scripts : List (List Request)) where
  -- a board that is given nothing has the first none of a run
  pub none_shown : (board : B) → has board opening rows before → (fault : RunFault) → HasShownFirstAfter has has_refused opening rows before policy scripts board fault
  none_shown board has_them fault = record {
    phase = 0;
    hot = [];
    history = [];
    stashes = λ worker. [];
    run = run_begins policy scripts;
    chosen = none_chosen policy;
    numbers = none_numbered opening policy;
    replays = tt;
    shown = inl (record {
      has_them = subst (has board opening rows) (sym (append-nil before)) has_them;
      book_is = ap (book_of rows) (append-nil before) ∙ sym (append-nil (book_of rows before));
    });
  }

  module _ (p : ℕ) (running : Running) (run : IsRunning opening (book_of rows before) policy scripts p running) where
    -- a board has those that it was shown, whether or not it refuses the next
    pub first_shown : (board : B) (fault : RunFault) → HasShownAfter has opening rows before p running.history.entries board
        ⊎ ((fault ≡ Memory) × HasShownAfter has_refused opening rows before p running.history.entries board) →
        HasShownFirstAfter has has_refused opening rows before policy scripts board fault
    first_shown board fault shown = record {
      phase = p;
      hot = hot_sets running.hot.items;
      history = running.history.entries;
      stashes = waiting_in running.stashes.items;
      run = run.run;
      chosen = run.chosen;
      numbers = run.numbers;
      replays = run.replayed.replays;
      shown = shown;
    }

    -- as when it was not shown the next
    pub not_shown : (old new : B) → HasShownAfter has opening rows before p running.history.entries old →
        ((opening : Opening) (rows : Book) (phases : List (List Row)) → has old opening rows phases → has new opening rows phases ⊎ has_refused new opening rows phases) →
        HasShownFirstAfter has has_refused opening rows before policy scripts new Memory
    not_shown old new shown left = first_shown new Memory (at (left opening rows (before ++ phase_rows p running.history.entries) shown.has_them)) where
      at : has new opening rows (before ++ phase_rows p running.history.entries) ⊎ has_refused new opening rows (before ++ phase_rows p running.history.entries) →
          HasShownAfter has opening rows before p running.history.entries new ⊎ ((Memory ≡ Memory) × HasShownAfter has_refused opening rows before p running.history.entries new)
      at (inl kept) = inl (record { has_them = kept; book_is = shown.book_is })
      at (inr refused) = inr (refl, record { has_them = refused; book_is = shown.book_is })

-- a board that has all phases of a run is up to date with the state that it left
pub up_to_date : {B : Type 0} (has : B → Opening → Book → List (List Row) → Type 0) (opening : Opening) (rows : Book) (before : List (List Row)) (phase : ℕ) (history : List Entry) (board : B)
    (state : JoinedState) → HasShownAfter has opening rows before phase history board → ReplaysFrom opening (book_of rows before) history →
    state.opening ≡ opening → state.limit ≤ 1000000 → IsBookOf state (book_after opening (book_of rows before) history) → IsUpToDate has board state
up_to_date has opening rows before phase history board state shown replays same few book = record {
  rows = rows;
  phases = before ++ phase_rows phase history;
  has_them = subst (λ o. has board o rows (before ++ phase_rows phase history)) (sym same) shown.has_them;
  book = subst (IsBookOf state) (book_after-replays opening (book_of rows before) history replays ∙ sym shown.book_is) book;
  few = few;
}
