-- Where a run begins, one phase more, and its end.
use Rattle.std.proofs.Common.{◌≡◌, Bool, ℕ, zero, suc, ◌+◌, ◌-◌, ◌<◌, ◌≤◌, ◌^◌, ◌⊎◌, not, min, true, false, cond, List, [], ◌∷◌, ◌++◌, length, drop, refl, subst, sym, ap, ◌∙◌, inl, inr, arith}
use Rattle.std.proofs.{Math.Seq.{drop-append_seam}, lemmas.Bool.{cases_Bool, cases_lt, false≢true}}
use Rattle.std.proofs.lemmas.List.{Filters.{length-filter_both}, length-append, length-map}
use Rattle.std.specs.List.{filter}
use Rattle.auction_rows.specs.{Book.{Book}, Choosing.{choose}}
use Rattle.auction_rows.specs.History.{IsBook, ReplaysFrom, book_after}
use Rattle.auction_rows.specs.Phases.{is_put_off, IsNumbered}
use Rattle.auction_rows.specs.declared.{limits.Policy.Policy, values.Opening.Opening, requests.Object.Object, requests.Request.Request, rows.Entry.Entry}
use Rattle.item_shards.specs.OpeningRows.{rows_by}
use Rattle.closing_laws.specs.Standing.{counters_at}
use Rattle.phase_floor.specs.States.{states_of, StandsFor, DoAllExist}
use Rattle.run_laws.proofs.BookLemmas.{phase_replayed}
use Rattle.run_laws.proofs.ClosedLemmas.{none_chosen, none_numbered, phase_chosen, phase_numbered, segment_now}
use Rattle.run_laws.proofs.{EndLemmas.{run_serves, few_phases}, QuotaLemmas.{given_length}}
use Rattle.run_laws.proofs.{ReachLemmas.{first_next, split_then_joined}, ScriptLemmas.{past_end}}
use Rattle.run_laws.proofs.StepLemmas.{run_begins, phase_runs}
use Rattle.run_laws.proofs.TurnLemmas.{length-numbered, waiting_none}
use Rattle.run_laws.specs.{Books.{HasReplayed, ReplaysOn}, Phases.{is_split, quota}}
use Rattle.run_laws.specs.Run.{first_index, calls_of, calls_given, HasRun, IsPhasePerformed, HasLeft, AreChosen}
use Rattle.run_laws.specs.Serving.{script_of, segment_of, hot_in, phase_reached, AreNumbered}
use Rattle.run_laws.specs.Turns.{numbered}
use Rattle.worker_journals.specs.Merged.{added, merged}
use Rattle.run_phases.{proofs.HotThere.{chosen_exist}, specs.Beginning.{HasQuotas, AreShortFor}}
use Rattle.run_phases.specs.{Outcomes.{IsOutcome}, Phases.{hot_sets}}
use Rattle.run_phases.specs.{declared.phase.Running.{Running}, inner.Closed.{HasClosedPhase}}
use Rattle.run_phases.specs.inner.Plans.{AreAsked, waiting_in, quota_of, MayPerform}
use Rattle.run_phases.specs.inner.Running.{IsRunning, CanGoOn}

-- ---- what a worker committed, and what waits, after one phase more

module _ (policy : Policy) (some : 0 < policy.joined_quota + policy.split_quota) (scripts : List (List Request)) (p : ℕ) (hot : List Object)
    (waits after : ℕ → List (ℕ × Request)) (entries : List Entry) (performed : IsPhasePerformed policy scripts p hot waits after entries) (worker : ℕ) where
  abbrev script : List Request
  script = script_of scripts worker

  given : length (calls_given policy p script) ≡ quota_of policy p script
  given = given_length policy.joined_quota policy.split_quota p script

  -- what it did and what waits now is at most what waited and what it was given
  pub dealt : length (calls_of worker entries) + length (after worker) ≤ length (waits worker) + quota_of policy p script
  dealt = go (cases_Bool (is_split p)) where
    go : (is_split p ≡ true) ⊎ (is_split p ≡ false) → length (calls_of worker entries) + length (after worker) ≤ length (waits worker) + quota_of policy p script
    go (inl split) =
        let done : length (calls_of worker entries) ≡ length (filter (λ (call : ℕ × Request). not (is_put_off hot call.1)) (calls_given policy p script)) = ap length (performed.split_calls split worker) in
        let left : length (after worker) ≡ length (filter (λ (call : ℕ × Request). is_put_off hot call.1) (calls_given policy p script)) = ap length (performed.split_stash split worker) in
        let all = length-filter_both (λ (call : ℕ × Request). is_put_off hot call.1) (λ (call : ℕ × Request). not (is_put_off hot call.1)) (λ call. refl) (calls_given policy p script) in
        plain (length (calls_of worker entries)) (length (after worker)) (length (waits worker)) _ _ (length (calls_given policy p script)) (quota_of policy p script) done left all given
      where
        plain : (done left waited a b all quota : ℕ) → done ≡ a → left ≡ b → b + a ≡ all → all ≡ quota → done + left ≤ waited + quota
        plain done left waited a b all quota e f g h = omega (arith, e, f, g, h)
    go (inr joined) =
        let done : length (calls_of worker entries) ≡ length (waits worker) + length (calls_given policy p script) =
        ap length (performed.joined_calls joined worker) ∙ length-append (waits worker) (calls_given policy p script) in
        let left : length (after worker) ≡ 0 = ap length (performed.joined_stash joined worker) in
        plain (length (calls_of worker entries)) (length (after worker)) (length (waits worker)) (length (calls_given policy p script)) (quota_of policy p script) done left given
      where
        plain : (done left waited all quota : ℕ) → done ≡ waited + all → left ≡ 0 → all ≡ quota → done + left ≤ waited + quota
        plain done left waited all quota e f g = omega (arith, e, f, g)

-- what was given of a script before a phase, and in it, was given before the next
more_given : (commits rows done left waited first next len part : ℕ) → next ≡ first + part → done + left ≤ waited + min part (len - first) →
    commits + waited ≤ rows + min first len → (commits + done) + left ≤ rows + min next len
more_given commits rows done left waited first next len part a b c = omega (arith, a, b, c)

-- ---- one phase more

module _ {policy : Policy} (some : 0 < policy.joined_quota + policy.split_quota) {scripts : List (List Request)} {p : ℕ}
    {opening : Opening} {rows : Book} (is_book : IsBook opening rows) {old : Running} (new : Running) {hot_now : List Object}
    (run : IsRunning opening rows policy scripts p old)
    (worker : ℕ) (left : HasLeft policy scripts p (waiting_in old.stashes.items) worker)
    (grown : new.history.entries ≡ old.history.entries ++ added old.history.entries new.history.entries)
    (all_merged : merged new.history.last ≡ added old.history.entries new.history.entries)
    (closed : HasClosedPhase policy scripts old.state old.stashes.items hot_now (added old.history.entries new.history.entries) new.state new.stashes.items)
    (hot : hot_sets new.hot.items ≡ hot_sets old.hot.items ++ hot_now ∷ [])
    (not_chosen : is_split old.state.phase ≡ false → hot_now ≡ [])
    (chosen : is_split old.state.phase ≡ true → hot_now ≡ choose (merged old.history.last) policy.threshold policy.hot_max) where
  abbrev entries : List Entry
  entries = added old.history.entries new.history.entries

  here : IsPhasePerformed policy scripts p hot_now (waiting_in old.stashes.items) (waiting_in new.stashes.items) entries
  here = subst (λ n. IsPhasePerformed policy scripts n hot_now (waiting_in old.stashes.items) (waiting_in new.stashes.items) entries) run.phase_is closed.performed

  counted_next : (w : ℕ) → w < length scripts →
      (counters_at new.state.counters w).commits + length (waiting_in new.stashes.items w)
      ≤ rows_by rows w + min (first_index policy (suc p)) (length (script_of scripts w))
  counted_next w known =
      subst (λ n. n + length (waiting_in new.stashes.items w) ≤ rows_by rows w + min (first_index policy (suc p)) (length (script_of scripts w)))
      (sym (closed.commits w (subst (λ n. w < n) (sym run.workers_are) known)))
      (more_given (counters_at old.state.counters w).commits (rows_by rows w) (length (calls_of w entries)) (length (waiting_in new.stashes.items w)) (length (waiting_in old.stashes.items w))
      (first_index policy p) (first_index policy (suc p)) (length (script_of scripts w)) (cond (is_split p) policy.split_quota policy.joined_quota)
      (first_next policy.joined_quota policy.split_quota some p)
      (dealt policy some scripts p hot_now (waiting_in old.stashes.items) (waiting_in new.stashes.items) entries here w)
      (run.counted w known))

  pub stepped : IsRunning opening rows policy scripts (suc p) new
  stepped = record {
    run = subst (λ es. HasRun policy scripts (suc p) (hot_sets new.hot.items) es (waiting_in new.stashes.items)) (sym grown)
        (subst (λ hs. HasRun policy scripts (suc p) hs (old.history.entries ++ entries) (waiting_in new.stashes.items)) (sym hot)
        (phase_runs policy some scripts p (hot_sets old.hot.items) hot_now old.history.entries entries (waiting_in old.stashes.items) (waiting_in new.stashes.items) run.run here worker left));
    chosen = subst (λ es. AreChosen policy (hot_sets new.hot.items) es) (sym grown)
        (subst (λ hs. AreChosen policy hs (old.history.entries ++ entries)) (sym hot)
        (phase_chosen policy scripts p (hot_sets old.hot.items) hot_now old.history.entries entries
        (waiting_in old.stashes.items) (waiting_in new.stashes.items) run.run here run.chosen
        (λ is. not_chosen (ap is_split run.phase_is ∙ is))
        (λ is. chosen (ap is_split run.phase_is ∙ is) ∙ ap (λ es. choose es policy.threshold policy.hot_max) (sym run.last_entries ∙ run.last))));
    numbers = subst (λ es. AreNumbered opening policy (hot_sets new.hot.items) es) (sym grown)
        (subst (λ hs. AreNumbered opening policy hs (old.history.entries ++ entries)) (sym hot)
        (phase_numbered opening policy scripts p (hot_sets old.hot.items) hot_now old.history.entries entries
        (waiting_in old.stashes.items) (waiting_in new.stashes.items) run.run here run.numbers
        (subst (λ o. IsNumbered o policy.shards hot_now entries) run.opening_is closed.numbered)));
    replayed = subst (λ es. HasReplayed opening rows es (StandsFor new.state)) (sym grown)
        (phase_replayed opening rows old.history.entries entries (StandsFor old.state) (StandsFor new.state) is_book run.replayed
        (subst (λ o. ReplaysOn o entries (StandsFor old.state) (StandsFor new.state)) run.opening_is closed.replays));
    opening_is = closed.opening_is ∙ run.opening_is;
    phase_is = closed.phase_is ∙ ap suc run.phase_is;
    shards_are = closed.shards_are ∙ run.shards_are;
    workers_are = closed.workers_are ∙ run.workers_are;
    stashes_are = closed.stashes_are ∙ run.workers_are;
    counted = counted_next;
    from = length old.history.entries;
    last_within = subst (λ es. length old.history.entries ≤ length es) (sym grown) (omega (arith, length-append old.history.entries entries));
    last_entries = ap (drop (length old.history.entries)) grown ∙ drop-append_seam old.history.entries entries ∙ sym all_merged;
    last = ap (drop (length old.history.entries)) grown ∙ drop-append_seam old.history.entries entries
        ∙ sym (segment_now p old.history.entries entries run.run.phases_before here.phases) ∙ ap (segment_of p) (sym grown)
        ∙ (let e : p ≡ suc p - 1 = omega arith in ap (λ n. segment_of n new.history.entries) e);
  }

-- ---- what the next phase may begin with

pub some_given : {policy : Policy} → HasQuotas policy → 0 < policy.joined_quota + policy.split_quota
some_given quotas = omega (arith, quotas.joined)

-- the number of a phase before the last that a run may have
pub few_of : {number phase : ℕ} → number ≡ phase → phase < 2000003 → (number < 2147483648) × (number + 1 < 2 ^ 64)
few_of is few = (omega (arith, is, few), omega (arith, is, few))

-- a run goes on under the names that its plan has for the policy and the scripts
pub goes_on : {opening : Opening} {rows : Book} → IsBook opening rows → {policy own_policy : Policy} → own_policy ≡ policy → {scripts own_scripts : List (List Request)} → own_scripts ≡ scripts →
    {p : ℕ} {running : Running} → AreShortFor running.state.limit rows scripts → IsRunning opening rows policy scripts p running → CanGoOn own_policy own_scripts running
goes_on {opening} {rows} is_book {policy} same_policy {scripts} {own_scripts} same_scripts {p} {running} short run =
    subst (λ po. CanGoOn po own_scripts running) (sym same_policy) (subst (λ sc. CanGoOn policy sc running) (sym same_scripts) (record {
      opening = opening;
      rows = rows;
      is_book = is_book;
      short = short;
      running_is = subst (λ n. IsRunning opening rows policy scripts n running) (sym run.phase_is) run;
    }))

all_short : (limit : ℕ) (rows : Book) (scripts : List (List Request)) → AreShortFor limit rows scripts → (worker : ℕ) → length (script_of scripts worker) ≤ 1000000
all_short limit rows scripts short worker = go (cases_lt worker (length scripts)) where
  go : (worker < length scripts) ⊎ (length scripts ≤ worker) → length (script_of scripts worker) ≤ 1000000
  go (inl known) = (short worker known).0
  go (inr past) = let e : length (script_of scripts worker) ≡ 0 = ap length (past_end scripts worker past) in omega (arith, e)

-- what was put off waits for a joined phase
nothing_waits : (policy : Policy) (scripts : List (List Request)) (p : ℕ) (hot : List (List Object)) (history : List Entry) (stashes : ℕ → List (ℕ × Request)) →
    HasRun policy scripts p hot history stashes → is_split p ≡ true → (worker : ℕ) → stashes worker ≡ []
nothing_waits policy scripts zero hot history stashes run split worker = absurd (false≢true split)
nothing_waits policy scripts (suc p) hot history stashes run split worker =
    run.stashed worker ∙ waiting_none (phase_reached policy) (λ q request. is_put_off (hot_in hot q) request) p (before (cases_Bool (is_split p))) (script_of scripts worker)
  where
    before : (is_split p ≡ true) ⊎ (is_split p ≡ false) → is_split p ≡ false
    before (inl also) = absurd (false≢true (sym (split_then_joined p also) ∙ split))
    before (inr joined) = joined

-- no more waits than the script has
few_wait : {R : Type 0} (p : ℕ × R → Bool) (script : List R) (calls : List (ℕ × R)) (most : ℕ) → calls ≡ filter p (numbered 0 script) → length script ≤ most → length calls ≤ most
few_wait p script calls most are short =
    let all = length-filter_both p (λ call. not (p call)) (λ call. refl) (numbered 0 script) in omega (arith, ap length are, all, length-numbered 0 script, short)

room_left : (limit commits waits rows first len part : ℕ) → commits + waits ≤ rows + min first len → rows + len ≤ limit → commits + waits + min part (len - first) ≤ limit
room_left limit commits waits rows first len part a b = omega (arith, a, b)

module _ (policy : Policy) (scripts : List (List Request)) (running : Running) (shards : 0 < policy.shards) (on : CanGoOn policy scripts running)
    (counted : running.state.phase + 1 < 2 ^ 64) (hot_now : List Object)
    (not_chosen : is_split running.state.phase ≡ false → hot_now ≡ [])
    (chosen : is_split running.state.phase ≡ true → hot_now ≡ choose (merged running.history.last) policy.threshold policy.hot_max) where
  abbrev run : IsRunning on.opening on.rows policy scripts running.state.phase running
  run = on.running_is

  hot_exist : DoAllExist running.state.opening (states_of running.state) hot_now
  hot_exist = go (cases_Bool (is_split running.state.phase)) where
    go : (is_split running.state.phase ≡ true) ⊎ (is_split running.state.phase ≡ false) → DoAllExist running.state.opening (states_of running.state) hot_now
    go (inl split) = subst (DoAllExist running.state.opening (states_of running.state)) (sym (chosen split ∙ ap (λ es. choose es policy.threshold policy.hot_max) (sym run.last_entries)))
        (chosen_exist running.state on.rows running.history.entries run.from policy.threshold policy.hot_max (omega (arith, shards, run.shards_are))
        (subst (λ o. ReplaysFrom o on.rows running.history.entries) (sym run.opening_is) run.replayed.replays)
        (subst (λ o. StandsFor running.state (book_after o on.rows running.history.entries)) (sym run.opening_is) run.replayed.stands))
    go (inr joined) = subst (DoAllExist running.state.opening (states_of running.state)) (sym (not_chosen joined)) tt

  pub may_perform : AreAsked scripts running.stashes.items → MayPerform policy scripts running.state running.stashes.items hot_now
  may_perform asked = record {
    counted = counted;
    scripts_are = sym run.workers_are;
    stashes_are = run.stashes_are ∙ sym run.workers_are;
    shards_are = run.shards_are;
    short = all_short running.state.limit on.rows scripts on.short;
    asked = asked;
    waits = λ w. few_wait _ (script_of scripts w) (waiting_in running.stashes.items w) 1000000 (run.run.stashed w) (all_short running.state.limit on.rows scripts on.short w);
    room = λ w known. let own : w < length scripts = subst (λ n. w < n) run.workers_are known in
        room_left running.state.limit (counters_at running.state.counters w).commits (length (waiting_in running.stashes.items w)) (rows_by on.rows w)
        (first_index policy running.state.phase) (length (script_of scripts w)) (cond (is_split running.state.phase) policy.split_quota policy.joined_quota)
        (run.counted w own) (on.short w own).1;
    joined = not_chosen;
    exist = hot_exist;
    split = λ split. nothing_waits policy scripts running.state.phase (hot_sets running.hot.items) running.history.entries (waiting_in running.stashes.items) run.run split;
  }

-- ---- the beginning and the end

pub begun : (opening : Opening) (rows : Book) (policy : Policy) (scripts : List (List Request)) (new : Running) →
    new.state.phase ≡ 0 → new.state.opening ≡ opening → StandsFor new.state rows → length new.state.shards ≡ policy.shards → length new.state.counters ≡ length scripts →
    ((w : ℕ) → w < length scripts → (counters_at new.state.counters w).commits ≡ rows_by rows w) →
    new.history.entries ≡ [] → new.hot.items ≡ [] → length new.stashes.items ≡ length scripts → ((w : ℕ) → waiting_in new.stashes.items w ≡ []) → merged new.history.last ≡ [] →
    IsRunning opening rows policy scripts 0 new
begun opening rows policy scripts new phase same stands shards workers commits history hot stashes none last = record {
  run = subst (λ es. HasRun policy scripts 0 (hot_sets new.hot.items) es (waiting_in new.stashes.items)) (sym history)
      (subst (λ hs. HasRun policy scripts 0 (hot_sets hs) [] (waiting_in new.stashes.items)) (sym hot)
      (subst (HasRun policy scripts 0 [] []) (λ i w. sym (none w) i)
      (run_begins policy scripts)));
  chosen = subst (λ es. AreChosen policy (hot_sets new.hot.items) es) (sym history)
      (subst (λ hs. AreChosen policy (hot_sets hs) []) (sym hot) (none_chosen policy));
  numbers = subst (λ es. AreNumbered opening policy (hot_sets new.hot.items) es) (sym history)
      (subst (λ hs. AreNumbered opening policy (hot_sets hs) []) (sym hot) (none_numbered opening policy));
  replayed = subst (λ es. HasReplayed opening rows es (StandsFor new.state)) (sym history) (record { replays = tt; stands = stands });
  opening_is = same;
  phase_is = phase;
  shards_are = shards;
  workers_are = workers;
  stashes_are = stashes;
  counted = λ w known. let e : length (waiting_in new.stashes.items w) ≡ 0 = ap length (none w) in omega (arith, e, commits w known);
  from = 0;
  last_within = omega arith;
  last_entries = history ∙ sym last;
  last = ap (drop 0) history ∙ ap (segment_of (0 - 1)) (sym history);
}

-- what is left from the first index on is left
pub left_over : (policy : Policy) (scripts : List (List Request)) (p : ℕ) (running : Running) (first worker : ℕ) → first ≡ first_index policy p →
    ((first < length (script_of scripts worker)) ⊎ (0 < length (waiting_in running.stashes.items worker))) → HasLeft policy scripts p (waiting_in running.stashes.items) worker
left_over policy scripts p running first worker is (inl more) = inl (omega (arith, is, more))
left_over policy scripts p running first worker is (inr waits) = inr waits

module _ (opening : Opening) (rows : Book) (policy : Policy) (some : 0 < policy.joined_quota + policy.split_quota) (scripts : List (List Request)) (limit : ℕ) (short : AreShortFor limit rows scripts)
    (p : ℕ) (running : Running) (run : IsRunning opening rows policy scripts p running) where
  pub few_phases_so_far : p ≤ 2000002
  few_phases_so_far =
      let most = few_phases policy some scripts p 1000000 (hot_sets running.hot.items) running.history.entries (waiting_in running.stashes.items) run.run (all_short limit rows scripts short) in
      omega (arith, most)

  pub phases_counted : running.state.phase ≡ length running.hot.items
  phases_counted = run.phase_is ∙ sym run.run.phase_count ∙ length-map running.hot.items (λ set. set.keys)

  -- where nothing is left, the outcome is that of a run
  pub ended : (first : ℕ) → first ≡ first_index policy p →
      ((worker : ℕ) → (length (script_of scripts worker) ≤ first) × (length (waiting_in running.stashes.items worker) ≡ 0)) →
      IsOutcome opening rows policy scripts (record { history = running.history; hot = running.hot; state = running.state })
  ended first is none = record {
    serves = run_serves opening policy some scripts p (hot_sets running.hot.items) running.history.entries (waiting_in running.stashes.items) run.run run.numbers
        (λ worker. (subst (λ n. length (script_of scripts worker) ≤ n) is (none worker).0, (none worker).1));
    chosen = run.chosen;
    replays = run.replayed.replays;
    last = sym run.last_entries ∙ run.last
        ∙ ap (λ n. segment_of (n - 1) running.history.entries) (sym run.run.phase_count ∙ length-map running.hot.items (λ set. set.keys));
    stands = run.replayed.stands;
    opening_is = run.opening_is;
    phases = phases_counted;
    shards = run.shards_are;
    counters = run.workers_are;
  }
