-- With one worker a script has one answer: by induction over the phases.
use Rattle.std.proofs.Common.{◌≡◌, ℕ, zero, suc, ◌+◌, ◌-◌, ◌<◌, ◌≤◌, ◌==◌, ◌⊎◌, ◌&&◌, nat_lt, Bool, true, false, cond, List, [], ◌∷◌, ◌++◌, map, length, slice_get, Option, Some, None, refl, subst, sym, ap, ◌∙◌, inl, inr, arith, eq-eqb, eqb-true}
use Rattle.std.proofs.lemmas.Bool.{lt-ltb, ne_eqb, cases_lt, cases_Bool, and_right}
use Rattle.std.proofs.lemmas.{List.Sums.{length-filter}, Option.{slice_get_within}}
use Rattle.std.specs.List.{AllByRecursion}
use Rattle.auction_rows.specs.{Book.{Book}, Choosing.{choose}}
use Rattle.auction_rows.specs.{History.{after_entry, ReplaysFrom, book_after}, Phases.{is_put_off}}
use Rattle.auction_rows.specs.declared.{limits.Policy.Policy, values.Opening.Opening, requests.Object.Object, requests.Request.Request, rows.Entry.Entry}
use Rattle.phase_laws.proofs.ListLemmas.{all-both, all-kept, filter_false, ordered-with, greatest_bounds}
use Rattle.phase_laws.proofs.OrderLemmas.{all-filter, all-weaker, all-map, ordered-filter, ordered-map, same_parts}
use Rattle.phase_laws.specs.{Numbers.{greatest_by}, Order.{Precedes, IsAscending, part}}
use Rattle.run_laws.proofs.AloneLemmas.{same_repeated, count_none, count_where, one_after_another, AreAlone, same_entries}
use Rattle.run_laws.proofs.CommitLemmas.{from}
use Rattle.run_laws.proofs.CountLemmas.{how_many, how_many-is, count-filter, count-map, count-same}
use Rattle.run_laws.proofs.CutLemmas.{until, since, until_none, until_all, until_next, cut_in_two, earlier_until}
use Rattle.run_laws.specs.{Answers.{IsAnswer}, Phases.{is_split}}
use Rattle.run_laws.specs.Serving.{call_of, script_of, hot_in, segment_of, phase_reached, commit_phase}

-- the calls of a phase's entries
abbrev pub calls_in : ℕ → List Entry → List (ℕ × Request)
calls_in n history = map call_of (segment_of n history)

-- the entries before a phase
abbrev pub entries_until : ℕ → List Entry → List Entry
entries_until n history = until (λ e. e.phase) n history

replays_left : (opening : Opening) (book : Book) (xs ys : List Entry) → ReplaysFrom opening book (xs ++ ys) → ReplaysFrom opening book xs
replays_left opening book [] ys h = tt
replays_left opening book (x ∷ xs) ys h = (h.0, replays_left opening (after_entry opening book x) xs ys h.1)

replays_right : (opening : Opening) (book : Book) (xs ys : List Entry) → ReplaysFrom opening book (xs ++ ys) → ReplaysFrom opening (book_after opening book xs) ys
replays_right opening book [] ys h = h
replays_right opening book (x ∷ xs) ys h = replays_right opening (after_entry opening book x) xs ys h.1

-- ---- what holds of an answer

module _ {opening : Opening} {start : Book} {policy : Policy} {script : List Request} {hot : List (List Object)} {history : List Entry}
    (answer : IsAnswer opening start policy (script ∷ []) hot history) where
  -- all entries are of worker 0, with the script's requests
  of_script : (worker index : ℕ) (request : Request) → slice_get (script_of (script ∷ []) worker) index ≡ Some request →
      (worker ≡ 0) × (slice_get script index ≡ Some request)
  of_script zero index request is = (refl, is)
  of_script (suc worker) index request is = absurd (cc)

  pub workers : AllByRecursion (λ e. e.worker ≡ 0) history
  workers = all-weaker (λ e. slice_get (script_of (script ∷ []) e.worker) e.index ≡ Some e.request) (λ e. e.worker ≡ 0)
      (λ e is. (of_script e.worker e.index e.request is).0) history answer.serves.requests

  pub requests : AllByRecursion (λ e. slice_get script e.index ≡ Some e.request) history
  requests = all-weaker (λ e. slice_get (script_of (script ∷ []) e.worker) e.index ≡ Some e.request) (λ e. slice_get script e.index ≡ Some e.request)
      (λ e is. (of_script e.worker e.index e.request is).1) history answer.serves.requests

  -- each index occurs once
  pub index_count : (i : ℕ) → how_many (λ e. e.index == i) history ≡ cond (nat_lt i (length script)) 1 0
  index_count i =
      count-same (λ e. e.index == i) (λ e. (e.worker == 0) && (e.index == i)) history
      (all-weaker (λ e. e.worker ≡ 0) (λ e. (e.index == i) ≡ ((e.worker == 0) && (e.index == i)))
      (λ e is. sym (ap (λ b. b && (e.index == i)) (eq-eqb e.worker 0 is))) history workers)
      ∙ how_many-is (λ e. (e.worker == 0) && (e.index == i)) history
      ∙ answer.serves.once 0 i

  -- an entry with an index stands in the phase in which the script's request commits
  in_its_phase : (i : ℕ) (r : Request) → slice_get script i ≡ Some r → AllByRecursion (λ e. e.index ≡ i → e.phase ≡ commit_phase policy hot (i, r)) history
  in_its_phase i r is =
      all-weaker (λ e. (slice_get script e.index ≡ Some e.request) × (e.phase ≡ commit_phase policy hot (call_of e))) (λ e. e.index ≡ i → e.phase ≡ commit_phase policy hot (i, r))
      (λ e both same. at e both.0 both.1 same) history
      (all-both (λ e. slice_get script e.index ≡ Some e.request) (λ e. e.phase ≡ commit_phase policy hot (call_of e)) history requests answer.serves.phases)
    where
      at : (e : Entry) → slice_get script e.index ≡ Some e.request → e.phase ≡ commit_phase policy hot (call_of e) → e.index ≡ i → e.phase ≡ commit_phase policy hot (i, r)
      at e got in_phase same =
          let some : Some e.request ≡ Some r = sym got ∙ ap (slice_get script) same ∙ is in
          let request : e.request ≡ r = cc in
          in_phase ∙ (λ k. commit_phase policy hot (same k, request k))

  pub all_below : AllByRecursion (λ e. e.phase < length hot) history
  all_below = all-weaker (λ e. suc e.phase ≤ greatest_by (λ e. suc e.phase) history) (λ e. e.phase < length hot)
      (λ e le. let is : length hot ≡ greatest_by (λ e. suc e.phase) history = answer.serves.phase_count in omega arith) history (greatest_bounds (λ e. suc e.phase) history)

  -- each request of the script commits in one of the phases
  pub commits_below : (i : ℕ) (r : Request) → slice_get script i ≡ Some r → commit_phase policy hot (i, r) < length hot
  commits_below i r is = go (cases_lt (commit_phase policy hot (i, r)) (length hot)) where
    absent : length hot ≤ commit_phase policy hot (i, r) → (e : Entry) → e.phase < length hot → (e.index ≡ i → e.phase ≡ commit_phase policy hot (i, r)) → (e.index == i) ≡ false
    absent high e low in_phase = ne_eqb e.index i (λ same. let p : e.phase ≡ commit_phase policy hot (i, r) = in_phase same in omega arith)

    go : (commit_phase policy hot (i, r) < length hot) ⊎ (length hot ≤ commit_phase policy hot (i, r)) → commit_phase policy hot (i, r) < length hot
    go (inl less) = less
    go (inr high) =
        let none : how_many (λ e. e.index == i) history ≡ 0 = count_none (λ e. e.index == i) history
        (all-weaker (λ e. (e.phase < length hot) × (e.index ≡ i → e.phase ≡ commit_phase policy hot (i, r))) (λ e. (e.index == i) ≡ false)
        (λ e both. absent high e both.0 both.1) history
        (all-both (λ e. e.phase < length hot) (λ e. e.index ≡ i → e.phase ≡ commit_phase policy hot (i, r)) history all_below (in_its_phase i r is))) in
        let once : how_many (λ e. e.index == i) history ≡ 1 =
        index_count i ∙ ap (λ b. cond b 1 0) (lt-ltb i (length script) (slice_get_within script i r is)) in absurd (omega arith)

  module _ (n : ℕ) where
    -- how often an index occurs in a phase
    pub count_in : (i : ℕ) (r : Request) → slice_get script i ≡ Some r →
        length (part (λ call. call.0) i (calls_in n history)) ≡ cond (commit_phase policy hot (i, r) == n) (cond (nat_lt i (length script)) 1 0) 0
    count_in i r is =
        length-filter (λ call. call.0 == i) (calls_in n history)
        ∙ sym (how_many-is (λ call. call.0 == i) (calls_in n history))
        ∙ count-map call_of (λ call. call.0 == i) (segment_of n history)
        ∙ count-filter (λ e. e.phase == n) (λ e. e.index == i) history
        ∙ count-same (λ e. (e.phase == n) && (e.index == i)) (λ e. (commit_phase policy hot (i, r) == n) && (e.index == i)) history
        (all-weaker (λ e. e.index ≡ i → e.phase ≡ commit_phase policy hot (i, r))
        (λ e. ((e.phase == n) && (e.index == i)) ≡ ((commit_phase policy hot (i, r) == n) && (e.index == i)))
        (λ e in_phase. same_test e in_phase (e.index == i) refl) history (in_its_phase i r is))
        ∙ count_where (commit_phase policy hot (i, r) == n) (λ e. e.index == i) history
        ∙ ap (λ m. cond (commit_phase policy hot (i, r) == n) m 0) (index_count i) where
          same_test : (e : Entry) → (e.index ≡ i → e.phase ≡ commit_phase policy hot (i, r)) → (b : Bool) → (e.index == i) ≡ b →
              ((e.phase == n) && (e.index == i)) ≡ ((commit_phase policy hot (i, r) == n) && (e.index == i))
          same_test e in_phase true is = ap (λ p. (p == n) && (e.index == i)) (in_phase (eqb-true e.index i is))
          same_test e in_phase false is = and_right (e.phase == n) (e.index == i) is ∙ sym (and_right (commit_phase policy hot (i, r) == n) (e.index == i) is)

    -- the calls of a phase are the script's
    pub calls_are : AllByRecursion (λ call. slice_get script call.0 ≡ Some call.1) (calls_in n history)
    calls_are = all-map call_of (λ call. slice_get script call.0 ≡ Some call.1) (segment_of n history)
        (all-filter (λ e. slice_get script e.index ≡ Some e.request) (λ e. e.phase == n) history requests)

    -- in the order of their indexes
    pub calls_rise : IsAscending (λ call. call.0) (λ call. call.0) (calls_in n history)
    calls_rise =
        ordered-map call_of (λ d e. d.index < e.index) (Precedes (λ call. call.0) (λ call. call.0)) (λ d e less. inl less) (segment_of n history)
        (ordered-with (λ e. (e.worker ≡ 0) × ((e.phase == n) ≡ true)) (λ d e. d.worker ≡ e.worker → d.phase ≡ e.phase → d.index < e.index) (λ d e. d.index < e.index)
        (λ d e own own' rise. rise (own.0 ∙ sym own'.0) (eqb-true d.phase n own.1 ∙ sym (eqb-true e.phase n own'.1))) (segment_of n history)
        (all-both (λ e. e.worker ≡ 0) (λ e. (e.phase == n) ≡ true) (segment_of n history) (all-filter (λ e. e.worker ≡ 0) (λ e. e.phase == n) history workers) (all-kept (λ e. e.phase == n) history))
        (ordered-filter (λ d e. d.worker ≡ e.worker → d.phase ≡ e.phase → d.index < e.index) (λ e. e.phase == n) history answer.serves.indexes_rise))

    -- the history before the next phase
    pub next_until : entries_until (suc n) history ≡ entries_until n history ++ segment_of n history
    next_until = until_next (λ e. e.phase) n history answer.serves.phases_rise

    -- the entries of a phase, after those before it
    pub segment_alone : AreAlone opening n 0 0 (book_after opening start (entries_until n history)) (segment_of n history)
    segment_alone = record {
      phases = all-weaker (λ e. (e.phase == n) ≡ true) (λ e. e.phase ≡ n) (λ e is. eqb-true e.phase n is) (segment_of n history) (all-kept (λ e. e.phase == n) history);
      workers = all-filter (λ e. e.worker ≡ 0) (λ e. e.phase == n) history workers;
      numbers = one_after_another opening policy.shards 0 (hot_in hot n) (segment_of n history)
          (all-filter (λ e. e.worker ≡ 0) (λ e. e.phase == n) history workers) (answer.serves.numbers n);
      replays = replays_right opening start (entries_until n history) (segment_of n history)
          (subst (ReplaysFrom opening start) next_until
          (replays_left opening start (entries_until (suc n) history) (since (λ e. e.phase) (suc n) history)
          (subst (ReplaysFrom opening start) (sym (cut_in_two (λ e. e.phase) (suc n) history answer.serves.phases_rise)) answer.replays)));
    }

-- ---- two answers

same_sets : (xs ys : List (List Object)) → length xs ≡ length ys → ((q : ℕ) → q < length xs → hot_in xs q ≡ hot_in ys q) → xs ≡ ys
same_sets [] [] len same = refl
same_sets (x ∷ xs) (y ∷ ys) len same =
    let first : x ≡ y = same 0 (omega arith) in
    let rest : xs ≡ ys = same_sets xs ys (omega arith) (λ q less. same (suc q) (omega arith)) in λ k. first k ∷ rest k
same_sets xs ys len same = absurd (omega arith)

after_first : (q : ℕ) → is_split q ≡ true → 0 < q
after_first zero split = absurd (cc)
after_first (suc q) split = omega arith

module _ {opening : Opening} {start : Book} {policy : Policy} {script : List Request} {hot hot' : List (List Object)} {history history' : List Entry}
    (answer : IsAnswer opening start policy (script ∷ []) hot history) (answer' : IsAnswer opening start policy (script ∷ []) hot' history') where
  -- after the same entries before a phase
  module _ (n : ℕ) (before : entries_until n history ≡ entries_until n history') where
    -- the hot sets so far are the same
    same_hot : (q : ℕ) → q ≤ n → q < length hot → q < length hot' → hot_in hot q ≡ hot_in hot' q
    same_hot q le less less' = go (cases_Bool (is_split q)) where
      earlier : q - 1 < n → segment_of (q - 1) history ≡ segment_of (q - 1) history'
      earlier early =
          sym (earlier_until (λ e. e.phase) (q - 1) n early history)
          ∙ ap (segment_of (q - 1)) before
          ∙ earlier_until (λ e. e.phase) (q - 1) n early history'

      go : (is_split q ≡ true) ⊎ (is_split q ≡ false) → hot_in hot q ≡ hot_in hot' q
      go (inl split) =
          let more : 0 < q = after_first q split in
          answer.chosen.split q less split
          ∙ ap (λ entries. choose entries policy.threshold policy.hot_max) (earlier (omega arith))
          ∙ sym (answer'.chosen.split q less' split)
      go (inr joined) = answer.chosen.joined q less joined ∙ sym (answer'.chosen.joined q less' joined)

    -- so the phase has the same requests of the script
    same_test : (i : ℕ) (r : Request) → slice_get script i ≡ Some r → (commit_phase policy hot (i, r) == n) ≡ (commit_phase policy hot' (i, r) == n)
    same_test i r is = go (cases_lt n (phase_reached policy i)) where
      low : phase_reached policy i ≤ commit_phase policy hot (i, r)
      low = from policy hot (i, r)

      low' : phase_reached policy i ≤ commit_phase policy hot' (i, r)
      low' = from policy hot' (i, r)

      go : (n < phase_reached policy i) ⊎ (phase_reached policy i ≤ n) → (commit_phase policy hot (i, r) == n) ≡ (commit_phase policy hot' (i, r) == n)
      go (inl more) =
          let a : phase_reached policy i ≤ commit_phase policy hot (i, r) = low in
          let b : phase_reached policy i ≤ commit_phase policy hot' (i, r) = low' in
          ne_eqb (commit_phase policy hot (i, r)) n (λ (e : commit_phase policy hot (i, r) ≡ n). omega arith)
          ∙ sym (ne_eqb (commit_phase policy hot' (i, r)) n (λ (e : commit_phase policy hot' (i, r) ≡ n). omega arith))
      go (inr le) =
          let a : phase_reached policy i ≤ commit_phase policy hot (i, r) = low in
          let b : phase_reached policy i ≤ commit_phase policy hot' (i, r) = low' in
          let c : commit_phase policy hot (i, r) < length hot = commits_below answer i r is in
          let d : commit_phase policy hot' (i, r) < length hot' = commits_below answer' i r is in
          ap (λ objects. (phase_reached policy i + cond (is_split (phase_reached policy i) && is_put_off objects r) 1 0) == n)
          (same_hot (phase_reached policy i) le (omega arith) (omega arith))

    same_part : (i : ℕ) → part (λ call. call.0) i (calls_in n history) ≡ part (λ call. call.0) i (calls_in n history')
    same_part i = go (slice_get script i) refl where
      none : slice_get script i ≡ None → (calls : List (ℕ × Request)) → AllByRecursion (λ call. slice_get script call.0 ≡ Some call.1) calls → part (λ call. call.0) i calls ≡ []
      none is calls are = filter_false (λ call. call.0 == i) calls
          (all-weaker (λ call. slice_get script call.0 ≡ Some call.1) (λ call. (call.0 == i) ≡ false)
          (λ call got. ne_eqb call.0 i (λ (same : call.0 ≡ i). let e : Some call.1 ≡ None = sym got ∙ ap (slice_get script) same ∙ is in cc)) calls are)

      all_one : (r : Request) → slice_get script i ≡ Some r → (calls : List (ℕ × Request)) → AllByRecursion (λ call. slice_get script call.0 ≡ Some call.1) calls →
          AllByRecursion (λ call. call ≡ (i, r)) (part (λ call. call.0) i calls)
      all_one r is calls are =
          all-weaker (λ call. (slice_get script call.0 ≡ Some call.1) × ((call.0 == i) ≡ true)) (λ call. call ≡ (i, r)) (λ call both. one call both.0 (eqb-true call.0 i both.1))
          (part (λ call. call.0) i calls)
          (all-both (λ call. slice_get script call.0 ≡ Some call.1) (λ call. (call.0 == i) ≡ true) (part (λ call. call.0) i calls)
          (all-filter (λ call. slice_get script call.0 ≡ Some call.1) (λ call. call.0 == i) calls are) (all-kept (λ call. call.0 == i) calls)) where
            one : (call : ℕ × Request) → slice_get script call.0 ≡ Some call.1 → call.0 ≡ i → call ≡ (i, r)
            one call got same =
                let some : Some call.1 ≡ Some r = sym got ∙ ap (slice_get script) same ∙ is in
                let request : call.1 ≡ r = cc in λ k. (same k, request k)

      go : (o : Option Request) → slice_get script i ≡ o → part (λ call. call.0) i (calls_in n history) ≡ part (λ call. call.0) i (calls_in n history')
      go None is = none is (calls_in n history) (calls_are answer n) ∙ sym (none is (calls_in n history') (calls_are answer' n))
      go (Some r) is = same_repeated (i, r) (part (λ call. call.0) i (calls_in n history)) (part (λ call. call.0) i (calls_in n history'))
          (all_one r is (calls_in n history) (calls_are answer n)) (all_one r is (calls_in n history') (calls_are answer' n))
          (count_in answer n i r is ∙ ap (λ b. cond b (cond (nat_lt i (length script)) 1 0) 0) (same_test i r is) ∙ sym (count_in answer' n i r is))

    same_calls : calls_in n history ≡ calls_in n history'
    same_calls = same_parts (λ call. call.0) (λ call. call.0) (calls_in n history) (calls_in n history') (calls_rise answer n) (calls_rise answer' n) same_part

    same_segment : segment_of n history ≡ segment_of n history'
    same_segment = same_entries opening n 0 0 (book_after opening start (entries_until n history)) (segment_of n history) (segment_of n history') same_calls (segment_alone answer n)
        (subst (λ entries. AreAlone opening n 0 0 (book_after opening start entries) (segment_of n history')) (sym before) (segment_alone answer' n))

  same_until : (n : ℕ) → entries_until n history ≡ entries_until n history'
  same_until zero = until_none (λ e. e.phase) history ∙ sym (until_none (λ e. e.phase) history')
  same_until (suc n) =
      let before : entries_until n history ≡ entries_until n history' = same_until n in
      let now : segment_of n history ≡ segment_of n history' = same_segment n before in
      next_until answer n ∙ (λ k. before k ++ now k) ∙ sym (next_until answer' n)

  -- both have the same entries
  pub same_history : history ≡ history'
  same_history =
      sym (until_all (λ e. e.phase) (length hot + length hot') history
      (all-weaker (λ e. e.phase < length hot) (λ e. e.phase < length hot + length hot') (λ e less. omega arith) history (all_below answer)))
      ∙ same_until (length hot + length hot')
      ∙ until_all (λ e. e.phase) (length hot + length hot') history'
      (all-weaker (λ e. e.phase < length hot') (λ e. e.phase < length hot + length hot') (λ e less. omega arith) history' (all_below answer'))

  -- and the same hot sets
  pub same_hots : hot ≡ hot'
  same_hots = same_sets hot hot' same_length (λ q less. same_hot (length hot) (same_until (length hot)) q (omega arith) less (subst (λ n. q < n) same_length less))
    where
      same_length : length hot ≡ length hot'
      same_length = answer.serves.phase_count ∙ ap (greatest_by (λ e. suc e.phase)) same_history ∙ sym answer'.serves.phase_count
