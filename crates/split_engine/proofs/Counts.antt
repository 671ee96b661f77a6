-- How many commits there are, and how many are still to come.
use Rattle.std.proofs.Common.{◌≡◌, ℕ, zero, suc, ◌+◌, ◌<◌, ◌≤◌, ◌==◌, Bool, true, false, not, List, [], ◌∷◌, ◌++◌, length, map, take, get_or, refl, sym, ap, ◌∙◌, arith, eqb-true}
use Rattle.std.proofs.Math.{Numerals.{add-one}, Seq.{take-suc}}
use Rattle.std.proofs.lemmas.Bool.{cond-true, cond-false, eqb-false, ne_eqb}
use Rattle.std.proofs.lemmas.List.{Filters.{length-filter_both}, length-append, length-map}
use Rattle.std.specs.List.{filter, AllByRecursion}
use Rattle.job_threads.specs.{Threads.{IsUnstarted}, declared.fault.JobFault.{JobFault}}
use Rattle.job_threads.specs.declared.fault.JobFault.TheVariants.{Spawn, Memory}
use Rattle.split_engine.{proofs.Sessions.{long_before}, specs.Faults.{IsRunFault, fault_of_jobs}}
use Rattle.split_engine.specs.{Rules.{Rules}, Serial.{IsWithin}}
use Rattle.split_engine.specs.Serving.{calls_before, call_of, entries_of, total, IsScript, AreScripts}
use Rattle.split_engine.specs.declared.{entry.Entry.{Entry}, state.Cursor.{Cursor}}
use Rattle.split_engine.specs.declared.state.TheConstants.{MOST_COMMITS}
use Rattle.split_engine.specs.inner.Assignments.{Assignment, assignments, HasDone, left_of, all_left}
use Rattle.split_engine.specs.inner.Phases.{is_taken, split_calls, put_off, HasStashed, HasServed, HaveServed, IsRunState, AllFinished}
use Rattle.phase_laws.proofs.ReplayLemmas.{filter_all}

-- ---- scripts

pub total-append : {X : Type 0} (xss : List (List X)) (xs : List X) → total (xss ++ xs ∷ []) ≡ total xss + length xs
total-append [] xs = omega arith
total-append (ys ∷ xss) xs = let again = total-append xss xs in omega (arith, again)

pub total_more : {X : Type 0} (xss : List (List X)) (k : ℕ) (xs : List X) → k < length xss → xs ≡ get_or xss k xs →
    total (take (k + 1) xss) ≡ total (take k xss) + length xs
total_more xss k xs lt is =
    ap total (ap (λ n. take n xss) (add-one k) ∙ take-suc xss k xs lt ∙ ap (λ x. take k xss ++ x ∷ []) (sym is))
    ∙ total-append (take k xss) xs

-- a list with one element more
pub length_more : {X : Type 0} (xs ys : List X) (x : X) → ys ≡ xs ++ x ∷ [] → length ys ≡ length xs + 1
length_more xs ys x is = ap length is ∙ length-append xs (x ∷ [])

pub total_take : {X : Type 0} (xss : List (List X)) (k : ℕ) → total (take k xss) ≤ total xss
total_take [] zero = omega arith
total_take [] (suc k) = omega arith
total_take (xs ∷ xss) zero = omega arith
total_take (xs ∷ xss) (suc k) = let again = total_take xss k in omega (arith, again)

module _ {Record Slice Look Request Reply Act : Type 0} (rules : Rules Record Slice Look Request Reply Act) where
  each_short : (size : ℕ) (ss : List (List Request)) → total ss ≤ MOST_COMMITS → AllByRecursion (AllByRecursion (IsWithin rules size)) ss → AllByRecursion (IsScript rules size) ss
  each_short size [] few h = tt
  each_short size (s ∷ ss) few h = ((h.0, omega (arith, few)), each_short size ss (omega (arith, few)) h.1)

  -- each of the scripts is one
  pub are_scripts : (size : ℕ) (ss : List (List Request)) → AreScripts rules size ss → AllByRecursion (IsScript rules size) ss
  are_scripts size ss h = let few = h.few in each_short size ss (omega (arith, few)) h.keys

-- ---- a worker's calls

parts_long : {X : Type 0} (p : X → Bool) (xs : List X) → length (filter p xs) + length (filter (λ x. not (p x)) xs) ≡ length xs
parts_long p xs = length-filter_both p (λ x. not (p x)) (λ x. refl) xs

-- how much more of a script stash_is
pub stashed_long : {Request : Type 0} (script : List Request) (old new : Cursor Request) → old.next ≤ length script → HasStashed script old new →
    length new.stash.items + old.next ≡ length old.stash.items + new.next
stashed_long script old new le f =
    let a = length-append (calls_before script old.next) f.all in
    let b : length (calls_before script new.next) ≡ length (calls_before script old.next ++ f.all) = ap length f.follows in
    let c : length new.stash.items ≡ length old.stash.items + length f.all = ap length f.stash_is ∙ length-append old.stash.items f.all in
    omega (arith, a, b, c, long_before script old.next le, long_before script new.next f.next_in)

module _ {Record Slice Look Request Reply Act : Type 0} (rules : Rules Record Slice Look Request Reply Act) where
  -- what a split phase performs and what it puts off are what it is given
  pub done_long : (IsSmall : Act → Type 0) (a : Assignment Record Request) (new : Cursor Request) (journal : List (Entry Request Reply)) (slices : List Slice) →
      a.cursor.next ≤ length a.script → HasDone rules IsSmall a new journal slices →
      length journal + length new.stash.items + a.cursor.next ≡ length a.cursor.stash.items + new.next
  done_long IsSmall a new journal slices le f =
      let follows : length (calls_before a.script new.next) ≡ length (calls_before a.script a.cursor.next) + length f.all =
      ap length f.follows ∙ length-append (calls_before a.script a.cursor.next) f.all in
      let performed : length journal ≡ length (split_calls rules a.hot f.all) = sym (length-map journal call_of) ∙ ap length f.done.performed in
      let stash_is : length new.stash.items ≡ length a.cursor.stash.items + length (put_off rules a.hot f.all) =
      ap length f.done.stash_is ∙ length-append a.cursor.stash.items (put_off rules a.hot f.all) in
      let both : length (split_calls rules a.hot f.all) + length (put_off rules a.hot f.all) ≡ length f.all =
      parts_long (λ (call : ℕ × Request). is_taken rules a.hot call.1) f.all in
      omega (arith, follows, performed, stash_is, both, long_before a.script a.cursor.next le, long_before a.script new.next f.next_in)

  -- so it commits no more than is left of the script
  pub done_few : (IsSmall : Act → Type 0) (a : Assignment Record Request) (new : Cursor Request) (journal : List (Entry Request Reply)) (slices : List Slice) →
      a.cursor.next ≤ length a.script → HasDone rules IsSmall a new journal slices → length journal ≤ left_of a
  done_few IsSmall a new journal slices le f =
      let stash_is : length new.stash.items ≡ length a.cursor.stash.items + length (put_off rules a.hot f.all) =
      ap length f.done.stash_is ∙ length-append a.cursor.stash.items (put_off rules a.hot f.all) in
      omega (arith, stash_is, done_long IsSmall a new journal slices le f, f.next_in, le)

-- ---- a history by workers

above : (a b : ℕ) → a ≤ b → (b ≡ a → ⊥) → suc a ≤ b
above zero zero le other = absurd (other refl)
above zero (suc b) le other = omega arith
above (suc a) zero le other = absurd (omega (arith, le))
above (suc a) (suc b) le other = let again = above a b (omega (arith, le)) (λ is. other (ap suc is)) in omega (arith, again)

module _ {Q R : Type 0} where
  -- how many entries so many workers have, from one on
  abbrev of_workers : ℕ → ℕ → List (Entry Q R) → ℕ
  of_workers v zero es = 0
  of_workers v (suc m) es = length (entries_of v es) + of_workers (suc v) m es

  one_out : (v m : ℕ) (e : Entry Q R) (es : List (Entry Q R)) → e.worker < v → of_workers v m (e ∷ es) ≡ of_workers v m es
  one_out v zero e es lt = refl
  one_out v (suc m) e es lt =
      let here : entries_of v (e ∷ es) ≡ entries_of v es = cond-false (e.worker == v) _ _ (ne_eqb e.worker v (λ is. omega (arith, is, lt))) in
      (λ i. length (here i) + one_out (suc v) m e es (omega (arith, lt)) i)

  one_in_step : (v m : ℕ) (e : Entry Q R) (es : List (Entry Q R)) → v ≤ e.worker →
      (suc v ≤ e.worker → of_workers (suc v) m (e ∷ es) ≡ suc (of_workers (suc v) m es)) → (b : Bool) → (e.worker == v) ≡ b →
      length (entries_of v (e ∷ es)) + of_workers (suc v) m (e ∷ es) ≡ suc (length (entries_of v es) + of_workers (suc v) m es)
  one_in_step v m e es ge again true is =
      let own : length (entries_of v (e ∷ es)) ≡ suc (length (entries_of v es)) = ap length (cond-true (e.worker == v) (e ∷ entries_of v es) (entries_of v es) is) in
      let same = eqb-true e.worker v is in
      let rest = one_out (suc v) m e es (omega (arith, same)) in
      omega (arith, own, rest)
  one_in_step v m e es ge again false is =
      let other : length (entries_of v (e ∷ es)) ≡ length (entries_of v es) = ap length (cond-false (e.worker == v) (e ∷ entries_of v es) (entries_of v es) is) in
      let rest = again (above v e.worker ge (eqb-false e.worker v is)) in
      omega (arith, rest, other)

  one_in : (v m : ℕ) (e : Entry Q R) (es : List (Entry Q R)) → v ≤ e.worker → e.worker < v + m → of_workers v m (e ∷ es) ≡ suc (of_workers v m es)
  one_in v zero e es ge lt = absurd (omega (arith, ge, lt))
  one_in v (suc m) e es ge lt = one_in_step v m e es ge (λ more. one_in (suc v) m e es more (omega (arith, lt))) (e.worker == v) refl

  none_in : (v m : ℕ) (es : List (Entry Q R)) → es ≡ [] → of_workers v m es ≡ 0
  none_in v zero es none = refl
  none_in v (suc m) es none =
      let here : length (entries_of v es) ≡ 0 = ap (λ ds. length (entries_of v ds)) none in
      let again = none_in (suc v) m es none in omega (arith, here, again)

  all_in : (m : ℕ) (es : List (Entry Q R)) → AllByRecursion (λ (e : Entry Q R). e.worker < m) es → length es ≡ of_workers 0 m es
  all_in m [] h = sym (none_in 0 m [] refl)
  all_in m (e ∷ es) h =
      let lt = h.0 in
      ap suc (all_in m es h.1) ∙ sym (one_in 0 m e es (omega arith) (omega (arith, lt)))

-- every call
abbrev any_call : {Q : Type 0} → ℕ × Q → Bool
any_call call = true

-- how many requests wait, and how many the cursors passed
abbrev waiting : {Q : Type 0} → List (Cursor Q) → ℕ
waiting [] = 0
waiting (d ∷ ds) = length d.stash.items + waiting ds

abbrev passed : {Q : Type 0} → List (Cursor Q) → ℕ
passed [] = 0
passed (d ∷ ds) = d.next + passed ds

module _ {Record Slice Look Request Reply Act : Type 0} (rules : Rules Record Slice Look Request Reply Act) where
  served_long : (size v : ℕ) (s : List Request) (d : Cursor Request) (history : List (Entry Request Reply)) → HasServed rules size v s d history →
      length (entries_of v history) + length d.stash.items ≡ d.next
  served_long size v s d history h =
      let all : length (filter any_call (map call_of (entries_of v history))) + length (filter any_call d.stash.items) ≡ length (filter any_call (calls_before s d.next)) = h.counts any_call in
      let one : length (filter any_call (map call_of (entries_of v history))) ≡ length (entries_of v history) =
      ap length (filter_all (map call_of (entries_of v history))) ∙ length-map (entries_of v history) call_of in
      let two : length (filter any_call d.stash.items) ≡ length d.stash.items = ap length (filter_all d.stash.items) in
      let three : length (filter any_call (calls_before s d.next)) ≡ d.next = ap length (filter_all (calls_before s d.next)) ∙ long_before s d.next h.next_in in
      omega (arith, all, one, two, three)

  all_served_long : (size v : ℕ) (ss : List (List Request)) (ds : List (Cursor Request)) (history : List (Entry Request Reply)) → HaveServed rules size v ss ds history →
      of_workers v (length ss) history + waiting ds ≡ passed ds
  all_served_long size v [] [] history h = refl
  all_served_long size v (s ∷ ss) (d ∷ ds) history h =
      let here = served_long size v s d history h.0 in let again = all_served_long size (suc v) ss ds history h.1 in omega (arith, here, again)
  all_served_long size v ss ds history h = absurd h

  -- what is committed and what stash_is is what the cursors passed
  pub commits : (Fits : ℕ → Record → Type 0) (n : ℕ) (opened : List Record) (scripts : List (List Request)) (table : List Record) (history : List (Entry Request Reply)) (cursors : List (Cursor Request)) →
      IsRunState rules Fits n opened scripts table history cursors → length history + waiting cursors ≡ passed cursors
  commits Fits n opened scripts table history cursors f =
      let long = all_in (length scripts) history f.no_others in
      let all = all_served_long (length opened) 0 scripts cursors history f.served in omega (arith, long, all)

  passed_few : (size v : ℕ) (ss : List (List Request)) (ds : List (Cursor Request)) (history : List (Entry Request Reply)) → HaveServed rules size v ss ds history → passed ds ≤ total ss
  passed_few size v [] [] history h = omega arith
  passed_few size v (s ∷ ss) (d ∷ ds) history h =
      let here = h.0.next_in in let again = passed_few size (suc v) ss ds history h.1 in omega (arith, here, again)
  passed_few size v ss ds history h = absurd h

  -- once all is performed, each request has a commit
  none_waiting : (ss : List (List Request)) (ds : List (Cursor Request)) → AllFinished ss ds → (waiting ds ≡ 0) × (passed ds ≡ total ss)
  none_waiting [] [] h = (refl, refl)
  none_waiting (s ∷ ss) (d ∷ ds) h =
      let again = none_waiting ss ds h.1 in let none : length d.stash.items ≡ 0 = ap length h.0.1 in (omega (arith, none, again.0), omega (arith, h.0.0, again.1))
  none_waiting ss ds h = absurd h

  pub all_committed : (Fits : ℕ → Record → Type 0) (n : ℕ) (opened : List Record) (scripts : List (List Request)) (table : List Record) (history : List (Entry Request Reply))
      (cursors : List (Cursor Request)) → IsRunState rules Fits n opened scripts table history cursors → AllFinished scripts cursors → length history ≡ total scripts
  all_committed Fits n opened scripts table history cursors f h =
      let all = commits Fits n opened scripts table history cursors f in let done = none_waiting scripts cursors h in omega (arith, all, done.0, done.1)

  -- there is room for a worker's turn
  turn_few : (size v : ℕ) (ss : List (List Request)) (ds : List (Cursor Request)) (k : ℕ) (s : List Request) (d : Cursor Request) (history : List (Entry Request Reply)) →
      k < length ss → s ≡ get_or ss k s → d ≡ get_or ds k d → HaveServed rules size v ss ds history →
      length d.stash.items + passed ds + length s ≤ waiting ds + total ss + d.next
  turn_few size v [] ds k s d history lt is_s is_d h = absurd (omega (arith, lt))
  turn_few size v (t ∷ ss) [] k s d history lt is_s is_d h = absurd h
  turn_few size v (t ∷ ss) (e ∷ ds) zero s d history lt is_s is_d h =
      let rest = passed_few size (suc v) ss ds history h.1 in
      let stash : length d.stash.items ≡ length e.stash.items = ap (λ (c : Cursor Request). length c.stash.items) is_d in
      let next : d.next ≡ e.next = ap (λ (c : Cursor Request). c.next) is_d in
      let long : length s ≡ length t = ap length is_s in
      omega (arith, rest, stash, next, long)
  turn_few size v (t ∷ ss) (e ∷ ds) (suc k) s d history lt is_s is_d h =
      let again = turn_few size (suc v) ss ds k s d history (omega (arith, lt)) is_s is_d h.1 in
      let here = h.0.next_in in omega (arith, again, here)

  pub turn_room : (Fits : ℕ → Record → Type 0) (n : ℕ) (opened : List Record) (scripts : List (List Request)) (table : List Record) (history : List (Entry Request Reply)) (cursors : List (Cursor Request))
      (k : ℕ) (s : List Request) (d : Cursor Request) (most : ℕ) → total scripts ≤ most →
      k < length scripts → s ≡ get_or scripts k s → d ≡ get_or cursors k d → IsRunState rules Fits n opened scripts table history cursors →
      length history + length d.stash.items + length s ≤ most + d.next
  turn_room Fits n opened scripts table history cursors k s d most few lt is_s is_d f =
      let all = commits Fits n opened scripts table history cursors f in
      let turn = turn_few (length opened) 0 scripts cursors k s d history lt is_s is_d f.served in omega (arith, all, turn, few)

  -- and for all workers' parts of a split phase
  left_few : (size v : ℕ) (table : List Record) (hot : List Bool) (quota : ℕ) (ss : List (List Request)) (ds : List (Cursor Request)) (history : List (Entry Request Reply)) →
      HaveServed rules size v ss ds history → all_left (assignments table hot quota v ss ds) + passed ds ≡ total ss
  left_few size v table hot quota [] [] history h = refl
  left_few size v table hot quota (s ∷ ss) (d ∷ ds) history h =
      let again = left_few size (suc v) table hot quota ss ds history h.1 in let here = h.0.next_in in omega (arith, again, here)
  left_few size v table hot quota ss ds history h = absurd h

  pub split_room : (Fits : ℕ → Record → Type 0) (n : ℕ) (opened : List Record) (scripts : List (List Request)) (table : List Record) (history : List (Entry Request Reply)) (cursors : List (Cursor Request))
      (hot : List Bool) (quota most : ℕ) → total scripts ≤ most → IsRunState rules Fits n opened scripts table history cursors →
      length history + all_left (assignments table hot quota 0 scripts cursors) ≤ most
  split_room Fits n opened scripts table history cursors hot quota most few f =
      let all = commits Fits n opened scripts table history cursors f in
      let left = left_few (length opened) 0 table hot quota scripts cursors history f.served in omega (arith, all, left, few)

  -- each cursor is within its script
  pub all_next_in : (size v : ℕ) (table : List Record) (hot : List Bool) (quota : ℕ) (ss : List (List Request)) (ds : List (Cursor Request)) (history : List (Entry Request Reply)) →
      HaveServed rules size v ss ds history → AllByRecursion (λ (a : Assignment Record Request). a.cursor.next ≤ length a.script) (assignments table hot quota v ss ds)
  all_next_in size v table hot quota [] [] history h = tt
  all_next_in size v table hot quota [] (d ∷ ds) history h = tt
  all_next_in size v table hot quota (s ∷ ss) [] history h = tt
  all_next_in size v table hot quota (s ∷ ss) (d ∷ ds) history h = (h.0.next_in, all_next_in size (suc v) table hot quota ss ds history h.1)

pub left-append : {Record Request : Type 0} (given more : List (Assignment Record Request)) → all_left (given ++ more) ≡ all_left given + all_left more
left-append [] more = omega arith
left-append (a ∷ given) more = let again = left-append given more in omega (arith, again)

-- why jobs are not done is why a run gives no outcome
pub unstarted : (jobs workers : ℕ) (fault : JobFault) → jobs ≡ workers → IsUnstarted jobs fault → IsRunFault workers (fault_of_jobs fault)
unstarted jobs workers Spawn same is = omega (arith, same, is)
unstarted jobs workers Memory same is = tt
