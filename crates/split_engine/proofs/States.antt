-- What phases leave of where the workers stand.
use Rattle.std.proofs.Common.{◌≡◌, ℕ, zero, suc, ◌+◌, ◌*◌, ◌<◌, ◌≤◌, ◌==◌, Bool, true, not, cond, List, [], ◌∷◌, ◌++◌, length, map, get_or, set, drop, refl, sym, ap, ◌∙◌, subst, arith, append_assoc, drop-cons}
use Rattle.std.proofs.{Math.Numerals.{add-one}, lemmas.Bool.{eq-eqb, ne_eqb}}
use Rattle.std.proofs.lemmas.List.{Elements.{filter-append}, append-nil, map-append, length-append}
use Rattle.std.proofs.lemmas.List.{Filters.{sum_by-filter_both}, Sums.{fold-append, length-filter}}
use Rattle.std.specs.{List.{filter, AllByRecursion, AllZip}, Option.{option_map, option_to_list}}
use Rattle.std.specs.{Prelude.{slice_get, Vec, Result, Ok, IfOk}, declared.alloc.Global.{Global}}
use Rattle.phase_laws.proofs.ListLemmas.{all-right, all-append}
use Rattle.phase_laws.{proofs.OrderLemmas.{all-filter, all-weaker}, specs.Order.{part}}
use Rattle.split_engine.proofs.Counts.{left-append}
use Rattle.split_engine.proofs.Sessions.{order_same, order_turned, order_worked}
use Rattle.split_engine.proofs.{Splits.{replay, opened_merged}, Works.{replays_both}}
use Rattle.split_engine.specs.Rules.{Rules, SplitLaws}
use Rattle.split_engine.specs.Serial.{IsWithin, after_entry, ReplaysFrom, table_after}
use Rattle.split_engine.specs.Serving.{lists, calls_before, call_of, calls_of, count, IsScript}
use Rattle.split_engine.specs.Splitting.{Interleaves, Neither, First, Second, InterleavesAll, IsSplitEntry, slices_of, merged_all, all_merged}
use Rattle.split_engine.specs.declared.{entry.Entry.{Entry}, few.TheConstants.{MOST_KEYS}}
use Rattle.split_engine.specs.declared.state.Cursor.{Cursor}
use Rattle.split_engine.specs.inner.Assignments.{Assignment, assignment, assignments, left_of, HasDone, HaveDone, HasClosed}
use Rattle.split_engine.specs.inner.Commits.{joined}
use Rattle.split_engine.specs.inner.Phases.{is_taken, split_calls, put_off, HasStashed, HasServed, HaveServed, HasTurned, IsRunState}

second_alone : {X : Type 0} (ys : List X) → Interleaves [] ys ys
second_alone [] = Neither
second_alone (y ∷ ys) = Second y (second_alone ys)

one_after_the_other : {X : Type 0} (xs ys : List X) → Interleaves xs ys (xs ++ ys)
one_after_the_other [] ys = second_alone ys
one_after_the_other (x ∷ xs) ys = First x (one_after_the_other xs ys)

-- journals one after the other are an interleaving
pub all_in_turn : {X : Type 0} (journals : List (List X)) → InterleavesAll journals (joined journals)
all_in_turn [] = refl
all_in_turn (journal ∷ journals) = (joined journals, all_in_turn journals, one_after_the_other journal (joined journals))

there : {Q : Type 0} (P : Q → Type 0) (script : List Q) (n k : ℕ) → AllByRecursion P script →
    AllByRecursion (λ (call : ℕ × Q). P call.1) (option_to_list (option_map (λ q. (k, q)) (slice_get script n)))
there P [] n k h = tt
there P (q ∷ qs) zero k h = (h.0, tt)
there P (q ∷ qs) (suc n) k h = there P qs n k h.1

-- what holds of a script's requests holds of its calls
pub all_calls : {Q : Type 0} (P : Q → Type 0) (script : List Q) (n : ℕ) → AllByRecursion P script → AllByRecursion (λ (call : ℕ × Q). P call.1) (calls_before script n)
all_calls P script zero h = tt
all_calls P script (suc n) h = all-append _ (calls_before script n) _ (all_calls P script n h) (there P script n n h)

pub count_both : {X : Type 0} (p : X → Bool) (xs ys : List X) → count p (xs ++ ys) ≡ count p xs + count p ys
count_both p xs ys = ap length (filter-append p xs ys) ∙ length-append (filter p xs) (filter p ys)

pub count_parts : {X : Type 0} (p q : X → Bool) (xs : List X) → count p (filter q xs) + count p (filter (λ x. not (q x)) xs) ≡ count p xs
count_parts p q xs =
    (λ i. length-filter p (filter q xs) i + length-filter p (filter (λ x. not (q x)) xs) i)
    ∙ sum_by-filter_both q (λ x. not (q x)) (λ x. refl) (λ x. cond (p x) 1 0) xs ∙ sym (length-filter p xs)

-- a vector's list in a list of vectors
pub listed : {X : Type 0} (vs : List (Vec X Global)) (k : ℕ) (v : Vec X Global) → k < length vs → v ≡ get_or vs k v →
    (k < length (lists vs)) × (v.items ≡ get_or (lists vs) k v.items)
listed [] k v lt is = absurd (omega (arith, lt))
listed (w ∷ vs) zero v lt is = (omega arith, ap (λ (u : Vec _ Global). u.items) is)
listed (w ∷ vs) (suc k) v lt is = let rest = listed vs k v (omega (arith, lt)) is in (omega (arith, rest.0), rest.1)

module _ {Q R : Type 0} where
  abbrev own_part : ℕ → List (Entry Q R) → List (Entry Q R)
  own_part w es = part (λ (e : Entry Q R). e.worker) w es

  part_own : (w : ℕ) (es : List (Entry Q R)) → AllByRecursion (λ (e : Entry Q R). e.worker ≡ w) es → own_part w es ≡ es
  part_own w [] h = refl
  part_own w (e ∷ es) h =
      ap (λ b. cond b (e ∷ own_part w es) (own_part w es)) (eq-eqb e.worker w h.0)
      ∙ ap (λ ds. e ∷ ds) (part_own w es h.1)

  part_other : (w : ℕ) (es : List (Entry Q R)) → AllByRecursion (λ (e : Entry Q R). e.worker ≡ w → ⊥) es → own_part w es ≡ []
  part_other w [] h = refl
  part_other w (e ∷ es) h =
      ap (λ b. cond b (e ∷ own_part w es) (own_part w es)) (ne_eqb e.worker w h.0)
      ∙ part_other w es h.1

  pub parts_own : (w : ℕ) (history more : List (Entry Q R)) → AllByRecursion (λ (e : Entry Q R). e.worker ≡ w) more → own_part w (history ++ more) ≡ own_part w history ++ more
  parts_own w history more own = filter-append (λ (e : Entry Q R). e.worker == w) history more ∙ ap (λ es. own_part w history ++ es) (part_own w more own)

  pub parts_other : (w : ℕ) (history more : List (Entry Q R)) → AllByRecursion (λ (e : Entry Q R). e.worker ≡ w → ⊥) more → own_part w (history ++ more) ≡ own_part w history
  parts_other w history more others =
      filter-append (λ (e : Entry Q R). e.worker == w) history more ∙ ap (λ es. own_part w history ++ es) (part_other w more others) ∙ append-nil (own_part w history)

  pub calls_own : (w : ℕ) (history more : List (Entry Q R)) → AllByRecursion (λ (e : Entry Q R). e.worker ≡ w) more →
      calls_of w (history ++ more) ≡ calls_of w history ++ map call_of more
  calls_own w history more own =
      ap (map call_of) (filter-append (λ (e : Entry Q R). e.worker == w) history more ∙ ap (λ es. own_part w history ++ es) (part_own w more own))
      ∙ map-append call_of (own_part w history) more

  pub own_not : (w v : ℕ) → (w ≡ v → ⊥) → (more : List (Entry Q R)) → AllByRecursion (λ (e : Entry Q R). e.worker ≡ w) more →
      AllByRecursion (λ (e : Entry Q R). e.worker ≡ v → ⊥) more
  own_not w v ne more own = all-weaker (λ (e : Entry Q R). e.worker ≡ w) (λ e. e.worker ≡ v → ⊥) (λ e is same. ne (sym is ∙ same)) more own

module _ {Record Slice Look Request Reply Act : Type 0} (rules : Rules Record Slice Look Request Reply Act) where
  served_same : (size w : ℕ) (script : List Request) (cursor : Cursor Request) (history later : List (Entry Request Reply)) →
      own_part w later ≡ own_part w history → HasServed rules size w script cursor history → HasServed rules size w script cursor later
  served_same size w script cursor history later same h = record {
    counts = λ p. ap (λ es. count p (map call_of es) + count p cursor.stash.items) same ∙ h.counts p;
    within = h.within;
    next_in = h.next_in;
    order = order_same rules w cursor history later same h.order;
  }

  pub have_same : (size u : ℕ) (ss : List (List Request)) (ds : List (Cursor Request)) (history later : List (Entry Request Reply)) →
      ((w : ℕ) → u ≤ w → own_part w later ≡ own_part w history) → HaveServed rules size u ss ds history → HaveServed rules size u ss ds later
  have_same size u [] [] history later same h = tt
  have_same size u (s ∷ ss) (d ∷ ds) history later same h = (
    served_same size u s d history later (same u (omega arith)) h.0,
    have_same size (suc u) ss ds history later (λ w le. same w (omega (arith, le))) h.1,
  )
  have_same size u ss ds history later same h = h

  pub have_set : (size v : ℕ) (ss : List (List Request)) (ds : List (Cursor Request)) (k : ℕ) (s : List Request) (cursor : Cursor Request) (history later : List (Entry Request Reply)) →
      ((w : ℕ) → (v + k ≡ w → ⊥) → own_part w later ≡ own_part w history) → s ≡ get_or ss k s →
      HasServed rules size (v + k) s cursor later → HaveServed rules size v ss ds history → HaveServed rules size v ss (set ds k cursor) later
  have_set size v [] [] k s cursor history later same is own h = tt
  have_set size v (s' ∷ ss) (d ∷ ds) zero s cursor history later same is own h =
      let here : v + 0 ≡ v = omega arith in (
        subst (λ (p : ℕ × List Request). HasServed rules size p.0 p.1 cursor later) (λ i. (here i, is i)) own,
        have_same size (suc v) ss ds history later (λ w le. same w (λ e. omega (arith, le, e))) h.1,
      )
  have_set size v (s' ∷ ss) (d ∷ ds) (suc k) s cursor history later same is own h =
      let next : v + suc k ≡ suc v + k = omega arith in (
        served_same size v s' d history later (same v (λ e. omega (arith, e))) h.0,
        have_set size (suc v) ss ds k s cursor history later (λ w ne. same w (λ e. ne (sym next ∙ e))) is
            (subst (λ w. HasServed rules size w s cursor later) next own) h.1,
      )
  have_set size v ss ds k s cursor history later same is own h = absurd h

  pub have_at : (size v : ℕ) (ss : List (List Request)) (ds : List (Cursor Request)) (k : ℕ) (s : List Request) (cursor : Cursor Request) (history : List (Entry Request Reply)) →
      k < length ss → s ≡ get_or ss k s → cursor ≡ get_or ds k cursor → HaveServed rules size v ss ds history → HasServed rules size (v + k) s cursor history
  have_at size v [] [] k s cursor history lt is_s is_d h = absurd (omega (arith, lt))
  have_at size v (s' ∷ ss) (d ∷ ds) zero s cursor history lt is_s is_d h =
      let here : v ≡ v + 0 = omega arith in
      subst (λ (p : ℕ × List Request × Cursor Request). HasServed rules size p.0 p.1 p.2 history) (λ i. (here i, sym is_s i, sym is_d i)) h.0
  have_at size v (s' ∷ ss) (d ∷ ds) (suc k) s cursor history lt is_s is_d h =
      let next : suc v + k ≡ v + suc k = omega arith in
      subst (λ w. HasServed rules size w s cursor history) next (have_at size (suc v) ss ds k s cursor history (omega (arith, lt)) is_s is_d h.1)
  have_at size v ss ds k s cursor history lt is_s is_d h = absurd h

  pub have_length : (size v : ℕ) (ss : List (List Request)) (ds : List (Cursor Request)) (history : List (Entry Request Reply)) →
      HaveServed rules size v ss ds history → length ds ≡ length ss
  have_length size v [] [] history h = refl
  have_length size v (s ∷ ss) (d ∷ ds) history h = ap suc (have_length size (suc v) ss ds history h.1)
  have_length size v ss ds history h = absurd h

  pub stashed_within : (size w : ℕ) (script : List Request) (old mid : Cursor Request) (history : List (Entry Request Reply)) →
      AllByRecursion (IsWithin rules size) script → HasServed rules size w script old history → HasStashed script old mid →
      AllByRecursion (λ (call : ℕ × Request). IsWithin rules size call.1) mid.stash.items
  stashed_within size w script old mid history all h f =
      let P : ℕ × Request → Type 0 = λ call. IsWithin rules size call.1 in
      subst (AllByRecursion P) (sym f.stash_is) (all-append P old.stash.items f.all h.within
      (all-right P (calls_before script old.next) f.all (subst (AllByRecursion P) f.follows (all_calls (IsWithin rules size) script mid.next all))))

  pub served_stashed : (size w : ℕ) (script : List Request) (old mid new : Cursor Request) (history more : List (Entry Request Reply)) →
      HasServed rules size w script old history → HasStashed script old mid → AllByRecursion (λ (e : Entry Request Reply). e.worker ≡ w) more →
      map call_of more ≡ mid.stash.items → new.next ≡ mid.next → new.stash.items ≡ [] → HasServed rules size w script new (history ++ more)
  served_stashed size w script old mid new history more h f own performed next empty = record {
    counts = λ p.
        let a : count p (calls_of w (history ++ more)) ≡ count p (calls_of w history) + count p mid.stash.items =
        ap (count p) (calls_own w history more own ∙ ap (λ cs. calls_of w history ++ cs) performed) ∙ count_both p (calls_of w history) mid.stash.items in
        let b : count p new.stash.items ≡ 0 = ap (count p) empty in
        let c : count p mid.stash.items ≡ count p old.stash.items + count p f.all = ap (count p) f.stash_is ∙ count_both p old.stash.items f.all in
        let d : count p (calls_before script new.next) ≡ count p (calls_before script old.next) + count p f.all =
        ap (λ n. count p (calls_before script n)) next ∙ ap (count p) f.follows ∙ count_both p (calls_before script old.next) f.all in
        omega (arith, a, b, c, d, h.counts p);
    within = subst (AllByRecursion (λ (call : ℕ × Request). IsWithin rules size call.1)) (sym empty) tt;
    next_in = subst (λ n. n ≤ length script) (sym next) f.next_in;
    order = order_turned rules w script old mid new history more h.next_in h.order f own (parts_own w history more own) performed next empty;
  }

  module _ (Fits : ℕ → Record → Type 0) (n : ℕ) (opened : List Record) (scripts : List (List Request)) where
    pub state_turned : (table after : List Record) (history later : List (Entry Request Reply)) (cursors : List (Cursor Request)) (k : ℕ) (s : List Request) (cursor : Cursor Request) →
        k < length scripts → s ≡ get_or scripts k s →
        IsRunState rules Fits n opened scripts table history cursors → HasTurned rules Fits k s table history after later cursor →
        IsRunState rules Fits n opened scripts after later (set cursors k cursor)
    state_turned table after history later cursors k s cursor lt is f t =
        let others : (w : ℕ) → (0 + k ≡ w → ⊥) → own_part w (history ++ t.more) ≡ own_part w history =
        λ w ne. parts_other w history t.more (own_not k w (λ e. ne (omega (arith, e))) t.more t.own) in
        let here : k ≡ 0 + k = omega arith in
        let served : HasServed rules (length opened) (0 + k) s cursor (history ++ t.more) =
        subst (λ (p : ℕ × ℕ × List (Entry Request Reply)). HasServed rules p.0 p.1 s cursor p.2) (λ i. (f.size_is i, here i, t.history_is i)) t.served in
        let state : IsRunState rules Fits n opened scripts after (history ++ t.more) (set cursors k cursor) = record {
          replays = replays_both rules opened history t.more f.replays (subst (λ b. ReplaysFrom rules b t.more) f.leaves t.replays);
          leaves = t.table_is ∙ ap (λ b. table_after rules b t.more) f.leaves ∙ sym (fold-append (after_entry rules) opened history t.more);
          size_is = t.size_is ∙ f.size_is;
          fits = subst (λ h. AllByRecursion (Fits (n + MOST_KEYS * length h)) after) t.history_is (t.fits n f.fits);
          served = have_set (length opened) 0 scripts cursors k s cursor history (history ++ t.more) others is served f.served;
          no_others = all-append _ history t.more f.no_others (all-weaker (λ (e : Entry Request Reply). e.worker ≡ k) (λ e. e.worker < length scripts) (λ e own. omega (arith, own, lt)) t.more t.own);
        } in subst (λ h. IsRunState rules Fits n opened scripts after h (set cursors k cursor)) (sym t.history_is) state

  module _ (Fits : ℕ → Record → Type 0) (SliceFits : ℕ → Slice → Type 0) (IsSmall : Act → Type 0) (laws : SplitLaws rules Fits SliceFits IsSmall)
      (table : List Record) (hot : List Bool) (quota : ℕ) where
    served_worked : (w : ℕ) (script : List Request) (old new : Cursor Request) (history journal : List (Entry Request Reply)) (slices : List Slice) →
        AllByRecursion (IsWithin rules (length table)) script → HasServed rules (length table) w script old history →
        HasDone rules IsSmall (assignment table hot w script quota old) new journal slices →
        HasServed rules (length table) w script new (history ++ journal)
    served_worked w script old new history journal slices all h f =
        let P : ℕ × Request → Type 0 = λ call. IsWithin rules (length table) call.1 in record {
          counts = λ p.
              let a : count p (calls_of w (history ++ journal)) ≡ count p (calls_of w history) + count p (split_calls rules hot f.all) =
              ap (count p) (calls_own w history journal f.done.own ∙ ap (λ cs. calls_of w history ++ cs) f.done.performed) ∙ count_both p (calls_of w history) (split_calls rules hot f.all) in
              let b : count p new.stash.items ≡ count p old.stash.items + count p (put_off rules hot f.all) =
              ap (count p) f.done.stash_is ∙ count_both p old.stash.items (put_off rules hot f.all) in
              let c : count p (split_calls rules hot f.all) + count p (put_off rules hot f.all) ≡ count p f.all =
              count_parts p (λ (call : ℕ × Request). is_taken rules hot call.1) f.all in
              let d : count p (calls_before script new.next) ≡ count p (calls_before script old.next) + count p f.all =
              ap (count p) f.follows ∙ count_both p (calls_before script old.next) f.all in
              omega (arith, a, b, c, d, h.counts p);
          within = subst (AllByRecursion P) (sym f.done.stash_is) (all-append P old.stash.items (put_off rules hot f.all) h.within
              (all-filter P (λ (call : ℕ × Request). not (is_taken rules hot call.1)) f.all
              (all-right P (calls_before script old.next) f.all (subst (AllByRecursion P) f.follows (all_calls (IsWithin rules (length table)) script new.next all)))));
          next_in = f.next_in;
          order = order_worked rules (is_taken rules hot) w script old new history journal f.all h.next_in f.next_in h.order f.follows
              (all-weaker (IsSplitEntry rules IsSmall table) (λ (e : Entry Request Reply). rules.splits e.request ≡ true) (λ e split. split.splits) journal f.done.split)
              (parts_own w history journal f.done.own) f.done.performed f.done.stash_is;
        }

    -- the entries of the workers from one on
    workers_of : (v : ℕ) (ss : List (List Request)) (olds news : List (Cursor Request)) (js : List (List (Entry Request Reply))) →
        HaveDone rules IsSmall (assignments table hot quota v ss olds) news js →
        AllByRecursion (λ (e : Entry Request Reply). (v ≤ e.worker) × (e.worker < v + length ss)) (joined js)
    workers_of v [] olds news js h = subst (λ xs. AllByRecursion (λ (e : Entry Request Reply). (v ≤ e.worker) × (e.worker < v + 0)) (joined xs)) (sym h.1) tt
    workers_of v (s ∷ ss) [] news js h = subst (λ xs. AllByRecursion (λ (e : Entry Request Reply). (v ≤ e.worker) × (e.worker < v + suc (length ss))) (joined xs)) (sym h.1) tt
    workers_of v (s ∷ ss) (d ∷ ds) (e ∷ es) (j ∷ js) h =
        all-append _ j (joined js)
        (all-weaker (λ (e : Entry Request Reply). e.worker ≡ v) (λ e. (v ≤ e.worker) × (e.worker < v + suc (length ss))) (λ e own. (omega (arith, own), omega (arith, own))) j h.0.done.own)
        (all-weaker (λ (e : Entry Request Reply). (suc v ≤ e.worker) × (e.worker < suc v + length ss)) (λ e. (v ≤ e.worker) × (e.worker < v + suc (length ss)))
        (λ e own. (omega (arith, own.0), omega (arith, own.1))) (joined js) (workers_of (suc v) ss ds es js h.1))
    workers_of v ss olds news js h = absurd h

    all_split : (v : ℕ) (ss : List (List Request)) (olds news : List (Cursor Request)) (js : List (List (Entry Request Reply))) →
        HaveDone rules IsSmall (assignments table hot quota v ss olds) news js → AllByRecursion (IsSplitEntry rules IsSmall table) (joined js)
    all_split v (s ∷ ss) (d ∷ ds) [] js h = absurd h
    all_split v (s ∷ ss) (d ∷ ds) (e ∷ es) [] h = absurd h
    all_split v (s ∷ ss) (d ∷ ds) (e ∷ es) (j ∷ js) h = all-append _ j (joined js) h.0.done.split (all_split (suc v) ss ds es js h.1)
    all_split v ss olds news js h = subst (λ xs. AllByRecursion (IsSplitEntry rules IsSmall table) (joined xs)) (sym h.1) tt

    have_worked : (v : ℕ) (ss : List (List Request)) (olds news : List (Cursor Request)) (js : List (List (Entry Request Reply))) (history : List (Entry Request Reply)) →
        AllByRecursion (IsScript rules (length table)) ss → HaveServed rules (length table) v ss olds history →
        HaveDone rules IsSmall (assignments table hot quota v ss olds) news js → HaveServed rules (length table) v ss news (history ++ joined js)
    have_worked v [] [] news js history all h f = subst (λ ds. HaveServed rules (length table) v [] ds (history ++ joined js)) (sym f.0) tt
    have_worked v (s ∷ ss) (d ∷ ds) [] js history all h f = absurd f
    have_worked v (s ∷ ss) (d ∷ ds) (e ∷ es) [] history all h f = absurd f
    have_worked v (s ∷ ss) (d ∷ ds) (e ∷ es) (j ∷ js) history all h f =
        let above : AllByRecursion (λ (e : Entry Request Reply). e.worker ≡ v → ⊥) (joined js) =
        all-weaker (λ (e : Entry Request Reply). (suc v ≤ e.worker) × (e.worker < suc v + length ss)) (λ e. e.worker ≡ v → ⊥) (λ e own is. omega (arith, own.0, is)) (joined js) (workers_of (suc v) ss ds es js f.1) in
        let whole = append_assoc history j (joined js) in
        let here : HasServed rules (length table) v s e ((history ++ j) ++ joined js) =
        served_same (length table) v s e (history ++ j) ((history ++ j) ++ joined js) (parts_other v (history ++ j) (joined js) above)
        (served_worked v s d e history j (slices_of rules table j) all.0.0 h.0 f.0) in
        let later : HaveServed rules (length table) (suc v) ss ds (history ++ j) =
        have_same (length table) (suc v) ss ds history (history ++ j) (λ w le. parts_other w history j (own_not v w (λ is. omega (arith, le, is)) j f.0.done.own)) h.1 in
        subst (λ all. HaveServed rules (length table) v (s ∷ ss) (e ∷ es) all) whole (here, have_worked (suc v) ss ds es js (history ++ j) all.1 later f.1)
    have_worked v ss olds news js history all h f = absurd h

    pub state_worked : (n : ℕ) (opened : List Record) (scripts : List (List Request)) (after : List Record) (history later : List (Entry Request Reply)) (olds news : List (Cursor Request)) (js : List (List (Entry Request Reply))) →
        AllByRecursion (IsScript rules (length table)) scripts →
        IsRunState rules Fits n opened scripts table history olds → HaveDone rules IsSmall (assignments table hot quota 0 scripts olds) news js →
        after ≡ all_merged rules table table js → length after ≡ length table → later ≡ history ++ joined js → AllByRecursion (Fits (n + MOST_KEYS * length later)) after →
        IsRunState rules Fits n opened scripts after later news
    state_worked n opened scripts after history later olds news js all f h merged size long fits =
        let split = all_split 0 scripts olds news js h in
        let at : after ≡ table_after rules table (joined js) =
        merged ∙ opened_merged rules Fits SliceFits IsSmall laws table (n + MOST_KEYS * length history) js (joined js) f.fits (all_in_turn js) split in
        let replays = replay rules Fits SliceFits IsSmall laws table table (joined js) (λ key. refl) split in
        let state : IsRunState rules Fits n opened scripts after (history ++ joined js) news = record {
          replays = replays_both rules opened history (joined js) f.replays (subst (λ b. ReplaysFrom rules b (joined js)) f.leaves replays);
          leaves = at ∙ ap (λ b. table_after rules b (joined js)) f.leaves ∙ sym (fold-append (after_entry rules) opened history (joined js));
          size_is = size ∙ f.size_is;
          fits = subst (λ es. AllByRecursion (Fits (n + MOST_KEYS * length es)) after) long fits;
          served = subst (λ m. HaveServed rules m 0 scripts news (history ++ joined js)) f.size_is
              (have_worked 0 scripts olds news js history all (subst (λ m. HaveServed rules m 0 scripts olds history) (sym f.size_is) f.served) h);
          no_others = all-append _ history (joined js) f.no_others (all-weaker (λ (e : Entry Request Reply). (0 ≤ e.worker) × (e.worker < 0 + length scripts)) (λ e. e.worker < length scripts)
              (λ e own. omega (arith, own.1)) (joined js) (workers_of 0 scripts olds news js h));
        } in subst (λ es. IsRunState rules Fits n opened scripts after es news) (sym long) state

-- a list from a place on
pub drop_step : {X : Type 0} (xs : List X) (k : ℕ) (x : X) → k < length xs → x ≡ get_or xs k x → drop k xs ≡ x ∷ drop (suc k) xs
drop_step xs k x lt is = drop-cons xs k x lt ∙ ap (λ y. y ∷ drop (suc k) xs) (sym is)

mapped_zip : {X V Y : Type 0} (view : X → V) (K : V → Y → Type 0) (xs : List X) (ys : List Y) → AllZip (λ x y. K (view x) y) xs ys → AllZip K (map view xs) ys
mapped_zip view K [] [] h = tt
mapped_zip view K (x ∷ xs) (y ∷ ys) h = (h.0, mapped_zip view K xs ys h.1)
mapped_zip view K xs ys h = h

pub zip_map : {X V Y : Type 0} (xs : List X) (ys : List Y) (vs : List V) (view : X → V) (K : V → Y → Type 0) → map view xs ≡ vs → AllZip (λ x y. K (view x) y) xs ys → AllZip K vs ys
zip_map xs ys vs view K is h = subst (λ us. AllZip K us ys) is (mapped_zip view K xs ys h)

pub joined_push : {X : Type 0} (xss : List (List X)) (xs : List X) → joined (xss ++ xs ∷ []) ≡ joined xss ++ xs
joined_push [] xs = append-nil xs
joined_push (ys ∷ xss) xs = ap (λ zs. ys ++ zs) (joined_push xss xs) ∙ sym (append_assoc ys (joined xss) xs)

module _ {Record Slice Look Request Reply Act : Type 0} (rules : Rules Record Slice Look Request Reply Act) where
  merged_push : (opened table : List Record) (js : List (List (Entry Request Reply))) (j : List (Entry Request Reply)) →
      all_merged rules opened table (js ++ j ∷ []) ≡ merged_all rules (all_merged rules opened table js) (slices_of rules opened j)
  merged_push opened table [] j = refl
  merged_push opened table (i ∷ js) j = merged_push opened (merged_all rules table (slices_of rules opened i)) js j

  module _ (IsSmall : Act → Type 0) where
    worked_push : (given : List (Assignment Record Request)) (ds : List (Cursor Request)) (js : List (List (Entry Request Reply))) (a : Assignment Record Request) (d : Cursor Request) (j : List (Entry Request Reply)) →
        HaveDone rules IsSmall given ds js → HasDone rules IsSmall a d j (slices_of rules a.table j) → HaveDone rules IsSmall (given ++ a ∷ []) (ds ++ d ∷ []) (js ++ j ∷ [])
    worked_push [] ds js a d j h w =
        subst (λ (p : List (Cursor Request) × List (List (Entry Request Reply))). HaveDone rules IsSmall (a ∷ []) (p.0 ++ d ∷ []) (p.1 ++ j ∷ [])) (λ i. (sym h.0 i, sym h.1 i)) (w, (refl, refl))
    worked_push (b ∷ given) (e ∷ ds) (i ∷ js) a d j h w = (h.0, worked_push given ds js a d j h.1 w)
    worked_push given ds js a d j h w = absurd h

    pub closed_none : (Fits : ℕ → Record → Type 0) (table : List Record) (history : List (Entry Request Reply)) (cursors : List (Cursor Request)) →
        cursors ≡ [] → HasClosed rules IsSmall Fits [] table history table history cursors
    closed_none Fits table history cursors none = record {
      journals = [];
      worked = (none, refl);
      merged = refl;
      size_is = refl;
      history_is = sym (append-nil history);
      few = omega arith;
      fits = λ n h. h;
    }

    pub closed_more : (Fits : ℕ → Record → Type 0) (before : List (Assignment Record Request)) (table mid after : List Record) (history some later : List (Entry Request Reply)) (olds news : List (Cursor Request))
        (a : Assignment Record Request) (d : Cursor Request) (j : List (Entry Request Reply)) (slices : List Slice) →
        HasClosed rules IsSmall Fits before table history mid some olds → a.table ≡ table → HasDone rules IsSmall a d j slices → length j ≤ left_of a →
        after ≡ merged_all rules mid slices → length after ≡ length mid → later ≡ some ++ j → news ≡ olds ++ d ∷ [] →
        ((n : ℕ) → AllByRecursion (Fits (n + MOST_KEYS * length some)) mid → AllByRecursion (Fits (n + MOST_KEYS * length later)) after) →
        HasClosed rules IsSmall Fits (before ++ a ∷ []) table history after later news
    closed_more Fits before table mid after history some later olds news a d j slices h same w few merged size long cursors fits =
        let are = w.done.slices_are in
        let worked : HasDone rules IsSmall a d j (slices_of rules a.table j) = subst (λ ss. HasDone rules IsSmall a d j ss) are w in record {
          journals = h.journals ++ j ∷ [];
          worked = subst (λ ds. HaveDone rules IsSmall (before ++ a ∷ []) ds (h.journals ++ j ∷ [])) (sym cursors) (worked_push before olds h.journals a d j h.worked worked);
          merged = merged ∙ (λ i. merged_all rules (h.merged i) ((are ∙ ap (λ t. slices_of rules t j) same) i)) ∙ sym (merged_push table table h.journals j);
          size_is = size ∙ h.size_is;
          history_is = long ∙ ap (λ es. es ++ j) h.history_is ∙ append_assoc history (joined h.journals) j ∙ ap (λ es. history ++ es) (sym (joined_push h.journals j));
          few = omega (arith, h.few, few, ap length long, length-append some j, left-append before (a ∷ []));
          fits = λ n f. fits n (h.fits n f);
        }

-- the first that stands beside one
pub zip_first : {X Y : Type 0} (K : X → Y → Type 0) (xs : List X) (y : Y) (ys : List Y) → AllZip K xs (y ∷ ys) → (x : X) × (more : List X) × (xs ≡ x ∷ more) × K x y × AllZip K more ys
zip_first K [] y ys h = absurd h
zip_first K (x ∷ xs) y ys h = (x, xs, refl, h.0, h.1)

pub zip_none : {X Y : Type 0} (K : X → Y → Type 0) (xs : List X) (ys : List Y) → ys ≡ [] → AllZip K xs ys → xs ≡ []
zip_none K [] ys none h = refl
zip_none K (x ∷ xs) ys none h = absurd (subst (AllZip K (x ∷ xs)) none h)

pub if_ok : {T E : Type 0} (P : T → Type 0) (answer : Result T E) (t : T) → answer ≡ Ok t → IfOk answer P → P t
if_ok P answer t is h = subst (λ a. IfOk a P) is h

pub same_table : {Record Request : Type 0} (table : List Record) (hot : List Bool) (quota v : ℕ) (ss : List (List Request)) (ds : List (Cursor Request)) →
    AllByRecursion (λ (a : Assignment Record Request). a.table ≡ table) (assignments table hot quota v ss ds)
same_table table hot quota v (s ∷ ss) (d ∷ ds) = (refl, same_table table hot quota (suc v) ss ds)
same_table table hot quota v ss ds = tt

pub assigned_next : {Record Request : Type 0} (table : List Record) (hot : List Bool) (quota k : ℕ) (ss : List (List Request)) (ds : List (Cursor Request)) (s : List Request) (d : Cursor Request) (rest : List (Cursor Request)) →
    k < length ss → s ≡ get_or ss k s → ds ≡ d ∷ rest →
    assignments table hot quota k (drop k ss) ds ≡ assignment table hot k s quota d ∷ assignments table hot quota (k + 1) (drop (k + 1) ss) rest
assigned_next table hot quota k ss ds s d rest lt is next =
    (λ i. assignments table hot quota k (drop_step ss k s lt is i) (next i))
    ∙ ap (λ n. assignment table hot k s quota d ∷ assignments table hot quota n (drop n ss) rest) (sym (add-one k))

pub served_next : {Record Slice Look Request Reply Act : Type 0} (rules : Rules Record Slice Look Request Reply Act) (size k : ℕ) (ss : List (List Request)) (ds : List (Cursor Request)) (s : List Request) (d : Cursor Request)
    (rest : List (Cursor Request)) (history : List (Entry Request Reply)) →
    k < length ss → s ≡ get_or ss k s → ds ≡ d ∷ rest → HaveServed rules size k (drop k ss) ds history →
    HasServed rules size k s d history × HaveServed rules size (k + 1) (drop (k + 1) ss) rest history
served_next rules size k ss ds s d rest history lt is next h =
    let both = subst (λ (p : List (List _) × List (Cursor _)). HaveServed rules size k p.0 p.1 history) (λ i. (drop_step ss k s lt is i, next i)) h in
    (both.0, subst (λ n. HaveServed rules size n (drop n ss) rest history) (sym (add-one k)) both.1)

pub tasks_none : {J V : Type 0} (view : J → V) (made : List J) (old all : List V) → made ≡ [] → old ≡ all → map view made ++ old ≡ all
tasks_none view made old all none same = ap (λ xs. map view xs ++ old) none ∙ same

pub tasks_all : {J V : Type 0} (view : J → V) (made : List J) (left all : List V) → left ≡ [] → map view made ++ left ≡ all → map view made ≡ all
tasks_all view made left all none is = sym (append-nil (map view made)) ∙ ap (λ vs. map view made ++ vs) (sym none) ∙ is
