-- Where a run begins and ends.
use Rattle.std.proofs.Common.{◌≡◌, ℕ, zero, suc, ◌+◌, ◌*◌, ◌<◌, ◌≤◌, List, [], ◌∷◌, ◌++◌, length, take, set, get_or, refl, sym, ap, ◌∙◌, subst, arith}
use Rattle.std.proofs.Math.{Numerals.{add-one}, Seq.{take-suc}}
use Rattle.std.{proofs.lemmas.List.{take_all, take_more_set}, specs.List.{AllByRecursion}}
use Rattle.split_engine.{proofs.Sessions.{order_at_first}, specs.Rules.{Rules}}
use Rattle.split_engine.specs.Serving.{calls_before, count, Serves, AllServe, IsOutcome}
use Rattle.split_engine.specs.declared.{entry.Entry.{Entry}, few.TheConstants.{MOST_KEYS}}
use Rattle.split_engine.specs.declared.state.Cursor.{Cursor}
use Rattle.split_engine.specs.inner.Phases.{HasServed, HaveServed, IsRunState, AreFresh, AllFinished}

module _ {Request : Type 0} where
  pub finished_push : (ss : List (List Request)) (ds : List (Cursor Request)) (s : List Request) (d : Cursor Request) →
      AllFinished ss ds → (d.next ≡ length s) × (d.stash.items ≡ []) → AllFinished (ss ++ s ∷ []) (ds ++ d ∷ [])
  finished_push [] [] s d h f = (f, tt)
  finished_push (t ∷ ss) (e ∷ ds) s d h f = (h.0, finished_push ss ds s d h.1 f)
  finished_push ss ds s d h f = absurd h

  pub finished_more : (ss : List (List Request)) (ds : List (Cursor Request)) (k : ℕ) (s : List Request) (d : Cursor Request) →
      k < length ss → s ≡ get_or ss k s → k < length ds → d ≡ get_or ds k d →
      AllFinished (take k ss) (take k ds) → (d.next ≡ length s) × (d.stash.items ≡ []) → AllFinished (take (k + 1) ss) (take (k + 1) ds)
  finished_more ss ds k s d in_ss is_s in_ds is_d h f =
      let more_s : take (k + 1) ss ≡ take k ss ++ s ∷ [] = ap (λ n. take n ss) (add-one k) ∙ take-suc ss k s in_ss ∙ ap (λ x. take k ss ++ x ∷ []) (sym is_s) in
      let more_d : take (k + 1) ds ≡ take k ds ++ d ∷ [] = ap (λ n. take n ds) (add-one k) ∙ take-suc ds k d in_ds ∙ ap (λ x. take k ds ++ x ∷ []) (sym is_d) in
      subst (λ (p : List (List Request) × List (Cursor Request)). AllFinished p.0 p.1) (λ i. (sym more_s i, sym more_d i)) (finished_push (take k ss) (take k ds) s d h f)

  -- a worker of those that have finished
  pub finished_at : (ss : List (List Request)) (ds : List (Cursor Request)) (k : ℕ) (s : List Request) (d : Cursor Request) →
      k < length ss → s ≡ get_or ss k s → k < length ds → d ≡ get_or ds k d → AllFinished ss ds → (d.next ≡ length s) × (d.stash.items ≡ [])
  finished_at [] ds k s d in_ss is_s in_ds is_d h = absurd (omega (arith, in_ss))
  finished_at (t ∷ ss) [] k s d in_ss is_s in_ds is_d h = absurd (omega (arith, in_ds))
  finished_at (t ∷ ss) (e ∷ ds) zero s d in_ss is_s in_ds is_d h =
      subst (λ (p : List Request × Cursor Request). (p.1.next ≡ length p.0) × (p.1.stash.items ≡ [])) (λ i. (sym is_s i, sym is_d i)) h.0
  finished_at (t ∷ ss) (e ∷ ds) (suc k) s d in_ss is_s in_ds is_d h = finished_at ss ds k s d (omega (arith, in_ss)) is_s (omega (arith, in_ds)) is_d h.1

pub finished_set : {Request : Type 0} (ss : List (List Request)) (ds : List (Cursor Request)) (k : ℕ) (s : List Request) (d : Cursor Request) →
    k < length ss → s ≡ get_or ss k s → length ds ≡ length ss → AllFinished (take k ss) (take k ds) → (d.next ≡ length s) × (d.stash.items ≡ []) →
    AllFinished (take (k + 1) ss) (take (k + 1) (set ds k d))
finished_set ss ds k s d in_ss is_s len h f =
    let more_s : take (k + 1) ss ≡ take k ss ++ s ∷ [] = ap (λ n. take n ss) (add-one k) ∙ take-suc ss k s in_ss ∙ ap (λ x. take k ss ++ x ∷ []) (sym is_s) in
    let more_d : take (k + 1) (set ds k d) ≡ take k ds ++ d ∷ [] = take_more_set ds k d (omega (arith, in_ss, len)) in
    subst (λ (p : List (List _) × List (Cursor _)). AllFinished p.0 p.1) (λ i. (sym more_s i, sym more_d i)) (finished_push (take k ss) (take k ds) s d h f)

pub finished_whole : {Request : Type 0} (ss : List (List Request)) (ds : List (Cursor Request)) (k : ℕ) → length ss ≤ k → length ds ≡ length ss →
    AllFinished (take k ss) (take k ds) → AllFinished ss ds
finished_whole ss ds k le len h =
    subst (λ (p : List (List _) × List (Cursor _)). AllFinished p.0 p.1) (λ i. (take_all k ss le i, take_all k ds (omega (arith, le, len)) i)) h

module _ {Record Slice Look Request Reply Act : Type 0} (rules : Rules Record Slice Look Request Reply Act) where
  fresh_served : (size v : ℕ) (ss : List (List Request)) (ds : List (Cursor Request)) → length ds ≡ length ss → AreFresh ds → HaveServed {Reply = Reply} rules size v ss ds []
  fresh_served size v [] [] len h = tt
  fresh_served size v (s ∷ ss) (d ∷ ds) len h =
      let served : HasServed {Reply = Reply} rules size v s d [] = record {
        counts = λ p.
            let a : count p d.stash.items ≡ 0 = ap (count p) h.0.1 in
            let b : count p (calls_before s d.next) ≡ 0 = ap (λ n. count p (calls_before s n)) h.0.0 in
            omega (arith, a, b);
        within = subst (AllByRecursion _) (sym h.0.1) tt;
        next_in = omega (arith, h.0.0);
        order = order_at_first rules v d h.0.1;
      } in (served, fresh_served size (suc v) ss ds (omega (arith, len)) h.1)
  fresh_served size v ss ds len h = absurd (omega (arith, len))

  pub state_at_first : (Fits : ℕ → Record → Type 0) (n : ℕ) (opened : List Record) (scripts : List (List Request)) (history : List (Entry Request Reply)) (cursors : List (Cursor Request)) →
      length cursors ≡ length scripts → AreFresh cursors → history ≡ [] → AllByRecursion (Fits n) opened → IsRunState rules Fits n opened scripts opened history cursors
  state_at_first Fits n opened scripts history cursors len fresh none fits =
      let same : n ≡ n + MOST_KEYS * 0 = omega arith in
      let state : IsRunState {Reply = Reply} rules Fits n opened scripts opened [] cursors = record {
        replays = tt;
        leaves = refl;
        size_is = refl;
        fits = subst (λ m. AllByRecursion (Fits m) opened) same fits;
        served = fresh_served (length opened) 0 scripts cursors len fresh;
        no_others = tt;
      } in subst (λ h. IsRunState rules Fits n opened scripts opened h cursors) (sym none) state

  all_serve : (size v : ℕ) (ss : List (List Request)) (ds : List (Cursor Request)) (history : List (Entry Request Reply)) → HaveServed rules size v ss ds history → AllFinished ss ds → AllServe rules v ss history
  all_serve size v [] ds history h f = tt
  all_serve size v (s ∷ ss) [] history h f = absurd h
  all_serve size v (s ∷ ss) (d ∷ ds) history h f =
      let serves : Serves rules v s history = λ p.
      let a = h.0.counts p in let b : count p d.stash.items ≡ 0 = ap (count p) f.0.1 in
      let c : count p (calls_before s d.next) ≡ count p (calls_before s (length s)) = ap (λ n. count p (calls_before s n)) f.0.0 in
      omega (arith, a, b, c) in
      ((serves, h.0.order.in_turn), all_serve size (suc v) ss ds history h.1 f.1)

  pub state_at_last : (Fits : ℕ → Record → Type 0) (n : ℕ) (opened : List Record) (scripts : List (List Request)) (table : List Record) (history : List (Entry Request Reply)) (cursors : List (Cursor Request)) →
      IsRunState rules Fits n opened scripts table history cursors → AllFinished scripts cursors → IsOutcome rules opened scripts history table
  state_at_last Fits n opened scripts table history cursors f all = record {
    replays = f.replays;
    leaves = f.leaves;
    served = all_serve (length opened) 0 scripts cursors history f.served all;
    no_others = f.no_others;
  }
