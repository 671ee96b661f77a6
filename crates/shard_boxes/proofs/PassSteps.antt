-- A pass that is split, or united with another, keeps the rule of a box.
use Rattle.std.proofs.Common.{◌≡◌, ◌≢◌, ℕ, suc, ◌+◌, ◌-◌, ◌<◌, ◌≤◌, true, false, true≢false, cond, ltb, ◌==◌, ◌⊎◌, inl, inr, ⊎_elim, List, [], ◌∷◌, ◌++◌, length, set, get_or, sym, refl, ap, ◌∙◌, subst, arith, eq-eqb, ne_eqb, lt_of_not-le, length-append}
use Rattle.std.proofs.Math.{ListN.{get_or-append}, Seq.{get_or-append_right}}
use mathlib.Core.Option.{some, some-injective}
use native.Mathlib.Decide.{dec_le}
use lib.ListN.{get_elem?}
use Rattle.crossbeam_queue.{proofs.Lists.{at_longer, set_else}, specs.Fifo.{Forks, Merges}}
use Rattle.item_shards.specs.declared.shard.Shard.{Shard}
use Rattle.shard_boxes.proofs.BoxSteps.{Each, at_snoc_index, both_ways, each_set, tail_at, length-tail, length-head, head_at, plus_zero}
use Rattle.shard_boxes.specs.{Lines.{Line, after_lines, lines_of, StartsWith}, Passes.{start_of}, States.{ShardState}}
use Rattle.shard_boxes.specs.inner.Passing.{Speaks}
use Rattle.shard_boxes.specs.declared.shard_box.Knowledge.{Knowledge}
use Rattle.shard_boxes.specs.inner.Rule.{BoxState, FitsBox, IsIn, IsOut, BoxRule}
use Rattle.shard_boxes.specs.inner.Steps.{head_of, tail_of, first_of, rest_of, later_of, joined, spent}

pub other_number : (n m : ℕ) → n ≢ m → (n == m) ≡ false
other_number n m ne = ne_eqb n m ne

lt_or_le : (a b : ℕ) → (a < b) ⊎ (b ≤ a)
lt_or_le a b = elim (dec_le b a) [ yes d ↦ inr d | no d ↦ inl (lt_of_not-le d) ]

fits_both : (v u : Knowledge) (workers : ℕ) → v.first + length v.own ≤ workers → u.first + length u.own ≤ workers → u.first ≡ v.first + length v.own → v.first + length (v.own ++ u.own) ≤ workers
fits_both v u workers a b next = let long : length (v.own ++ u.own) ≡ length v.own + length u.own = length-append v.own u.own in omega arith

-- where the shard lies: kept by a change of a pass that does not hold it
stays : (box : BoxState) (items : List Shard) (views : List Knowledge) (pass : ℕ) (v w : Knowledge) → get_elem? views pass ≡ some v → v.holds ≡ false → w.holds ≡ false
    → (IsIn box items views ⊎ IsOut box items views) → IsIn box items (set views pass w) ⊎ IsOut box items (set views pass w)
stays box items views pass v w at f f' =
    ⊎_elim (λ (b : IsIn box items views). inl (record {
      shard = b.shard;
      one = b.one;
      state = b.state;
      free = each_set (λ j u. u.holds ≡ false) views pass w f' (λ j u other e. b.free j u e);
    }))
    (λ (o : IsOut box items views).
    let apart : box.holder ≢ pass = (λ same. both_ways o.view.holds o.holds (ap (λ (y : Knowledge). y.holds) (some-injective _ _ (sym o.at ∙ ap (get_elem? views) same ∙ at)) ∙ f)) in
    inr (record { none = o.none; view = o.view; at = set_else views pass box.holder w apart ∙ o.at; holds = o.holds }))

-- where the shard lies: kept if a pass is added
stays_more : (box : BoxState) (items : List Shard) (views : List Knowledge) (w : Knowledge) → w.holds ≡ false
    → (IsIn box items views ⊎ IsOut box items views) → IsIn box items (views ++ w ∷ []) ⊎ IsOut box items (views ++ w ∷ [])
stays_more box items views w f' =
    ⊎_elim (λ (b : IsIn box items views). inl (record {
      shard = b.shard;
      one = b.one;
      state = b.state;
      free = λ j u e. ⊎_elim (λ x. b.free j u x) (λ x. ap (λ (y : Knowledge). y.holds) (sym x.1) ∙ f') (at_snoc_index views w u j e);
    }))
    (λ (o : IsOut box items views). inr (record { none = o.none; view = o.view; at = at_longer views (w ∷ []) box.holder o.view o.at; holds = o.holds }))

-- where the shard lies does not depend on who speaks for whom
place_of : (box : BoxState) (seat : ℕ → ℕ) (items : List Shard) (views : List Knowledge) → (IsIn box items views ⊎ IsOut box items views)
    → IsIn (record box { seat = seat }) items views ⊎ IsOut (record box { seat = seat }) items views
place_of box seat items views =
    ⊎_elim (λ (b : IsIn box items views). inl (record { shard = b.shard; one = b.one; state = b.state; free = b.free }))
    (λ (o : IsOut box items views). inr (record { none = o.none; view = o.view; at = o.at; holds = o.holds }))

-- a new pass takes over the first worker
pub forks : (pass : ℕ) (v : Knowledge) → Speaks v → v.holds ≡ false → Forks BoxRule pass v (rest_of v) (first_of v)
forks pass v speaks free items views h at =
    let mine = (h.fits pass v at).knows speaks in let left : Knowledge = rest_of v in
    let right : Knowledge = first_of v in let middle : List Knowledge = set views pass left in
    let fresh : ℕ = length middle in let was : ℕ → ℕ = h.box.seat in
    let list : List (ℕ × Line) = h.box.list in
    let seat : ℕ → ℕ = λ n. cond (n == v.first) fresh (was n) in
    let box : BoxState = record h.box { seat = seat } in
    let seat_first : seat v.first ≡ fresh = ap (λ t. cond t fresh (was v.first)) (eq-eqb v.first v.first refl) in
    let seat_else : (n : ℕ) → n ≢ v.first → seat n ≡ was n = (λ n ne. ap (λ t. cond t fresh (was n)) (other_number n v.first ne)) in
    let one_less : suc (length (tail_of v.own)) ≡ length v.own = length-tail v.own speaks in
    let was_first : was (v.first + 0) ≡ pass = mine.seats 0 speaks in
    let F : ℕ → Knowledge → Type 0 = FitsBox box in
    let of_left : F pass left = record {
      knows = λ _. record {
        start = mine.start;
        workers = mine.workers;
        prefix = mine.prefix;
        known = omega (arith, mine.known, one_less);
        seats = λ i below.
            let apart : v.first + 1 + i ≢ v.first = (λ e. omega arith) in
            let lt : suc i < length v.own = omega arith in
            let one : v.first + 1 + i ≡ v.first + suc i = omega arith in
            seat_else (v.first + 1 + i) apart ∙ ap was one ∙ mine.seats (suc i) lt;
        parts = λ i below.
            let lt : suc i < length v.own = omega arith in
            let one : v.first + suc i ≡ v.first + 1 + i = omega arith in
            tail_at v.own i ∙ mine.parts (suc i) lt ∙ ap (λ n. lines_of n list) one;
      };
      holder = λ t. absurd (both_ways v.holds t free);
    } in
    let one_long : length (head_of v.own) ≡ 1 = length-head v.own speaks in
    let of_right : F fresh right = record {
      knows = λ _. record {
        start = mine.start;
        workers = mine.workers;
        prefix = mine.prefix;
        known = omega (arith, mine.known, one_long, speaks);
        seats = λ i below. let none : i ≡ 0 = omega arith in ap (λ n. seat (v.first + n)) none ∙ ap seat (sym (plus_zero v.first)) ∙ seat_first;
        parts = λ i below. let none : i ≡ 0 = omega arith in ap (λ n. get_or (head_of v.own) n []) none ∙ head_at v.own ∙ mine.parts 0 speaks ∙ ap (λ n. lines_of (v.first + n) list) (sym none);
      };
      holder = λ t. absurd (both_ways v.holds t free);
    } in
    let of_middle : Each F middle = each_set F views pass left of_left (λ j u other e. record {
      knows = λ s. let theirs = (h.fits j u e).knows s in record {
        start = theirs.start;
        workers = theirs.workers;
        prefix = theirs.prefix;
        known = theirs.known;
        seats = λ i below.
            let apart : u.first + i ≢ v.first = (λ same. other (sym (theirs.seats i below) ∙ ap was (same ∙ plus_zero v.first) ∙ was_first)) in
            seat_else (u.first + i) apart ∙ theirs.seats i below;
        parts = theirs.parts;
      };
      holder = λ t. let held = (h.fits j u e).holder t in record { only = held.only; current = held.current; speaks = held.speaks };
    }) in record {
      box = box;
      kept = h.kept;
      place = place_of h.box seat items (middle ++ right ∷ [])
          (stays_more h.box items middle right free (stays h.box items views pass v left at free free h.place));
      fits = λ j u e. ⊎_elim (λ x. of_middle j u x) (λ (x : (j ≡ fresh) × (right ≡ u)). subst (λ (y : ℕ × Knowledge). F y.0 y.1) (λ i. (sym x.0 i, x.1 i)) of_right) (at_snoc_index middle right u j e);
    }

later_is : (start : ShardState) (list a b : List (ℕ × Line)) → StartsWith list a → StartsWith list b → StartsWith list (later_of start a b)
later_is start list a b p q = elim (ltb (after_lines start a).clock (after_lines start b).clock) as (λ t. StartsWith list (cond t b a)) [ true ↦ q | false ↦ p ]

-- a pass takes in the workers that follow its own
pub merges : (pass : ℕ) (v : Knowledge) (other : ℕ) (u : Knowledge) → Speaks v → Speaks u → v.holds ≡ false → u.holds ≡ false → u.first ≡ v.first + length v.own → Merges BoxRule pass v other u (joined v u) spent
merges pass v other u speaks speaks' free free' next items views h at two at' =
    let both : Knowledge = joined v u in let middle : List Knowledge = set views pass both in
    let still : get_elem? views other ≡ some u = sym (set_else views pass other both two) ∙ at' in
    let mine = (h.fits pass v at).knows speaks in
    let theirs = (h.fits other u still).knows speaks' in let was : ℕ → ℕ = h.box.seat in
    let list : List (ℕ × Line) = h.box.list in
    let seat : ℕ → ℕ = λ n. cond (was n == other) pass (was n) in
    let box : BoxState = record h.box { seat = seat } in
    let seat_there : (n : ℕ) → was n ≡ other → seat n ≡ pass = (λ n e. ap (λ t. cond t pass (was n)) (ap (λ m. m == other) e ∙ eq-eqb other other refl)) in
    let seat_else : (n : ℕ) → was n ≢ other → seat n ≡ was n = (λ n ne. ap (λ t. cond t pass (was n)) (other_number (was n) other ne)) in
    let long : length (v.own ++ u.own) ≡ length v.own + length u.own = length-append v.own u.own in
    let F : ℕ → Knowledge → Type 0 = FitsBox box in
    let fits_end : v.first + length (v.own ++ u.own) ≤ h.box.workers = fits_both v u h.box.workers mine.known theirs.known next in
    let of_both : F pass both = record {
      knows = λ _. record {
        start = mine.start;
        workers = mine.workers;
        prefix = later_is (start_of v) list v.seen u.seen mine.prefix theirs.prefix;
        known = fits_end;
        seats = λ i below. ⊎_elim
            (λ (lt : i < length v.own). let e = mine.seats i lt in seat_else (v.first + i) (λ x. two (sym x ∙ e)) ∙ e)
            (λ (le : length v.own ≤ i).
            let k : ℕ = i - length v.own in let lt : k < length u.own = omega arith in
            let one : v.first + i ≡ u.first + k = omega arith in
            seat_there (v.first + i) (ap was one ∙ theirs.seats k lt))
            (lt_or_le i (length v.own));
        parts = λ i below. ⊎_elim
            (λ (lt : i < length v.own). get_or-append v.own u.own [] i lt ∙ mine.parts i lt)
            (λ (le : length v.own ≤ i).
            let k : ℕ = i - length v.own in let lt : k < length u.own = omega arith in
            let one : u.first + k ≡ v.first + i = omega arith in
            get_or-append_right v.own u.own i [] le ∙ theirs.parts k lt ∙ ap (λ n. lines_of n list) one)
            (lt_or_le i (length v.own));
      };
      holder = λ t. absurd (both_ways v.holds t free);
    } in
    let of_middle : Each (λ j y. j ≢ other → F j y) middle = each_set (λ j y. j ≢ other → F j y) views pass both (λ _. of_both) (λ j y apart e apart'. record {
      knows = λ s. let fit = (h.fits j y e).knows s in record {
        start = fit.start;
        workers = fit.workers;
        prefix = fit.prefix;
        known = fit.known;
        seats = λ i below. let at_seat = fit.seats i below in seat_else (y.first + i) (λ x. apart' (sym at_seat ∙ x)) ∙ at_seat;
        parts = fit.parts;
      };
      holder = λ t. let held = (h.fits j y e).holder t in record { only = held.only; current = held.current; speaks = held.speaks };
    }) in record {
      box = box;
      kept = h.kept;
      place = place_of h.box seat items (set middle other spent)
          (stays h.box items middle other u spent at' free' refl (stays h.box items views pass v both at free free h.place));
      fits = each_set F middle other spent
          (record { knows = λ s. absurd (omega arith); holder = λ t. absurd (true≢false (sym t)) })
          (λ j y apart e. of_middle j y e apart);
    }
