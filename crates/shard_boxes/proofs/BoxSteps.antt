-- Each step keeps the rule of a box.
use Rattle.std.proofs.Common.{◌≡◌, ◌≢◌, ℕ, zero, suc, ◌+◌, ◌<◌, Bool, true, false, true≢false, ◌⊎◌, inl, inr, ⊎_elim, List, [], ◌∷◌, ◌++◌, length, set, get_or, replicate, Option, sym, refl, ap, ◌∙◌, subst, append_assoc, arith, le_refl, zero-lt-suc}
use Rattle.std.proofs.lemmas.{Bool.{false_from_ne_true}, Int.{ints}}
use Rattle.std.proofs.lemmas.List.{append-nil, length-replicate}
use mathlib.Core.Option.{some, some-injective, some-ne-none}
use lib.ListN.{get_elem?}
use Rattle.crossbeam_queue.{proofs.Lists.{at_set, set_here}, specs.Fifo.{Pushes, Pops, Learns}}
use Rattle.item_shards.specs.declared.shard.Shard.{Shard}
use Rattle.shard_boxes.proofs.LineLemmas.{kept_put, lines_of-append, entries-own, entries-other}
use Rattle.shard_boxes.specs.Keys.{added, entries}
use Rattle.shard_boxes.specs.Lines.{Line, after_lines, lines_of}
use Rattle.shard_boxes.specs.Passes.{start_of}
use Rattle.shard_boxes.specs.inner.Passing.{MayPut, Speaks, SpeaksForAll, IsSpare}
use Rattle.shard_boxes.specs.States.{ShardState, state_of, no_shard, IsWithin}
use Rattle.shard_boxes.specs.declared.shard_box.Knowledge.{Knowledge}
use Rattle.shard_boxes.specs.inner.Rule.{IsLawfulList, HasParts, BoxState, FitsBox, IsIn, IsOut, BoxRule}
use Rattle.shard_boxes.specs.inner.Steps.{maker, opened, TakenBy, with_first, put, head_of, tail_of}

-- lists read by index
there : {A : Type 0} (l : List A) (i : ℕ) (a : A) → get_elem? l i ≡ some a → i < length l
there [] i a e = absurd (some-ne-none a (sym e))
there (x ∷ xs) zero a e = omega arith
there (x ∷ xs) (suc i) a e = let h = there xs i a e in omega arith

pub at_snoc_index : {A : Type 0} (l : List A) (a b : A) (j : ℕ) → get_elem? (l ++ a ∷ []) j ≡ some b → (get_elem? l j ≡ some b) ⊎ ((j ≡ length l) × (a ≡ b))
at_snoc_index [] a b zero e = inr (refl, some-injective a b e)
at_snoc_index [] a b (suc j) e = absurd (some-ne-none b (sym e))
at_snoc_index (x ∷ xs) a b zero e = inl e
at_snoc_index (x ∷ xs) a b (suc j) e = ⊎_elim (λ h. inl h) (λ h. inr (ap suc h.0, h.1)) (at_snoc_index xs a b j e)

only : (m v : Knowledge) (pass : ℕ) → get_elem? (m ∷ []) pass ≡ some v → (pass ≡ 0) × (m ≡ v)
only m v zero e = (refl, some-injective m v e)
only m v (suc pass) e = absurd (some-ne-none v (sym e))

pub both_ways : (b : Bool) → b ≡ true → b ≡ false → ⊥
both_ways b t f = true≢false (sym t ∙ f)

abbrev pub Each : (ℕ → Knowledge → Type 0) → List Knowledge → Type 0
Each F views = (pass : ℕ) (v : Knowledge) → get_elem? views pass ≡ some v → F pass v

pub each_set : (F : ℕ → Knowledge → Type 0) (views : List Knowledge) (pass : ℕ) (w : Knowledge) → F pass w → ((j : ℕ) (u : Knowledge) → j ≢ pass → get_elem? views j ≡ some u → F j u) → Each F (set views pass w)
each_set F views pass w mine others j u e = ⊎_elim (λ (x : (j ≡ pass) × (w ≡ u)). subst (λ (y : ℕ × Knowledge). F y.0 y.1) (λ i. (sym x.0 i, x.1 i)) mine)
    (λ (x : (j ≢ pass) × (get_elem? views j ≡ some u)). others j u x.0 x.1) (at_set views pass j w u e)

-- a list of own lists
pub tail_at : (own : List (List Line)) (i : ℕ) → get_or (tail_of own) i [] ≡ get_or own (suc i) []
tail_at [] i = refl
tail_at (l ∷ rest) i = refl

pub length-tail : (own : List (List Line)) → 0 < length own → suc (length (tail_of own)) ≡ length own
length-tail [] h = absurd (omega arith)
length-tail (l ∷ rest) h = refl

pub length-head : (own : List (List Line)) → 0 < length own → length (head_of own) ≡ 1
length-head [] h = absurd (omega arith)
length-head (l ∷ rest) h = refl

pub head_at : (own : List (List Line)) → get_or (head_of own) 0 [] ≡ get_or own 0 []
head_at [] = refl
head_at (l ∷ rest) = refl

pub length-with_first : (own : List (List Line)) (more : List Line) → length (with_first own more) ≡ length own
length-with_first [] more = refl
length-with_first (l ∷ rest) more = refl

pub with_first-head : (own : List (List Line)) (more : List Line) → 0 < length own → get_or (with_first own more) 0 [] ≡ get_or own 0 [] ++ more
with_first-head [] more h = absurd (omega arith)
with_first-head (l ∷ rest) more h = refl

with_first-tail : (own : List (List Line)) (more : List Line) (i : ℕ) → get_or (with_first own more) (suc i) [] ≡ get_or own (suc i) []
with_first-tail [] more i = refl
with_first-tail (l ∷ rest) more i = refl

pub blank : (n i : ℕ) → get_or (replicate {A = List Line} n []) i [] ≡ []
blank (suc n) (suc i) = blank n i
blank n i = refl

-- a shard of which nothing is known has nothing counted
nothing_within : IsWithin no_shard
nothing_within = record { bids = λ id. omega arith; comments = λ user. omega arith; ratings = λ user. omega (arith, ints) }

pub maker_spare : IsSpare maker
maker_spare = (record { from = refl; all = refl; some = zero-lt-suc 0 }, refl)

-- the maker of an empty box
pub begins : BoxRule [] (maker ∷ [])
begins =
    let box : BoxState = record { start = no_shard; workers = 1; list = []; holder = 0; seat = λ _. 0 } in
    let fits : FitsBox box 0 maker = record {
      knows = λ _. record { start = refl; workers = refl; prefix = ([], refl); known = le_refl 1; seats = λ i h. refl; parts = λ i h. blank 1 i };
      holder = λ _. record { only = refl; current = refl; speaks = zero-lt-suc 0 };
    } in record {
      box = box;
      kept = record { lawful = tt; within = nothing_within };
      place = inr (record { none = refl; view = maker; at = refl; holds = refl });
      fits = λ pass v e. let o = only maker v pass e in subst (λ (y : ℕ × Knowledge). FitsBox box y.0 y.1) (λ i. (sym o.0 i, o.1 i)) fits;
    }

-- if a pass holds the shard, the box is empty
out : (items : List Shard) (views : List Knowledge) → BoxRule items views → (pass : ℕ) (v : Knowledge) → get_elem? views pass ≡ some v → v.holds ≡ true → items ≡ []
out items views h pass v at t = ⊎_elim (λ (x : IsIn h.box items views). absurd (both_ways v.holds t (x.free pass v at))) (λ (x : IsOut h.box items views). x.none) h.place

cons_ne : (x : Shard) (xs : List Shard) → x ∷ xs ≢ []
cons_ne x xs e = cc

-- if a pass speaks for all workers, no other pass speaks
sole : (items : List Shard) (views : List Knowledge) → BoxRule items views → (pass : ℕ) (v : Knowledge) → get_elem? views pass ≡ some v → SpeaksForAll v
    → (j : ℕ) (u : Knowledge) → get_elem? views j ≡ some u → Speaks u → j ≡ pass
sole items views h pass v at all j u e speaks =
    let mine = (h.fits pass v at).knows all.some in let theirs = (h.fits j u e).knows speaks in
    let a : h.box.seat (u.first + 0) ≡ j = theirs.seats 0 speaks in
    let below : u.first < length v.own = omega (arith, theirs.known, speaks, all.all, mine.workers) in
    let b : h.box.seat (v.first + u.first) ≡ pass = mine.seats u.first below in
    let one : u.first + 0 ≡ v.first + u.first = omega (arith, all.from) in
    sym a ∙ ap h.box.seat one ∙ b

-- a pass that speaks for all workers and does not hold the shard finds it in the box
pub learns_full : (pass : ℕ) (v : Knowledge) → SpeaksForAll v → v.holds ≡ false → Learns BoxRule pass v (λ items. items ≢ [])
learns_full pass v all f items views h at none =
    ⊎_elim (λ (x : IsIn h.box items views). absurd (cons_ne _ _ (sym x.one ∙ none)))
    (λ (x : IsOut h.box items views).
    let held = (h.fits h.box.holder x.view x.at).holder x.holds in
    let same : h.box.holder ≡ pass = sole items views h pass v at all h.box.holder x.view x.at held.speaks in
    let is : some x.view ≡ some v = sym x.at ∙ ap (get_elem? views) same ∙ at in
    both_ways v.holds (ap (λ (y : Knowledge). y.holds) (sym (some-injective _ _ is)) ∙ x.holds) f)
    h.place

-- a pass that holds the shard finds the box empty
pub learns_empty : (pass : ℕ) (v : Knowledge) → v.holds ≡ true → Learns BoxRule pass v (λ items. items ≡ [])
learns_empty pass v t items views h at = out items views h pass v at t

last_of_two : (x y : Shard) (xs : List Shard) → x ∷ xs ≡ y ∷ [] → (x ≡ y) × (xs ≡ [])
last_of_two x y xs e = (cc, cc)

-- a phase opens: a pass that holds the shard and speaks for all workers puts the phase's shard into the box
pub opens : (workers n pass : ℕ) (v : Knowledge) (x : Shard) → IsSpare v → IsWithin (state_of x) → Pushes BoxRule n pass v x (λ w. w ≡ opened workers x)
opens workers n pass v x spare within items views room h at =
    let w : Knowledge = opened workers x in
    let box : BoxState = record { start = state_of x; workers = workers; list = []; holder = h.box.holder; seat = λ _. pass } in
    let long : length (replicate {A = List Line} workers []) ≡ workers = length-replicate workers [] in
    let no_other : (j : ℕ) (u : Knowledge) → j ≢ pass → get_elem? views j ≡ some u → Speaks u → ⊥ = λ j u other e s. other (sole items views h pass v at spare.0 j u e s) in
    let none_holds : (j : ℕ) (u : Knowledge) → j ≢ pass → get_elem? views j ≡ some u → u.holds ≡ true → ⊥ = λ j u other e t. no_other j u other e ((h.fits j u e).holder t).speaks in (
      w,
      record {
        box = box;
        kept = record { lawful = tt; within = within };
        place = inl (record {
          shard = x;
          one = ap (λ l. l ++ x ∷ []) (out items views h pass v at spare.1);
          state = refl;
          free = each_set (λ j u. u.holds ≡ false) views pass w refl (λ j u other e. false_from_ne_true u.holds (none_holds j u other e));
        });
        fits = each_set (FitsBox box) views pass w
            (record {
              knows = λ _. record { start = refl; workers = refl; prefix = ([], refl); known = omega arith; seats = λ i below. refl; parts = λ i below. blank workers i };
              holder = λ t. absurd (true≢false (sym t));
            })
            (λ j u other e. record { knows = λ s. absurd (no_other j u other e s); holder = λ t. absurd (none_holds j u other e t) });
      },
      refl,
    )

-- a take: the shard after its list goes to a pass that speaks for some worker
pub takes : (pass : ℕ) (v : Knowledge) → Speaks v → Pops BoxRule pass v (TakenBy v)
takes pass v speaks x items views h at =
    let mine = (h.fits pass v at).knows speaks in
    let w : Knowledge = record v { seen = h.box.list; holds = true } in
    let box : BoxState = record h.box { holder = pass } in
    ⊎_elim
    (λ (b : IsIn h.box (x ∷ items) views).
    let two = last_of_two x b.shard items b.one in (
      w,
      record {
        box = box;
        kept = h.kept;
        place = inr (record { none = two.1; view = w; at = set_here views pass w (there views pass v at); holds = refl });
        fits = each_set (FitsBox box) views pass w
            (record {
              knows = λ _. record { start = mine.start; workers = mine.workers; prefix = ([], sym (append-nil h.box.list)); known = mine.known; seats = mine.seats; parts = mine.parts };
              holder = λ _. record { only = refl; current = refl; speaks = speaks };
            })
            (λ j u other e. record {
              knows = λ s. let theirs = (h.fits j u e).knows s in record {
                start = theirs.start;
                workers = theirs.workers;
                prefix = theirs.prefix;
                known = theirs.known;
                seats = theirs.seats;
                parts = theirs.parts;
              };
              holder = λ t. absurd (both_ways u.holds t (b.free j u e));
            });
      },
      record {
        view = refl;
        kept = subst (λ (y : ShardState × ℕ). IsLawfulList y.0 y.1 h.box.list) (λ i. (sym mine.start i, sym mine.workers i)) h.kept;
        state = ap state_of two.0 ∙ b.state ∙ ap (λ o. after_lines o h.box.list) (sym mine.start);
        later = mine.prefix;
        own = mine.parts;
      },
    ))
    (λ (o : IsOut h.box (x ∷ items) views). absurd (cons_ne x items o.none))
    h.place

pub plus_zero : (n : ℕ) → n ≡ n + 0
plus_zero n = omega arith

put_parts : (v : Knowledge) (line : Option Line) (list before : List (ℕ × Line)) → list ≡ before ++ entries v.first line → Speaks v → HasParts v before → HasParts (put v line) list
put_parts v line list before list_is speaks parts zero below =
    let first = plus_zero v.first in
    with_first-head v.own (added line) speaks ∙ ap (λ l. l ++ added line) (parts 0 speaks)
    ∙ ap (λ l. lines_of (v.first + 0) before ++ l) (sym (entries-own v.first line) ∙ ap (λ n. lines_of n (entries v.first line)) first)
    ∙ sym (lines_of-append (v.first + 0) before (entries v.first line)) ∙ ap (lines_of (v.first + 0)) (sym list_is)
put_parts v line list before list_is speaks parts (suc i) below =
    let below' : suc i < length v.own = subst (λ m. suc i < m) (length-with_first v.own (added line)) below in
    let apart : v.first + suc i ≢ v.first = (λ e. omega arith) in
    with_first-tail v.own (added line) i ∙ parts (suc i) below' ∙ sym (append-nil _) ∙ ap (λ l. lines_of (v.first + suc i) before ++ l) (sym (entries-other v.first line (v.first + suc i) apart))
    ∙ sym (lines_of-append (v.first + suc i) before (entries v.first line)) ∙ ap (lines_of (v.first + suc i)) (sym list_is)

-- a put: the holder gives the shard back, after the line of its first worker, if there is one
pub puts : (n pass : ℕ) (v : Knowledge) (x : Shard) (line : Option Line) → v.holds ≡ true → MayPut (after_lines (start_of v) v.seen) (state_of x) line
    → Pushes BoxRule n pass v x (λ w. w ≡ put v line)
puts n pass v x line holds_now may items views room h at =
    let w : Knowledge = put v line in let held = (h.fits pass v at).holder holds_now in
    let speaks : Speaks v = held.speaks in let mine = (h.fits pass v at).knows speaks in
    let more : List (ℕ × Line) = entries v.first line in
    let list : List (ℕ × Line) = h.box.list ++ more in
    let box : BoxState = record h.box { list = list } in
    let seen_is : v.seen ++ more ≡ list = ap (λ l. l ++ more) held.current in
    let first_known : v.first < h.box.workers = omega (arith, mine.known, speaks) in
    let may_put = subst (λ (y : ShardState × List (ℕ × Line)). MayPut (after_lines y.0 y.1) (state_of x) line) (λ i. (mine.start i, held.current i)) may in
    let kept = kept_put h.box.start h.box.workers v.first h.box.list line (state_of x) h.kept first_known may_put in
    let own_long : length w.own ≡ length v.own = length-with_first v.own (added line) in
    let seat_first : h.box.seat (v.first + 0) ≡ pass = mine.seats 0 speaks in
    let none_holds : (j : ℕ) (u : Knowledge) → j ≢ pass → get_elem? views j ≡ some u → u.holds ≡ true → ⊥ = λ j u other e t. other (((h.fits j u e).holder t).only ∙ sym held.only) in (
      w,
      record {
        box = box;
        kept = kept.0;
        place = inl (record {
          shard = x;
          one = ap (λ l. l ++ x ∷ []) (out items views h pass v at holds_now);
          state = kept.1;
          free = each_set (λ j u. u.holds ≡ false) views pass w refl (λ j u other e. false_from_ne_true u.holds (none_holds j u other e));
        });
        fits = each_set (FitsBox box) views pass w
            (record {
              knows = λ _. record {
                start = mine.start;
                workers = mine.workers;
                prefix = ([], sym seen_is ∙ sym (append-nil (v.seen ++ more)));
                known = omega (arith, mine.known, own_long);
                seats = λ i below. mine.seats i (subst (λ m. i < m) own_long below);
                parts = put_parts v line list h.box.list refl speaks mine.parts;
              };
              holder = λ t. absurd (true≢false (sym t));
            })
            (λ j u other e. record {
              knows = λ s. let theirs = (h.fits j u e).knows s in record {
                start = theirs.start;
                workers = theirs.workers;
                prefix = (theirs.prefix.0 ++ more, ap (λ l. l ++ more) theirs.prefix.1 ∙ append_assoc u.seen theirs.prefix.0 more);
                known = theirs.known;
                seats = theirs.seats;
                parts = λ i below.
                    let not_first : u.first + i ≢ v.first = (λ same. other (sym (theirs.seats i below) ∙ ap h.box.seat (same ∙ plus_zero v.first) ∙ seat_first)) in
                    theirs.parts i below ∙ sym (append-nil _) ∙ ap (λ l. lines_of (u.first + i) h.box.list ++ l) (sym (entries-other v.first line (u.first + i) not_first)) ∙ sym (lines_of-append (u.first + i) h.box.list more);
              };
              holder = λ t. absurd (none_holds j u other e t);
            });
      },
      refl,
    )
