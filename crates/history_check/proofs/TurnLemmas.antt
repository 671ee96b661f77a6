-- Turns, and the order of a worker's entries.
use Rattle.std.proofs.Common.{◌≡◌, ℕ, suc, ◌<◌, ◌≤◌, ◌==◌, ◌&&◌, Bool, true, false, cond, List, [], ◌∷◌, ◌++◌, refl, sym, ap, ◌∙◌, arith}
use Rattle.std.proofs.lemmas.Bool.{eqb-true, eq-eqb, false≢true, and_parts, and_from, ltb-true, ltb-false}
use Rattle.std.specs.{List.{AllByRecursion}, Prelude.{max, nat_lt}}
use Rattle.phase_laws.proofs.ListLemmas.{greatest_bounds, greatest_least}
use Rattle.phase_laws.specs.{Numbers.{greatest_by}, Order.{IsOrderedBy}}
use Rattle.auction_rows.specs.declared.rows.Entry.{Entry}
use Rattle.history_check.specs.Orders.{is_bound, MayPrecede, turn, turn_after}
use Rattle.history_check.specs.{declared.lines.Order.{Order}, inner.Lateness.{is_late}}

max_zero : (a : ℕ) → max a 0 ≡ a
max_zero a = omega arith

max_assoc : (a b c : ℕ) → max a (max b c) ≡ max (max a b) c
max_assoc a b c = omega arith

pub greatest_push : {X : Type 0} (f : X → ℕ) (xs : List X) (x : X) → greatest_by f (xs ++ x ∷ []) ≡ max (greatest_by f xs) (f x)
greatest_push f [] x = omega arith
greatest_push f (y ∷ ys) x = ap (max (f y)) (greatest_push f ys x) ∙ max_assoc (f y) (greatest_by f ys) (f x)

-- an entry's own turn, and any other's
own_turn : (worker : ℕ) (e : Entry) → e.worker ≡ worker → turn worker e ≡ suc e.index
own_turn worker e same = ap (λ b. cond b (suc e.index) 0) (eq-eqb e.worker worker same)

-- the turns after an entry more are those before it, and its own
pub turns_more : (history : List Entry) (e : Entry) (w old new : ℕ) → old ≡ turn_after w history
    → new ≡ cond (e.worker == w) (max old (suc e.index)) old → new ≡ turn_after w (history ++ e ∷ [])
turns_more history e w old new before is = at (e.worker == w) refl where
  at : (b : Bool) → (e.worker == w) ≡ b → new ≡ turn_after w (history ++ e ∷ [])
  at true own =
      is ∙ ap (λ b. cond b (max old (suc e.index)) old) own ∙ ap (λ n. max n (suc e.index)) before
      ∙ sym (greatest_push (turn w) history e ∙ ap (λ b. max (turn_after w history) (cond b (suc e.index) 0)) own)
  at false other =
      is ∙ ap (λ b. cond b (max old (suc e.index)) old) other ∙ before
      ∙ sym (greatest_push (turn w) history e ∙ ap (λ b. max (turn_after w history) (cond b (suc e.index) 0)) other ∙ max_zero (turn_after w history))

-- an entry that isn't bound, or whose turn has not passed, may stand after those before it
pub in_turn : (order : Order) (history : List Entry) (e : Entry) → (is_bound order e.request ≡ true → turn_after e.worker history ≤ e.index)
    → AllByRecursion (λ d. MayPrecede order d e) history
in_turn order history e on_time = all history (greatest_bounds (turn e.worker) history) where
  all : (part : List Entry) → AllByRecursion (λ d. turn e.worker d ≤ turn_after e.worker history) part → AllByRecursion (λ d. MayPrecede order d e) part
  all [] below = tt
  all (d ∷ part) below = (λ same bound. omega (arith, own_turn e.worker d same, below.0, on_time bound), all part below.1)

-- one that is bound, and whose turn has passed, may not
pub out_of_turn : (order : Order) (history : List Entry) (e : Entry) → is_bound order e.request ≡ true → e.index < turn_after e.worker history
    → AllByRecursion (λ d. MayPrecede order d e) history → ⊥
out_of_turn order history e bound late all = absurd (omega (arith, late, greatest_least (turn e.worker) e.index history (each history all))) where
  here : (d : Entry) → MayPrecede order d e → (b : Bool) → (d.worker == e.worker) ≡ b → turn e.worker d ≤ e.index
  here d may true own = omega (arith, ap (λ b. cond b (suc d.index) 0) own, may (eqb-true d.worker e.worker own) bound)
  here d may false other = omega (arith, ap (λ b. cond b (suc d.index) 0) other)

  each : (part : List Entry) → AllByRecursion (λ d. MayPrecede order d e) part → AllByRecursion (λ d. turn e.worker d ≤ e.index) part
  each [] all = tt
  each (d ∷ part) all = (here d all.0 (d.worker == e.worker) refl, each part all.1)

-- what stands before an element of an ordered list stands in the order to it
pub ordered_before : {X : Type 0} (R : X → X → Type 0) (xs : List X) (x : X) (ys : List X) → IsOrderedBy R (xs ++ x ∷ ys) → AllByRecursion (λ y. R y x) xs
ordered_before {X} R [] x ys ordered = tt
ordered_before {X} R (y ∷ xs) x ys ordered = (middle xs ordered.0, ordered_before R xs x ys ordered.1) where
  middle : (xs : List X) → AllByRecursion (R y) (xs ++ x ∷ ys) → R y x
  middle [] all = all.0
  middle (z ∷ xs) all = middle xs all.1

late_parts : (a : Bool) (index next : ℕ) → (a && nat_lt index next) ≡ true → (a ≡ true) × (index < next)
late_parts a index next e = (let parts = and_parts a (nat_lt index next) e in (parts.0, ltb-true index next parts.1))

-- an entry that isn't late may stand after those before it, and one that is may not
pub may_stand : (order : Order) (history : List Entry) (e : Entry) (next : ℕ) → next ≡ turn_after e.worker history → is_late order e.request e.index next ≡ false
    → AllByRecursion (λ d. MayPrecede order d e) history
may_stand order history e next is early = in_turn order history e (λ bound. omega (arith, sym is, at bound (nat_lt e.index next) refl)) where
  at : is_bound order e.request ≡ true → (b : Bool) → nat_lt e.index next ≡ b → next ≤ e.index
  at bound true less = absurd (false≢true (sym early ∙ and_from (is_bound order e.request) (nat_lt e.index next) bound less))
  at bound false more = ltb-false e.index next more

pub may_not_stand : (order : Order) (history : List Entry) (e : Entry) (next : ℕ) → next ≡ turn_after e.worker history → is_late order e.request e.index next ≡ true
    → AllByRecursion (λ d. MayPrecede order d e) history → ⊥
may_not_stand order history e next is late = (let parts = late_parts (is_bound order e.request) e.index next late in
    out_of_turn order history e parts.0 (omega (arith, parts.1, is)))
