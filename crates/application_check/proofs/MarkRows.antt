-- Marks, row after row.
use Rattle.std.proofs.Common.{◌≡◌, ℕ, zero, suc, ◌+◌, ◌<◌, false, List, [], ◌∷◌, ◌++◌, length, replicate, take, set, get_or, Some, sym, ap, ◌∙◌, arith}
use Rattle.std.proofs.{Math.Numerals.{add-one}, lemmas.{List.{map-set}, Option.{none-some}}}
use Rattle.std.specs.{Prelude.{Vec, slice_get}, declared.alloc.Global.{Global}}
use Rattle.split_engine.specs.Serving.{lists, request_at}
use Rattle.application_check.specs.inner.Marking.{no_marks}

-- a vector is set in a list of vectors
pub lists_set : {X : Type 0} (vs : List (Vec X Global)) (k : ℕ) (v : Vec X Global) → lists (set vs k v) ≡ set (lists vs) k v.items
lists_set {X} vs k v = map-set (λ (w : Vec X Global). w.items) vs k v

-- the row that stands there
pub row_is : {X : Type 0} (vs : List (Vec X Global)) (k : ℕ) (v : Vec X Global) → k < length vs → v ≡ get_or vs k v → slice_get (lists vs) k ≡ Some v.items
row_is [] k v lt is = absurd (omega (arith, lt))
row_is (w ∷ vs) zero v lt is = ap (λ u. Some u.items) (sym is)
row_is (w ∷ vs) (suc k) v lt is = row_is vs k v (omega (arith, lt)) is

-- what is there is in a row
pub row_low : {X : Type 0} (vs : List (Vec X Global)) (w i : ℕ) (x : X) → request_at (lists vs) w i ≡ Some x → w < length vs
row_low [] w i x at = absurd (none-some x at)
row_low (v ∷ vs) zero i x at = omega arith
row_low (v ∷ vs) (suc w) i x at = omega (arith, row_low vs w i x at)

-- a script more
no_marks_next : {Q : Type 0} (scripts : List (Vec Q Global)) (k : ℕ) (script : Vec Q Global) → k < length scripts → script ≡ get_or scripts k script →
    no_marks (take (suc k) (lists scripts)) ≡ no_marks (take k (lists scripts)) ++ replicate (length script.items) false ∷ []
no_marks_next [] k script lt is = absurd (omega (arith, lt))
no_marks_next (s ∷ scripts) zero script lt is = ap (λ v. replicate (length v.items) false ∷ []) (sym is)
no_marks_next (s ∷ scripts) (suc k) script lt is = ap (λ rows. replicate (length s.items) false ∷ rows) (no_marks_next scripts k script (omega (arith, lt)) is)

pub no_marks_more : {Q : Type 0} (scripts : List (Vec Q Global)) (k : ℕ) (script : Vec Q Global) → k < length scripts → script ≡ get_or scripts k script →
    no_marks (take (k + 1) (lists scripts)) ≡ no_marks (take k (lists scripts)) ++ replicate (length script.items) false ∷ []
no_marks_more scripts k script lt is = ap (λ n. no_marks (take n (lists scripts))) (add-one k) ∙ no_marks_next scripts k script lt is
