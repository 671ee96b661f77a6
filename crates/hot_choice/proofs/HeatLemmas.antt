-- Heats of objects in a list, and in a table of those whose buckets have enough.
use Rattle.std.proofs.Common.{◌≡◌, ℕ, zero, suc, ◌+◌, ◌<◌, ◌≤◌, ◌==◌, Bool, true, false, cond, if◌then◌else◌, List, [], ◌∷◌, ◌++◌, Some, None, count_by, get_or, inl, inr, length, refl, replicate, set, sym, take, ap, subst, ◌∙◌, arith, eq-eqb}
use Rattle.std.proofs.lemmas.Bool.{cases_eq, false≢true, leb-false, lt-leb, ne_eqb}
use Rattle.std.proofs.lemmas.{List.{get_or-set_other, get_or-set_same}, Nat.{mod_below}}
use Rattle.std.specs.{List.{IsDistinct}, Map.{keys_of, lookup}}
use Rattle.std.specs.Prelude.{nat_le, unwrap_or, slice_index}
use Rattle.auction_rows.proofs.RequestLemmas.{distinct_objects, eq_is_same, same_object-true}
use Rattle.auction_rows.specs.{Requests.{same_object, number_of}, declared.requests.Object.{Object}}
use Rattle.auction_rows.specs.contracts.requests.ObjectPartialEq.TheImpl.{eq-value as object_eq}
use Rattle.run_laws.proofs.CountLemmas.{how_many, how_many-is, count-append}
use Rattle.hot_choice.{proofs.RunLemmas.{runs_taken}, specs.declared.runs.Run.{Run}}
use Rattle.hot_choice.specs.inner.Ranking.{HasHeats, bucket_of, heat_shown, if_enough, in_bucket}
use Rattle.hot_choice.specs.inner.Runs.{how_often, objects_of, run_objects}

-- ---- the objects of a run, counted

one_copy : (b : Bool) (n m : ℕ) → m ≡ cond b n 0 → cond b 1 0 + m ≡ cond b (suc n) 0
one_copy true n m is = omega (arith, is)
one_copy false n m is = omega (arith, is)

none_of : (b : Bool) → zero ≡ cond b zero zero
none_of true = refl
none_of false = refl

-- of copies of one object all pass a test, or none
copies : (p : Object → Bool) (object : Object) (n : ℕ) → how_many p (replicate n object) ≡ cond (p object) n 0
copies p object zero = none_of (p object)
copies p object (suc n) = one_copy (p object) n (how_many p (replicate n object)) (copies p object n)

in_run : (p : Object → Bool) (run : Run) → how_many p (run_objects run) ≡ cond (p run.object) (suc run.more) 0
in_run p run = one_copy (p run.object) run.more (how_many p (replicate run.more run.object)) (copies p run.object run.more)

counted_with : (p : Object → Bool) (objects : List Object) (run : Run) → count_by p (objects ++ run_objects run) ≡ count_by p objects + cond (p run.object) (suc run.more) 0
counted_with p objects run =
    sym (how_many-is p (objects ++ run_objects run)) ∙ count-append p objects (run_objects run)
    ∙ (λ i. how_many-is p objects i + in_run p run i)

-- ---- heats in a table of the objects that pass a test

-- a table has each object that passes and that is in a list, once, with its heat, and no other
pub record HasHeatsOf (passes : Object → Bool) (objects : List Object) (table : List (Object × ℕ)) : Type 0 where
  pub once : IsDistinct same_object (keys_of table)
  pub heats : (object : Object) → lookup (same_object object) table ≡ (if passes object then heat_shown (how_often objects object) else None)

often_more : (objects : List Object) (run : Run) (object : Object) → how_often (objects ++ run_objects run) object ≡ how_often objects object + cond (same_object run.object object) (suc run.more) 0
often_more objects run object = counted_with (λ other. same_object other object) objects run

heat_read : (n : ℕ) → unwrap_or (heat_shown n) 0 ≡ n
heat_read zero = refl
heat_read (suc n) = refl

module _ (passes : Object → Bool) where
  pub no_heats : HasHeatsOf passes [] []
  unfolding IsDistinct
  no_heats = record { once = tt; heats = λ object. none (passes object) } where
    none : (b : Bool) → None ≡ (if b then heat_shown 0 else None)
    none true = refl
    none false = refl

  pub run_passed_over : (objects : List Object) (run : Run) (table : List (Object × ℕ)) → passes run.object ≡ false → HasHeatsOf passes objects table → HasHeatsOf passes (objects ++ run_objects run) table
  run_passed_over objects run table fails has = record { once = has.once; heats = λ object. has.heats object ∙ by object (passes object) refl } where
    other : (object : Object) → passes object ≡ true → (b : Bool) → same_object run.object object ≡ b → how_often objects object ≡ how_often objects object + cond b (suc run.more) 0
    other object pass false apart = omega arith
    other object pass true same = absurd (false≢true (sym fails ∙ ap passes (same_object-true run.object object same) ∙ pass))

    by : (object : Object) (b : Bool) → passes object ≡ b → (if b then heat_shown (how_often objects object) else None) ≡ (if b then heat_shown (how_often (objects ++ run_objects run) object) else None)
    by object true pass = ap heat_shown (other object pass (same_object run.object object) refl ∙ sym (often_more objects run object))
    by object false pass = refl

  module _ (objects : List Object) (run : Run) (old new : List (Object × ℕ)) (pass : passes run.object ≡ true) (has : HasHeatsOf passes objects old) where
    so_far : (object : Object) → lookup (object_eq.it object) old ≡ (if passes object then heat_shown (how_often objects object) else None)
    so_far object =
        subst (λ (test : Object → Bool). lookup test old ≡ (if passes object then heat_shown (how_often objects object) else None)) (λ i other. sym (eq_is_same object other) i) (has.heats object)

    counted : (object : Object) (b : Bool) → same_object run.object object ≡ b →
        cond b (Some (unwrap_or (lookup (object_eq.it run.object) old) 0 + suc run.more)) (lookup (object_eq.it object) old)
        ≡ (if passes object then heat_shown (how_often objects object + cond b (suc run.more) 0) else None)
    counted object false apart =
        let so : how_often objects object ≡ how_often objects object + 0 = omega arith in
        so_far object ∙ ap (λ n. if passes object then heat_shown n else None) so
    counted object true same =
        let is : run.object ≡ object = same_object-true run.object object same in
        let had : unwrap_or (lookup (object_eq.it run.object) old) 0 ≡ how_often objects run.object =
        ap (λ o. unwrap_or o 0) (so_far run.object ∙ ap (λ b. if b then heat_shown (how_often objects run.object) else None) pass) ∙ heat_read (how_often objects run.object) in
        let alike : how_often objects run.object ≡ how_often objects object = ap (how_often objects) is in
        let next : unwrap_or (lookup (object_eq.it run.object) old) 0 + suc run.more ≡ suc (how_often objects object + run.more) = omega arith in
        let so : suc (how_often objects object + run.more) ≡ how_often objects object + suc run.more = omega arith in
        ap Some next
        ∙ ap (λ b. if b then Some (suc (how_often objects object + run.more)) else None) (sym (ap passes (sym is) ∙ pass))
        ∙ ap (λ n. if passes object then heat_shown n else None) so

    pub run_counted : IsDistinct object_eq.it (keys_of new) →
        ((object : Object) → lookup (object_eq.it object) new
        ≡ cond (object_eq.it run.object object) (Some (unwrap_or (lookup (object_eq.it run.object) old) 0 + suc run.more)) (lookup (object_eq.it object) old)) →
        HasHeatsOf passes (objects ++ run_objects run) new
    run_counted once put = record {
      once = distinct_objects (keys_of new) once;
      heats = λ object.
          subst (λ (test : Object → Bool). lookup test new ≡ (if passes object then heat_shown (how_often (objects ++ run_objects run) object) else None)) (λ i other. eq_is_same object other i)
          (put object
          ∙ ap (λ b. cond b (Some (unwrap_or (lookup (object_eq.it run.object) old) 0 + suc run.more)) (lookup (object_eq.it object) old)) (eq_is_same run.object object)
          ∙ counted object (same_object run.object object) refl
          ∙ ap (λ n. if passes object then heat_shown n else None) (sym (often_more objects run object)));
    }

-- ---- no object is hotter than its bucket

-- a run more is counted in its bucket
pub run_in_bucket : (runs : List Run) (n : ℕ) (d : Run) (counts : List ℕ) (place sum : ℕ) →
    n < length runs → place ≡ bucket_of (get_or runs n d).object → place < length counts → sum ≡ get_or counts place 0 + suc (get_or runs n d).more →
    ((bucket : ℕ) → bucket < 256 → get_or counts bucket 0 ≡ in_bucket (objects_of (take n runs)) bucket) →
    (bucket : ℕ) → bucket < 256 → get_or (set counts place sum) bucket 0 ≡ in_bucket (objects_of (take (n + 1) runs)) bucket
run_in_bucket runs n d counts place sum less own within is so_far bucket below =
    elim (cases_eq bucket place) [
      | inl same ↦
          ap (λ (at : ℕ). get_or (set counts place sum) at 0) same ∙ get_or-set_same counts place sum 0 within ∙ is
          ∙ ap (λ (at : ℕ). get_or counts at 0 + suc run.more) (sym same)
          ∙ ap (λ (m : ℕ). m + suc run.more) (so_far bucket below)
          ∙ ap (λ b. in_bucket before bucket + cond b (suc run.more) 0) (sym (eq-eqb (bucket_of run.object) bucket (sym own ∙ sym same)))
          ∙ with_run
      | inr other ↦
          get_or-set_other counts place bucket sum 0 other ∙ so_far bucket below ∙ nothing_added
          ∙ ap (λ b. in_bucket before bucket + cond b (suc run.more) 0) (sym (ne_eqb (bucket_of run.object) bucket (λ at. other (sym at ∙ sym own))))
          ∙ with_run
    ] where
      run : Run
      run = get_or runs n d

      before : List Object
      before = objects_of (take n runs)

      nothing_added : in_bucket before bucket ≡ in_bucket before bucket + 0
      nothing_added = omega arith

      with_run : in_bucket before bucket + cond (bucket_of run.object == bucket) (suc run.more) 0 ≡ in_bucket (objects_of (take (n + 1) runs)) bucket
      with_run = sym (ap (λ os. in_bucket os bucket) (runs_taken runs n d less) ∙ counted_with (λ object. bucket_of object == bucket) before run)

bucket_bounds : (objects : List Object) (object : Object) → how_often objects object ≤ in_bucket objects (bucket_of object)
bucket_bounds objects object =
    omega (arith, how_many-is (λ other. same_object other object) objects, how_many-is (λ other. bucket_of other == bucket_of object) objects, fewer objects)
  where
    at_most : (one : Object) (b : Bool) → same_object one object ≡ b → cond b 1 0 ≤ cond (bucket_of one == bucket_of object) 1 0
    at_most one false apart = omega arith
    at_most one true same = subst (λ b. 1 ≤ cond b 1 0) (sym (eq-eqb (bucket_of one) (bucket_of object) (ap bucket_of (same_object-true one object same)))) (omega arith)

    fewer : (os : List Object) → how_many (λ other. same_object other object) os ≤ how_many (λ other. bucket_of other == bucket_of object) os
    fewer [] = omega arith
    fewer (o ∷ os) = omega (arith, at_most o (same_object o object) refl, fewer os)

-- whether an object may be hot enough: its bucket has as many objects
abbrev pub may_be_hot : List ℕ → ℕ → Object → Bool
may_be_hot counts threshold object = nat_le threshold (slice_index counts (bucket_of object))

too_cold : (threshold n : ℕ) → n < threshold → if_enough threshold (heat_shown n) ≡ None
too_cold threshold zero less = refl
too_cold threshold (suc n) less = ap (λ b. if b then Some (suc n) else None) (lt-leb threshold (suc n) less)

pub hot_ones_are_counted : (objects : List Object) (threshold : ℕ) (counts : List ℕ) (table : List (Object × ℕ)) →
    ((bucket : ℕ) → bucket < 256 → slice_index counts bucket ≡ in_bucket objects bucket) → HasHeatsOf (may_be_hot counts threshold) objects table → HasHeats objects threshold table
hot_ones_are_counted objects threshold counts table are has = record {
  once = has.once;
  heats = λ object. ap (if_enough threshold) (has.heats object) ∙ by object (may_be_hot counts threshold object) refl;
} where
  by : (object : Object) (b : Bool) → may_be_hot counts threshold object ≡ b →
      if_enough threshold (if b then heat_shown (how_often objects object) else None) ≡ if_enough threshold (heat_shown (how_often objects object))
  by object true may = refl
  by object false less =
      let cold : slice_index counts (bucket_of object) < threshold = leb-false threshold (slice_index counts (bucket_of object)) less in
      sym (too_cold threshold (how_often objects object) (omega (arith, bucket_bounds objects object, are (bucket_of object) (mod_below (number_of object) 256 (omega arith)), cold)))
