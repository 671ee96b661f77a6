-- Split phases, for any application that meets the laws.
use Rattle.std.proofs.Common.{◌≡◌, ℕ, zero, suc, ◌+◌, ◌*◌, ◌<◌, ◌≤◌, true, min, List, [], ◌∷◌, length, get_or, replicate, drop, fold, refl, sym, ap, ◌∙◌, subst, arith}
use Rattle.std.proofs.Math.{ListN.{drop_of_length-le}, Nat.{le-min}}
use Rattle.std.{proofs.lemmas.List.{length-set, length-replicate}, specs.List.{zip, AllByRecursion}}
use Rattle.split_engine.specs.Rules.{Rules, SplitLaws, looks_in}
use Rattle.split_engine.specs.Serial.{record_at, after_act, after_acts, looks_at, decision, acts_at, after_entry, ReplaysFrom, table_after}
use Rattle.split_engine.specs.Splitting.{Interleaves, Neither, First, Second, InterleavesAll, all_merged, IsSplitEntry, after_slice_act, after_slice_acts, after_split, slices_of, merged_all}
use Rattle.split_engine.specs.declared.entry.{Decision.{Decision}, Entry.{Entry}}
use Rattle.split_engine.specs.declared.few.TheConstants.{MOST_KEYS}

-- what holds of all of an interleaving holds of both lists
pub all_of_first : {X : Type 0} (P : X → Type 0) {xs ys zs : List X} → Interleaves xs ys zs → AllByRecursion P zs → AllByRecursion P xs
all_of_first P Neither h = tt
all_of_first P (First x i) h = (h.0, all_of_first P i h.1)
all_of_first P (Second y i) h = all_of_first P i h.1

pub all_of_second : {X : Type 0} (P : X → Type 0) {xs ys zs : List X} → Interleaves xs ys zs → AllByRecursion P zs → AllByRecursion P ys
all_of_second P Neither h = tt
all_of_second P (First x i) h = all_of_second P i h.1
all_of_second P (Second y i) h = (h.0, all_of_second P i h.1)

-- a table has as many records after acts
pub length-acts : {Record Slice Look Request Reply Act : Type 0} (rules : Rules Record Slice Look Request Reply Act) (t : List Record) (ps : List (ℕ × Act)) →
    length (after_acts rules t ps) ≡ length t
length-acts rules t [] = refl
length-acts rules t (x ∷ ps) = length-acts rules (after_act rules t x.0 x.1) ps ∙ length-set t x.0 _

-- the next of acts at keys
pub zip_next : {K X : Type 0} (ks : List K) (xs : List X) (n : ℕ) (k : K) (x : X) → n < length ks → n < length xs → k ≡ get_or ks n k → x ≡ get_or xs n x →
    drop n (zip ks xs) ≡ (k, x) ∷ drop (suc n) (zip ks xs)
zip_next [] xs n k x lt more is at = absurd (omega (arith, lt))
zip_next (j ∷ ks) [] n k x lt more is at = absurd (omega (arith, more))
zip_next (j ∷ ks) (y ∷ xs) zero k x lt more is at = λ i. (sym is i, sym at i) ∷ zip ks xs
zip_next (j ∷ ks) (y ∷ xs) (suc n) k x lt more is at = zip_next ks xs n k x (omega (arith, lt)) (omega (arith, more)) is at

-- what holds of all acts holds of those at keys, which are no more
pub all_zipped : {K X : Type 0} (P : X → Type 0) (ks : List K) (xs : List X) → AllByRecursion P xs → AllByRecursion (λ (p : K × X). P p.1) (zip ks xs)
all_zipped P (k ∷ ks) (x ∷ xs) h = (h.0, all_zipped P ks xs h.1)
all_zipped P ks xs h = tt

pub zipped_few : {K X : Type 0} (ks : List K) (xs : List X) → length (zip ks xs) ≤ length xs
zipped_few (k ∷ ks) (x ∷ xs) = let rest = zipped_few ks xs in omega (arith, rest)
zipped_few ks xs = omega arith

pub zipped_short : {K X : Type 0} (ks : List K) (xs : List X) → length (zip ks xs) ≤ length ks
zipped_short (k ∷ ks) (x ∷ xs) = let rest = zipped_short ks xs in omega (arith, rest)
zipped_short ks xs = omega arith

-- none is left after as many as there are of both
pub zip_end : {K X : Type 0} (ks : List K) (xs : List X) (n a b : ℕ) → a ≡ length ks → b ≡ length xs → min a b ≤ n → drop n (zip ks xs) ≡ []
zip_end ks xs n a b keys acts end =
    let short = le-min {k = length (zip ks xs)} {a = a} {b = b} (omega (arith, keys, zipped_short ks xs)) (omega (arith, acts, zipped_few ks xs)) in
    drop_of_length-le (zip ks xs) {i = n} (omega (arith, short, end))

module _ {Record Slice Look Request Reply Act : Type 0} (rules : Rules Record Slice Look Request Reply Act)
    (Fits : ℕ → Record → Type 0) (SliceFits : ℕ → Slice → Type 0) (IsSmall : Act → Type 0)
    (laws : SplitLaws rules Fits SliceFits IsSmall) where
  act_swap : (t : List Record) (k j : ℕ) (x y : Act) → rules.is_splittable x ≡ true → rules.is_splittable y ≡ true →
      after_act rules (after_act rules t k x) j y ≡ after_act rules (after_act rules t j y) k x
  act_swap (r ∷ rs) zero zero x y p q = ap (λ s. s ∷ rs) (laws.commute r x y p q)
  act_swap (r ∷ rs) (suc k) (suc j) x y p q = ap (λ ss. r ∷ ss) (act_swap rs k j x y p q)
  act_swap t k j x y p q = refl

  abbrev Splittable : ℕ × Act → Type 0
  Splittable p = rules.is_splittable p.1 ≡ true

  -- an act changes places with several
  act_past : (t : List Record) (ps : List (ℕ × Act)) (k : ℕ) (x : Act) → AllByRecursion Splittable ps → rules.is_splittable x ≡ true →
      after_acts rules (after_act rules t k x) ps ≡ after_act rules (after_acts rules t ps) k x
  act_past t [] k x h p = refl
  act_past t (y ∷ ps) k x h p =
      ap (λ s. after_acts rules s ps) (act_swap t k y.0 x y.1 p h.0) ∙ act_past (after_act rules t y.0 y.1) ps k x h.1 p

  acts_swap : (t : List Record) (ps qs : List (ℕ × Act)) → AllByRecursion Splittable ps → AllByRecursion Splittable qs →
      after_acts rules (after_acts rules t ps) qs ≡ after_acts rules (after_acts rules t qs) ps
  acts_swap t ps [] h g = refl
  acts_swap t ps (y ∷ qs) h g =
      ap (λ s. after_acts rules s qs) (sym (act_past t ps y.0 y.1 h g.0)) ∙ acts_swap (after_act rules t y.0 y.1) ps qs h g.1

  -- what is fixed of the record at a key
  abbrev fixed_at : List Record → ℕ → Look
  fixed_at t key = rules.fixed (rules.look (record_at rules t key))

  act_fixed : (t : List Record) (k : ℕ) (x : Act) (key : ℕ) → rules.is_splittable x ≡ true →
      fixed_at (after_act rules t k x) key ≡ fixed_at t key
  act_fixed (r ∷ rs) zero x zero p = laws.keeps_fixed r x p
  act_fixed (r ∷ rs) (suc k) x (suc key) p = act_fixed rs k x key p
  act_fixed t k x key p = refl

  acts_fixed : (t : List Record) (ps : List (ℕ × Act)) (key : ℕ) → AllByRecursion Splittable ps → fixed_at (after_acts rules t ps) key ≡ fixed_at t key
  acts_fixed t [] key h = refl
  acts_fixed t (x ∷ ps) key h = acts_fixed (after_act rules t x.0 x.1) ps key h.1 ∙ act_fixed t x.0 x.1 key h.0

  fit_more : (n : ℕ) (rs : List Record) → AllByRecursion (Fits n) rs → AllByRecursion (Fits (suc n)) rs
  fit_more n [] h = tt
  fit_more n (r ∷ rs) h = (laws.fits_more n (suc n) r (omega arith) h.0, fit_more n rs h.1)

  pub act_fits : (n : ℕ) (t : List Record) (k : ℕ) (x : Act) → IsSmall x → AllByRecursion (Fits n) t →
      AllByRecursion (Fits (suc n)) (after_act rules t k x)
  act_fits n [] k x small h = tt
  act_fits n (r ∷ rs) zero x small h = (laws.fits_after n r x small h.0, fit_more n rs h.1)
  act_fits n (r ∷ rs) (suc k) x small h =
      (laws.fits_more n (suc n) r (omega arith) h.0, act_fits n rs k x small h.1)

  slice_fit_more : (n m : ℕ) (ss : List Slice) → n ≤ m → AllByRecursion (SliceFits n) ss → AllByRecursion (SliceFits m) ss
  slice_fit_more n m [] le h = tt
  slice_fit_more n m (s ∷ ss) le h = (laws.slice_fits_more n m s le h.0, slice_fit_more n m ss le h.1)

  pub slice_act_fits : (n : ℕ) (ss : List Slice) (k : ℕ) (x : Act) → IsSmall x → AllByRecursion (SliceFits n) ss →
      AllByRecursion (SliceFits (suc n)) (after_slice_act rules ss k x)
  slice_act_fits n [] k x small h = tt
  slice_act_fits n (s ∷ ss) zero x small h =
      (laws.slice_fits_after n s x small h.0, slice_fit_more n (suc n) ss (omega arith) h.1)
  slice_act_fits n (s ∷ ss) (suc k) x small h =
      (laws.slice_fits_more n (suc n) s (omega arith) h.0, slice_act_fits n ss k x small h.1)

  slice_acts_fit : (n : ℕ) (ss : List Slice) (ps : List (ℕ × Act)) → AllByRecursion (λ (p : ℕ × Act). IsSmall p.1) ps → AllByRecursion (SliceFits n) ss →
      AllByRecursion (SliceFits (n + length ps)) (after_slice_acts rules ss ps)
  slice_acts_fit n ss [] small h = let same : n ≡ n + 0 = omega arith in subst (λ m. AllByRecursion (SliceFits m) ss) same h
  slice_acts_fit n ss (x ∷ ps) small h =
      let same : suc n + length ps ≡ n + suc (length ps) = omega arith in
      subst (λ m. AllByRecursion (SliceFits m) (after_slice_acts rules ss (x ∷ ps))) same
      (slice_acts_fit (suc n) (after_slice_act rules ss x.0 x.1) ps small.1 (slice_act_fits n ss x.0 x.1 small.0 h))

  pub new_slices_fit : (n : ℕ) → AllByRecursion (SliceFits 0) (replicate n rules.empty)
  new_slices_fit zero = tt
  new_slices_fit (suc n) = (laws.slice_fits_none, new_slices_fit n)

  pub fit_most : (n m : ℕ) (rs : List Record) → n ≤ m → AllByRecursion (Fits n) rs → AllByRecursion (Fits m) rs
  fit_most n m [] le h = tt
  fit_most n m (r ∷ rs) le h = (laws.fits_more n m r le h.0, fit_most n m rs le h.1)

  acts_fit : (n : ℕ) (t : List Record) (ps : List (ℕ × Act)) → AllByRecursion (λ (p : ℕ × Act). IsSmall p.1) ps → AllByRecursion (Fits n) t →
      AllByRecursion (Fits (n + length ps)) (after_acts rules t ps)
  acts_fit n t [] small h = let same : n ≡ n + 0 = omega arith in subst (λ m. AllByRecursion (Fits m) t) same h
  acts_fit n t (x ∷ ps) small h =
      let same : suc n + length ps ≡ n + suc (length ps) = omega arith in
      subst (λ m. AllByRecursion (Fits m) (after_acts rules t (x ∷ ps))) same
      (acts_fit (suc n) (after_act rules t x.0 x.1) ps small.1 (act_fits n t x.0 x.1 small.0 h))

  pub merged_fit : (n m : ℕ) (rs : List Record) (ss : List Slice) → AllByRecursion (Fits n) rs → AllByRecursion (SliceFits m) ss →
      AllByRecursion (Fits (n + m)) (merged_all rules rs ss)
  merged_fit n m [] ss h g = tt
  merged_fit n m (r ∷ rs) [] h g = (laws.fits_more n (n + m) r (omega arith) h.0, fit_most n (n + m) rs (omega arith) h.1)
  merged_fit n m (r ∷ rs) (s ∷ ss) h g = (laws.fits_merged n m r s h.0 g.0, merged_fit n m rs ss h.1 g.1)

  merged_act : (rs : List Record) (ss : List Slice) (k : ℕ) (x : Act) → length ss ≡ length rs → rules.is_splittable x ≡ true →
      merged_all rules rs (after_slice_act rules ss k x) ≡ after_act rules (merged_all rules rs ss) k x
  merged_act [] ss k x len p = refl
  merged_act (r ∷ rs) [] k x len p = absurd (omega (arith, len))
  merged_act (r ∷ rs) (s ∷ ss) zero x len p = ap (λ t. t ∷ merged_all rules rs ss) (laws.merge_one_more r s x p)
  merged_act (r ∷ rs) (s ∷ ss) (suc k) x len p = ap (λ ts. rules.merged r s ∷ ts) (merged_act rs ss k x (omega (arith, len)) p)

  length-slice_acts : (ss : List Slice) (ps : List (ℕ × Act)) → length (after_slice_acts rules ss ps) ≡ length ss
  length-slice_acts ss [] = refl
  length-slice_acts ss (x ∷ ps) = length-slice_acts (after_slice_act rules ss x.0 x.1) ps ∙ length-set ss x.0 _

  merged_acts : (rs : List Record) (ss : List Slice) (ps : List (ℕ × Act)) → length ss ≡ length rs → AllByRecursion Splittable ps →
      merged_all rules rs (after_slice_acts rules ss ps) ≡ after_acts rules (merged_all rules rs ss) ps
  merged_acts rs ss [] len h = refl
  merged_acts rs ss (x ∷ ps) len h =
      merged_acts rs (after_slice_act rules ss x.0 x.1) ps (length-set ss x.0 _ ∙ len) h.1
      ∙ ap (λ t. after_acts rules t ps) (merged_act rs ss x.0 x.1 len h.0)

  merged_none : (n : ℕ) (rs : List Record) → AllByRecursion (Fits n) rs → merged_all rules rs (replicate (length rs) rules.empty) ≡ rs
  merged_none n [] h = refl
  merged_none n (r ∷ rs) h = λ i. laws.merge_nothing n r h.0 i ∷ merged_none n rs h.1 i

  module _ (opened : List Record) where
    -- what is fixed of each record is what was fixed as the phase opened
    abbrev pub IsFixed : List Record → Type 0
    IsFixed t = (key : ℕ) → fixed_at t key ≡ fixed_at opened key

    abbrev Split : Entry Request Reply → Type 0
    Split = IsSplitEntry rules IsSmall opened

    -- a table after a commit as the phase decides it
    abbrev pub step : List Record → Entry Request Reply → List Record
    step t e = after_acts rules t (acts_at rules opened e.request)

    acts_ok : (e : Entry Request Reply) → Split e → AllByRecursion Splittable (acts_at rules opened e.request)
    acts_ok e h =
        all_zipped (λ x. rules.is_splittable x ≡ true) (rules.keys e.request) (decision rules opened e.request).acts
        (laws.acts_split e.request (looks_in rules (looks_at rules opened (rules.keys e.request))) h.splits)

    acts_small : (e : Entry Request Reply) → Split e → AllByRecursion (λ (p : ℕ × Act). IsSmall p.1) (acts_at rules opened e.request)
    acts_small e h = all_zipped IsSmall (rules.keys e.request) (decision rules opened e.request).acts h.small

    acts_few : (e : Entry Request Reply) → Split e → length (acts_at rules opened e.request) ≤ MOST_KEYS
    acts_few e h = let few = zipped_few (rules.keys e.request) (decision rules opened e.request).acts in omega (arith, few, h.few)

    fixed_looks : (t : List Record) (ks : List ℕ) (place : ℕ) → IsFixed t →
        rules.fixed (looks_in rules (looks_at rules t ks) place) ≡ rules.fixed (looks_in rules (looks_at rules opened ks) place)
    fixed_looks t [] place same = refl
    fixed_looks t (k ∷ ks) zero same = same k
    fixed_looks t (k ∷ ks) (suc place) same = fixed_looks t ks place same

    decided : (t : List Record) (e : Entry Request Reply) → IsFixed t → Split e → decision rules t e.request ≡ decision rules opened e.request
    decided t e same h =
        let q = e.request in let ks = rules.keys q in
        sym (laws.by_fixed q (looks_in rules (looks_at rules t ks)) h.splits)
        ∙ (λ i. rules.decide q (λ place. fixed_looks t ks place same i))
        ∙ laws.by_fixed q (looks_in rules (looks_at rules opened ks)) h.splits

    stepped : (t : List Record) (e : Entry Request Reply) → IsFixed t → Split e → after_entry rules t e ≡ step t e
    stepped t e same h = ap (λ (d : Decision Reply Act). after_acts rules t (zip (rules.keys e.request) d.acts)) (decided t e same h)

    step_fixed : (t : List Record) (e : Entry Request Reply) → IsFixed t → Split e → IsFixed (step t e)
    step_fixed t e same h key = acts_fixed t (acts_at rules opened e.request) key (acts_ok e h) ∙ same key

    next_fixed : (t : List Record) (e : Entry Request Reply) → IsFixed t → Split e → IsFixed (after_entry rules t e)
    next_fixed t e same h = subst IsFixed (sym (stepped t e same h)) (step_fixed t e same h)

    pub replay : (t : List Record) (es : List (Entry Request Reply)) → IsFixed t → AllByRecursion Split es → ReplaysFrom rules t es
    replay t [] same h = tt
    replay t (e ∷ es) same h =
        (h.0.reply ∙ sym (ap (λ (d : Decision Reply Act). d.reply) (decided t e same h.0)), replay (after_entry rules t e) es (next_fixed t e same h.0) h.1)

    pub steps : (t : List Record) (es : List (Entry Request Reply)) → IsFixed t → AllByRecursion Split es → table_after rules t es ≡ fold step t es
    steps t [] same h = refl
    steps t (e ∷ es) same h =
        steps (after_entry rules t e) es (next_fixed t e same h.0) h.1 ∙ ap (λ s. fold step s es) (stepped t e same h.0)

    step_swap : (t : List Record) (e f : Entry Request Reply) → Split e → Split f → step (step t e) f ≡ step (step t f) e
    step_swap t e f h g = acts_swap t (acts_at rules opened e.request) (acts_at rules opened f.request) (acts_ok e h) (acts_ok f g)

    pull : (t : List Record) (es : List (Entry Request Reply)) (f : Entry Request Reply) → AllByRecursion Split es → Split f →
        fold step (step t f) es ≡ step (fold step t es) f
    pull t [] f h g = refl
    pull t (e ∷ es) f h g = ap (λ s. fold step s es) (step_swap t f e g h.0) ∙ pull (step t e) es f h.1 g

    interleaved : {one two all : List (Entry Request Reply)} → Interleaves one two all → (t : List Record) → AllByRecursion Split all →
        fold step t all ≡ fold step (fold step t one) two
    interleaved Neither t h = refl
    interleaved (First e i) t h = interleaved i (step t e) h.1
    interleaved (Second {xs = xs} {ys = ys} e i) t h =
        interleaved i (step t e) h.1 ∙ ap (λ s. fold step s ys) (pull t xs e (all_of_first Split i h.1) h.0)

    length-split : (ss : List Slice) (e : Entry Request Reply) → length (after_split rules opened ss e) ≡ length ss
    length-split ss e = length-slice_acts ss (acts_at rules opened e.request)

    length-all : (es : List (Entry Request Reply)) (ss : List Slice) → length (fold (after_split rules opened) ss es) ≡ length ss
    length-all [] ss = refl
    length-all (e ∷ es) ss = length-all es (after_split rules opened ss e) ∙ length-split ss e

    slices_fit_from : (n : ℕ) (ss : List Slice) (es : List (Entry Request Reply)) → AllByRecursion (SliceFits n) ss → AllByRecursion Split es →
        AllByRecursion (SliceFits (n + MOST_KEYS * length es)) (fold (after_split rules opened) ss es)
    slices_fit_from n ss [] fit h = let same : n ≡ n + MOST_KEYS * 0 = omega arith in subst (λ m. AllByRecursion (SliceFits m) ss) same fit
    slices_fit_from n ss (e ∷ es) fit h =
        let acts = acts_at rules opened e.request in
        let some = slice_acts_fit n ss acts (acts_small e h.0) fit in
        let one = slice_fit_more (n + length acts) (n + MOST_KEYS) (after_split rules opened ss e) (omega (arith, acts_few e h.0)) some in
        let more : n + MOST_KEYS + MOST_KEYS * length es ≡ n + MOST_KEYS * suc (length es) = omega arith in
        subst (λ m. AllByRecursion (SliceFits m) (fold (after_split rules opened) (after_split rules opened ss e) es)) more
        (slices_fit_from (n + MOST_KEYS) (after_split rules opened ss e) es one h.1)

    pub slices_fit : (es : List (Entry Request Reply)) → AllByRecursion Split es →
        AllByRecursion (SliceFits (MOST_KEYS * length es)) (slices_of rules opened es)
    slices_fit es h =
        let same : 0 + MOST_KEYS * length es ≡ MOST_KEYS * length es = omega arith in
        subst (λ m. AllByRecursion (SliceFits m) (slices_of rules opened es)) same
        (slices_fit_from 0 (replicate (length opened) rules.empty) es (new_slices_fit (length opened)) h)

    merged_step : (rs : List Record) (ss : List Slice) (e : Entry Request Reply) → length ss ≡ length rs → Split e →
        merged_all rules rs (after_split rules opened ss e) ≡ step (merged_all rules rs ss) e
    merged_step rs ss e len h = merged_acts rs ss (acts_at rules opened e.request) len (acts_ok e h)

    merged_steps : (rs : List Record) (ss : List Slice) (es : List (Entry Request Reply)) → length ss ≡ length rs → AllByRecursion Split es →
        merged_all rules rs (fold (after_split rules opened) ss es) ≡ fold step (merged_all rules rs ss) es
    merged_steps rs ss [] len h = refl
    merged_steps rs ss (e ∷ es) len h =
        merged_steps rs (after_split rules opened ss e) es (length-split ss e ∙ len) h.1
        ∙ ap (λ s. fold step s es) (merged_step rs ss e len h.0)

    length-step : (t : List Record) (e : Entry Request Reply) → length (step t e) ≡ length t
    length-step t e = length-acts rules t (acts_at rules opened e.request)

    pub length-steps : (t : List Record) (es : List (Entry Request Reply)) → length (fold step t es) ≡ length t
    length-steps t [] = refl
    length-steps t (e ∷ es) = length-steps (step t e) es ∙ length-step t e

    pub steps_fit : (n : ℕ) (t : List Record) (es : List (Entry Request Reply)) → AllByRecursion (Fits n) t → AllByRecursion Split es →
        AllByRecursion (Fits (n + MOST_KEYS * length es)) (fold step t es)
    steps_fit n t [] fit h = let same : n ≡ n + MOST_KEYS * 0 = omega arith in subst (λ m. AllByRecursion (Fits m) t) same fit
    steps_fit n t (e ∷ es) fit h =
        let acts = acts_at rules opened e.request in
        let some = acts_fit n t acts (acts_small e h.0) fit in
        let one = fit_most (n + length acts) (n + MOST_KEYS) (step t e) (omega (arith, acts_few e h.0)) some in
        let more : n + MOST_KEYS + MOST_KEYS * length es ≡ n + MOST_KEYS * suc (length es) = omega arith in
        subst (λ m. AllByRecursion (Fits m) (fold step (step t e) es)) more (steps_fit (n + MOST_KEYS) (step t e) es one h.1)

    pub merged_slices : (n : ℕ) (t : List Record) (es : List (Entry Request Reply)) → length t ≡ length opened → AllByRecursion (Fits n) t →
        AllByRecursion Split es → merged_all rules t (slices_of rules opened es) ≡ fold step t es
    merged_slices n t es len fit h =
        merged_steps t (replicate (length opened) rules.empty) es (subst (λ m. length (replicate m rules.empty) ≡ length t) len (length-replicate (length t) rules.empty)) h
        ∙ ap (λ s. fold step s es) (subst (λ m. merged_all rules t (replicate m rules.empty) ≡ t) len (merged_none n t fit))

    pub length-slices : (es : List (Entry Request Reply)) → length (slices_of rules opened es) ≡ length opened
    length-slices es = length-all es (replicate (length opened) rules.empty) ∙ length-replicate (length opened) rules.empty

    -- the same of the slices of any number of workers
    pub n_merged : (n : ℕ) (t : List Record) (journals : List (List (Entry Request Reply))) (all : List (Entry Request Reply)) →
        length t ≡ length opened → AllByRecursion (Fits n) t → InterleavesAll journals all → AllByRecursion Split all →
        all_merged rules opened t journals ≡ fold step t all
    n_merged n t [] all len fit none h = ap (λ es. fold step t es) (sym none)
    n_merged n t (journal ∷ journals) all len fit i h =
        let own = all_of_first Split i.2 h in
        ap (λ s. all_merged rules opened s journals) (merged_slices n t journal len fit own)
        ∙ n_merged (n + MOST_KEYS * length journal) (fold step t journal) journals i.0 (length-steps t journal ∙ len)
        (steps_fit n t journal fit own) i.1 (all_of_second Split i.2 h)
        ∙ sym (interleaved i.2 t h)

    pub opened_merged : (n : ℕ) (journals : List (List (Entry Request Reply))) (all : List (Entry Request Reply)) →
        AllByRecursion (Fits n) opened → InterleavesAll journals all → AllByRecursion Split all →
        all_merged rules opened opened journals ≡ table_after rules opened all
    opened_merged n journals all fit i h =
        n_merged n opened journals all refl fit i h ∙ sym (steps opened all (λ key. refl) h)
