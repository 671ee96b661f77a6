-- Slices that are kept, and a slice of each record.
use Rattle.std.proofs.Common.{◌≡◌, ℕ, zero, suc, ◌+◌, ◌<◌, ◌==◌, nat_lt, Bool, true, false, List, [], ◌∷◌, ◌++◌, length, replicate, take, set, get_or, refl, sym, ap, ◌∙◌, subst, arith, eqb-true, true≢false}
use Rattle.std.proofs.lemmas.Bool.{eqb-false, eq-eqb, ltb-true, ltb-false, lt-ltb, and_parts, cond-true, cond-false}
use Rattle.std.proofs.lemmas.List.{length-set, length-append, ext_get_or, get_or-set_same, get_or-set_other, get_or_append_left, get_or_push, get_or-take, length-take-le}
use Rattle.std.specs.{List.{AllByRecursion}, Prelude.{◌&&◌}}
use Rattle.split_engine.{proofs.Works.{all_at}, specs.Rules.{Rules, SplitLaws}}
use Rattle.split_engine.specs.Splitting.{after_slice_act, merged_all}
use Rattle.split_engine.specs.inner.Kept.{is_at, AreKept, kept, spread_from, spread}

-- ---- guesses

-- a key stands at its guess, or it does not
pub at_guess : (keys : List ℕ) (key guess : ℕ) → is_at keys key guess ≡ true → (guess < length keys) × (get_or keys guess 0 ≡ key)
at_guess keys key guess is =
    let parts = and_parts (nat_lt guess (length keys)) (get_or keys guess 0 == key) is in
    (ltb-true guess (length keys) parts.0, eqb-true (get_or keys guess 0) key parts.1)

pub is_at_guess : (keys : List ℕ) (key guess : ℕ) → guess < length keys → get_or keys guess 0 ≡ key → is_at keys key guess ≡ true
is_at_guess keys key guess lt is = λ i. lt-ltb guess (length keys) lt i && eq-eqb (get_or keys guess 0) key is i

pub not_at : (keys : List ℕ) (key guess : ℕ) → (guess < length keys → get_or keys guess 0 ≡ key → ⊥) → is_at keys key guess ≡ false
not_at keys key guess never = at (is_at keys key guess) refl where
  at : (b : Bool) → is_at keys key guess ≡ b → is_at keys key guess ≡ false
  at true is = let found = at_guess keys key guess is in absurd (never found.0 found.1)
  at false is = is

-- at first nothing is kept
pub none_kept : {Slice : Type 0} (guesses : List ℕ) → AreKept {Slice = Slice} guesses [] []
none_kept guesses = record {
  long = refl;
  within = λ place lt. absurd (omega (arith, lt));
  right = λ place lt. absurd (omega (arith, lt));
}

-- a kept slice is set
pub kept_set : {Slice : Type 0} (guesses keys : List ℕ) (slices : List Slice) (place : ℕ) (s : Slice) → AreKept guesses keys slices → AreKept guesses keys (set slices place s)
kept_set guesses keys slices place s are = record {
  long = length-set slices place s ∙ are.long;
  within = are.within;
  right = are.right;
}

module _ {Record Slice Look Request Reply Act : Type 0} (rules : Rules Record Slice Look Request Reply Act) where
  kept_here : (keys : List ℕ) (slices : List Slice) (key guess : ℕ) → is_at keys key guess ≡ true → kept rules keys slices key guess ≡ get_or slices guess rules.empty
  kept_here keys slices key guess is = cond-true (is_at keys key guess) (get_or slices guess rules.empty) rules.empty is

  not_kept : (keys : List ℕ) (slices : List Slice) (key guess : ℕ) → is_at keys key guess ≡ false → kept rules keys slices key guess ≡ rules.empty
  not_kept keys slices key guess is = cond-false (is_at keys key guess) (get_or slices guess rules.empty) rules.empty is

  -- a slice of the spread ones
  spread_at_from : (first : ℕ) (guesses keys : List ℕ) (slices : List Slice) (key : ℕ) → key < length guesses →
      get_or (spread_from rules first guesses keys slices) key rules.empty ≡ kept rules keys slices (first + key) (get_or guesses key 0)
  spread_at_from first [] keys slices key lt = absurd (omega (arith, lt))
  spread_at_from first (g ∷ gs) keys slices zero lt = let same : first ≡ first + 0 = omega arith in ap (λ k. kept rules keys slices k g) same
  spread_at_from first (g ∷ gs) keys slices (suc key) lt =
      let same : suc first + key ≡ first + suc key = omega arith in
      spread_at_from (suc first) gs keys slices key (omega (arith, lt)) ∙ ap (λ k. kept rules keys slices k (get_or gs key 0)) same

  pub spread_at : (guesses keys : List ℕ) (slices : List Slice) (key : ℕ) → key < length guesses →
      get_or (spread rules guesses keys slices) key rules.empty ≡ kept rules keys slices key (get_or guesses key 0)
  spread_at guesses keys slices key lt =
      let same : 0 + key ≡ key = omega arith in
      spread_at_from 0 guesses keys slices key lt ∙ ap (λ k. kept rules keys slices k (get_or guesses key 0)) same

  length-from : (first : ℕ) (guesses keys : List ℕ) (slices : List Slice) → length (spread_from rules first guesses keys slices) ≡ length guesses
  length-from first [] keys slices = refl
  length-from first (g ∷ gs) keys slices = ap suc (length-from (suc first) gs keys slices)

  pub length-spread : (guesses keys : List ℕ) (slices : List Slice) → length (spread rules guesses keys slices) ≡ length guesses
  length-spread guesses keys slices = length-from 0 guesses keys slices

  -- at first all are empty
  none_from : (first : ℕ) (guesses : List ℕ) → spread_from rules first guesses [] [] ≡ replicate (length guesses) rules.empty
  none_from first [] = refl
  none_from first (g ∷ gs) = λ i. not_kept [] [] first g (not_at [] first g (λ lt is. omega (arith, lt))) i ∷ none_from (suc first) gs i

  pub spread_none : (guesses : List ℕ) → spread rules guesses [] [] ≡ replicate (length guesses) rules.empty
  spread_none guesses = none_from 0 guesses

  -- an empty slice more is the one that was there
  pub spread_more : (guesses keys : List ℕ) (slices : List Slice) (key : ℕ) → length slices ≡ length keys → key < length guesses →
      is_at keys key (get_or guesses key 0) ≡ false →
      spread rules (set guesses key (length keys)) (keys ++ key ∷ []) (slices ++ rules.empty ∷ []) ≡ spread rules guesses keys slices
  spread_more guesses keys slices key long within new =
      ext_get_or rules.empty _ _
      (length-spread (set guesses key (length keys)) (keys ++ key ∷ []) (slices ++ rules.empty ∷ []) ∙ length-set guesses key (length keys) ∙ sym (length-spread guesses keys slices))
      (λ j lt. here j (omega (arith, lt, length-spread (set guesses key (length keys)) (keys ++ key ∷ []) (slices ++ rules.empty ∷ []), length-set guesses key (length keys))))
    where
      all : List ℕ
      all = keys ++ key ∷ []

      longer : List Slice
      longer = slices ++ rules.empty ∷ []

      -- another key's slice, by its guess
      beside : (j guess : ℕ) → (j ≡ key → ⊥) → (b : Bool) → is_at keys j guess ≡ b → kept rules all longer j guess ≡ kept rules keys slices j guess
      beside j guess other true is =
          let found = at_guess keys j guess is in
          kept_here all longer j guess (is_at_guess all j guess (omega (arith, found.0, length-append keys (key ∷ []))) (get_or_append_left keys (key ∷ []) 0 guess found.0 ∙ found.1))
          ∙ get_or_append_left slices (rules.empty ∷ []) rules.empty guess (omega (arith, found.0, long)) ∙ sym (kept_here keys slices j guess is)
      beside j guess other false is =
          not_kept all longer j guess (not_at all j guess (λ lt at. never lt at (nat_lt guess (length keys)) refl)) ∙ sym (not_kept keys slices j guess is)
        where
          never : guess < length all → get_or all guess 0 ≡ j → (b : Bool) → nat_lt guess (length keys) ≡ b → ⊥
          never lt at true before =
              let low = ltb-true guess (length keys) before in
              true≢false (sym (is_at_guess keys j guess low (sym (get_or_append_left keys (key ∷ []) 0 guess low) ∙ at)) ∙ is)
          never lt at false behind =
              let last : guess ≡ length keys = omega (arith, ltb-false guess (length keys) behind, lt, length-append keys (key ∷ [])) in
              other (sym at ∙ ap (λ g. get_or all g 0) last ∙ get_or_push keys key 0 (length keys) refl)

      by : (j : ℕ) → j < length guesses → (b : Bool) → (j == key) ≡ b →
          kept rules all longer j (get_or (set guesses key (length keys)) j 0) ≡ kept rules keys slices j (get_or guesses j 0)
      by j lt true is =
          let at = eqb-true j key is in
          let guess : get_or (set guesses key (length keys)) j 0 ≡ length keys = ap (λ k. get_or (set guesses key (length keys)) k 0) at ∙ get_or-set_same guesses key (length keys) 0 within in
          let found = is_at_guess all j (length keys) (omega (arith, length-append keys (key ∷ []))) (get_or_push keys key 0 (length keys) refl ∙ sym at) in
          ap (kept rules all longer j) guess ∙ kept_here all longer j (length keys) found
          ∙ ap (λ n. get_or longer n rules.empty) (sym long) ∙ get_or_push slices rules.empty rules.empty (length slices) refl
          ∙ sym (not_kept keys slices j (get_or guesses j 0) (subst (λ k. is_at keys k (get_or guesses k 0) ≡ false) (sym at) new))
      by j lt false is =
          let other = eqb-false j key is in
          ap (kept rules all longer j) (get_or-set_other guesses key j (length keys) 0 other) ∙ beside j (get_or guesses j 0) other (is_at keys j (get_or guesses j 0)) refl

      here : (j : ℕ) → j < length guesses →
          get_or (spread rules (set guesses key (length keys)) all longer) j rules.empty ≡ get_or (spread rules guesses keys slices) j rules.empty
      here j lt =
          spread_at (set guesses key (length keys)) all longer j (omega (arith, lt, length-set guesses key (length keys)))
          ∙ by j lt (j == key) refl ∙ sym (spread_at guesses keys slices j lt)

  -- the slice of a kept key is set
  pub spread_set : (guesses keys : List ℕ) (slices : List Slice) (place key : ℕ) (s : Slice) → AreKept guesses keys slices →
      place < length keys → get_or keys place 0 ≡ key →
      spread rules guesses keys (set slices place s) ≡ set (spread rules guesses keys slices) key s
  spread_set guesses keys slices place key s are lt there =
      ext_get_or rules.empty _ _
      (length-spread guesses keys (set slices place s) ∙ sym (length-spread guesses keys slices) ∙ sym (length-set (spread rules guesses keys slices) key s))
      (λ j in_all. at j (omega (arith, in_all, length-spread guesses keys (set slices place s))) (j == key) refl) where
        within : key < length guesses
        within = omega (arith, are.within place lt, there)

        guess : get_or guesses key 0 ≡ place
        guess = ap (λ k. get_or guesses k 0) (sym there) ∙ are.right place lt

        beside : (j g : ℕ) → (j ≡ key → ⊥) → (b : Bool) → is_at keys j g ≡ b → kept rules keys (set slices place s) j g ≡ kept rules keys slices j g
        beside j g other true is =
            let found = at_guess keys j g is in
            kept_here keys (set slices place s) j g is
            ∙ get_or-set_other slices place g s rules.empty (λ same. other (sym found.1 ∙ ap (λ p. get_or keys p 0) same ∙ there)) ∙ sym (kept_here keys slices j g is)
        beside j g other false is = not_kept keys (set slices place s) j g is ∙ sym (not_kept keys slices j g is)

        at : (j : ℕ) → j < length guesses → (b : Bool) → (j == key) ≡ b →
            get_or (spread rules guesses keys (set slices place s)) j rules.empty ≡ get_or (set (spread rules guesses keys slices) key s) j rules.empty
        at j lt_j true is =
            let same = eqb-true j key is in
            ap (λ k. get_or (spread rules guesses keys (set slices place s)) k rules.empty) same
            ∙ spread_at guesses keys (set slices place s) key within
            ∙ ap (kept rules keys (set slices place s) key) guess
            ∙ kept_here keys (set slices place s) key place (is_at_guess keys key place lt there)
            ∙ get_or-set_same slices place s rules.empty (omega (arith, lt, are.long))
            ∙ sym (get_or-set_same (spread rules guesses keys slices) key s rules.empty (omega (arith, within, length-spread guesses keys slices)))
            ∙ ap (λ k. get_or (set (spread rules guesses keys slices) key s) k rules.empty) (sym same)
        at j lt_j false is =
            let other = eqb-false j key is in
            spread_at guesses keys (set slices place s) j lt_j
            ∙ beside j (get_or guesses j 0) other (is_at keys j (get_or guesses j 0)) refl
            ∙ sym (spread_at guesses keys slices j lt_j) ∙ sym (get_or-set_other (spread rules guesses keys slices) key j s rules.empty other)

  -- the slice of a kept key is the one of the spread ones
  pub kept_is : (guesses keys : List ℕ) (slices : List Slice) (place key : ℕ) → AreKept guesses keys slices → place < length keys → get_or keys place 0 ≡ key →
      get_or (spread rules guesses keys slices) key rules.empty ≡ get_or slices place rules.empty
  kept_is guesses keys slices place key are lt there =
      spread_at guesses keys slices key (omega (arith, are.within place lt, there))
      ∙ ap (kept rules keys slices key) (ap (λ k. get_or guesses k 0) (sym there) ∙ are.right place lt)
      ∙ kept_here keys slices key place (is_at_guess keys key place lt there)

  -- an act on it
  pub spread_act : (guesses keys : List ℕ) (slices : List Slice) (place key : ℕ) (x : Act) → AreKept guesses keys slices → place < length keys → get_or keys place 0 ≡ key →
      spread rules guesses keys (set slices place (rules.sliced (get_or slices place rules.empty) x)) ≡ after_slice_act rules (spread rules guesses keys slices) key x
  spread_act guesses keys slices place key x are lt there =
      spread_set guesses keys slices place key (rules.sliced (get_or slices place rules.empty) x) are lt there
      ∙ ap (λ s. set (spread rules guesses keys slices) key (rules.sliced s x)) (sym (kept_is guesses keys slices place key are lt there))

  -- what holds of all spread slices holds of a kept one
  pub of_kept : (P : Slice → Type 0) (guesses keys : List ℕ) (slices : List Slice) (place : ℕ) → AreKept guesses keys slices → place < length keys →
      AllByRecursion P (spread rules guesses keys slices) → P (get_or slices place rules.empty)
  of_kept P guesses keys slices place are lt all =
      subst P (kept_is guesses keys slices place (get_or keys place 0) are lt refl)
      (all_at P (spread rules guesses keys slices) (get_or keys place 0) rules.empty (omega (arith, are.within place lt, length-spread guesses keys slices)) all)

  -- ---- merging

  merged_at : (rs : List Record) (ss : List Slice) (k : ℕ) (d : Record) → length ss ≡ length rs → k < length rs →
      get_or (merged_all rules rs ss) k d ≡ rules.merged (get_or rs k d) (get_or ss k rules.empty)
  merged_at [] ss k d len lt = absurd (omega (arith, lt))
  merged_at (r ∷ rs) [] k d len lt = absurd (omega (arith, len))
  merged_at (r ∷ rs) (s ∷ ss) zero d len lt = refl
  merged_at (r ∷ rs) (s ∷ ss) (suc k) d len lt = merged_at rs ss k d (omega (arith, len)) (omega (arith, lt))

  pub length-merges : (rs : List Record) (ss : List Slice) → length (merged_all rules rs ss) ≡ length rs
  length-merges (r ∷ rs) (s ∷ ss) = ap suc (length-merges rs ss)
  length-merges rs ss = refl

  module _ (Fits : ℕ → Record → Type 0) (SliceFits : ℕ → Slice → Type 0) (IsSmall : Act → Type 0) (laws : SplitLaws rules Fits SliceFits IsSmall)
      (n : ℕ) (opened : List Record) (fit : AllByRecursion (Fits n) opened) (guesses keys : List ℕ) (slices : List Slice)
      (are : AreKept guesses keys slices) (same : length guesses ≡ length opened) where
    -- the table into which the first so many slices are merged
    abbrev pub merged_before : ℕ → List Record
    merged_before k = merged_all rules opened (spread rules guesses (take k keys) (take k slices))

    spread_len : (k : ℕ) → length (spread rules guesses (take k keys) (take k slices)) ≡ length opened
    spread_len k = length-spread guesses (take k keys) (take k slices) ∙ same

    -- a key that is none of these has its record still
    pub record_still : (k key : ℕ) (d : Record) → key < length opened → is_at (take k keys) key (get_or guesses key 0) ≡ false →
        get_or (merged_before k) key d ≡ get_or opened key d
    record_still k key d lt never =
        merged_at opened (spread rules guesses (take k keys) (take k slices)) key d (spread_len k) lt
        ∙ ap (rules.merged (get_or opened key d))
        (spread_at guesses (take k keys) (take k slices) key (omega (arith, lt, same)) ∙ not_kept (take k keys) (take k slices) key (get_or guesses key 0) never)
        ∙ laws.merge_nothing n (get_or opened key d) (all_at (Fits n) opened key d lt fit)

    pub merged_first : (d : Record) → opened ≡ merged_before 0
    merged_first d =
        ext_get_or d opened (merged_before 0) (sym (length-merges opened (spread rules guesses [] [])))
        (λ key lt. sym (record_still 0 key d lt (not_at [] key (get_or guesses key 0) (λ low is. omega (arith, low)))))

    -- the record at the next key is still the one with which the phase opened
    pub next_still : (k : ℕ) (d : Record) → k < length keys → get_or (merged_before k) (get_or keys k 0) d ≡ get_or opened (get_or keys k 0) d
    next_still k d lt =
        record_still k (get_or keys k 0) d (omega (arith, are.within k lt, same))
        (not_at (take k keys) (get_or keys k 0) (get_or guesses (get_or keys k 0) 0)
        (λ low is. omega (arith, low, are.right k lt, length-take-le k keys (omega (arith, lt)))))

    -- a slice more
    pub merged_next : (d : Record) (k : ℕ) → k < length keys →
        merged_before (k + 1) ≡ set (merged_before k) (get_or keys k 0) (rules.merged (get_or (merged_before k) (get_or keys k 0) d) (get_or slices k rules.empty))
    merged_next d k lt =
        ext_get_or d _ _
        (length-merges opened (spread rules guesses (take (k + 1) keys) (take (k + 1) slices)) ∙ sym (length-merges opened (spread rules guesses (take k keys) (take k slices)))
        ∙ sym (length-set (merged_before k) (get_or keys k 0) _))
        (λ j in_all. at j (omega (arith, in_all, length-merges opened (spread rules guesses (take (k + 1) keys) (take (k + 1) slices)))) (j == get_or keys k 0) refl)
      where
        key : ℕ
        key = get_or keys k 0

        grown : Record
        grown = rules.merged (get_or (merged_before k) key d) (get_or slices k rules.empty)

        own : key < length opened
        own = omega (arith, are.within k lt, same)

        long : length (take (k + 1) keys) ≡ k + 1
        long = length-take-le (k + 1) keys (omega (arith, lt))

        short : length (take k keys) ≡ k
        short = length-take-le k keys (omega (arith, lt))

        here : get_or (merged_before (k + 1)) key d ≡ grown
        here =
            let found = is_at_guess (take (k + 1) keys) key k (omega (arith, long)) (get_or-take (k + 1) keys k 0 (omega arith)) in
            merged_at opened (spread rules guesses (take (k + 1) keys) (take (k + 1) slices)) key d (spread_len (k + 1)) own
            ∙ ap (rules.merged (get_or opened key d))
            (spread_at guesses (take (k + 1) keys) (take (k + 1) slices) key (are.within k lt)
            ∙ ap (kept rules (take (k + 1) keys) (take (k + 1) slices) key) (are.right k lt)
            ∙ kept_here (take (k + 1) keys) (take (k + 1) slices) key k found ∙ get_or-take (k + 1) slices k rules.empty (omega arith))
            ∙ ap (λ r. rules.merged r (get_or slices k rules.empty)) (sym (next_still k d lt))

        -- another key is among the first k + 1 just if it is among the first k
        beside : (j g : ℕ) → (j ≡ key → ⊥) → (b : Bool) → is_at (take k keys) j g ≡ b →
            kept rules (take (k + 1) keys) (take (k + 1) slices) j g ≡ kept rules (take k keys) (take k slices) j g
        beside j g other true is =
            let found = at_guess (take k keys) j g is in let low : g < k = omega (arith, found.0, short) in
            kept_here (take (k + 1) keys) (take (k + 1) slices) j g
            (is_at_guess (take (k + 1) keys) j g (omega (arith, low, long)) (get_or-take (k + 1) keys g 0 (omega (arith, low)) ∙ sym (get_or-take k keys g 0 low) ∙ found.1))
            ∙ get_or-take (k + 1) slices g rules.empty (omega (arith, low)) ∙ sym (get_or-take k slices g rules.empty low)
            ∙ sym (kept_here (take k keys) (take k slices) j g is)
        beside j g other false is =
            not_kept (take (k + 1) keys) (take (k + 1) slices) j g (not_at (take (k + 1) keys) j g (λ lt_g at. never lt_g at (nat_lt g k) refl))
            ∙ sym (not_kept (take k keys) (take k slices) j g is) where
              never : g < length (take (k + 1) keys) → get_or (take (k + 1) keys) g 0 ≡ j → (b : Bool) → nat_lt g k ≡ b → ⊥
              never lt_g at true before =
                  let low = ltb-true g k before in
                  true≢false (sym (is_at_guess (take k keys) j g (omega (arith, low, short))
                  (get_or-take k keys g 0 low ∙ sym (get_or-take (k + 1) keys g 0 (omega (arith, low))) ∙ at)) ∙ is)
              never lt_g at false behind =
                  let last : g ≡ k = omega (arith, ltb-false g k behind, lt_g, long) in
                  other (sym at ∙ ap (λ p. get_or (take (k + 1) keys) p 0) last ∙ get_or-take (k + 1) keys k 0 (omega arith))

        at : (j : ℕ) → j < length opened → (b : Bool) → (j == key) ≡ b →
            get_or (merged_before (k + 1)) j d ≡ get_or (set (merged_before k) key grown) j d
        at j in_table true is =
            let same_key = eqb-true j key is in
            ap (λ q. get_or (merged_before (k + 1)) q d) same_key ∙ here
            ∙ sym (get_or-set_same (merged_before k) key grown d (omega (arith, own, length-merges opened (spread rules guesses (take k keys) (take k slices)))))
            ∙ ap (λ q. get_or (set (merged_before k) key grown) q d) (sym same_key)
        at j in_table false is =
            let other = eqb-false j key is in let in_guesses : j < length guesses = omega (arith, in_table, same) in
            merged_at opened (spread rules guesses (take (k + 1) keys) (take (k + 1) slices)) j d (spread_len (k + 1)) in_table
            ∙ ap (rules.merged (get_or opened j d))
            (spread_at guesses (take (k + 1) keys) (take (k + 1) slices) j in_guesses
            ∙ beside j (get_or guesses j 0) other (is_at (take k keys) j (get_or guesses j 0)) refl
            ∙ sym (spread_at guesses (take k keys) (take k slices) j in_guesses))
            ∙ sym (merged_at opened (spread rules guesses (take k keys) (take k slices)) j d (spread_len k) in_table)
            ∙ sym (get_or-set_other (merged_before k) key j grown d other)

    -- the table after a slice is merged into its record, and that record before
    module _ (d : Record) (table : List Record) (k key : ℕ) (lt : k < length keys) (is : table ≡ merged_before k) (at : key ≡ get_or keys k 0) where
      pub record_fits : Fits n (get_or table key d)
      record_fits =
          subst (Fits n) (sym ((λ i. get_or (is i) (at i) d) ∙ next_still k d lt))
          (all_at (Fits n) opened (get_or keys k 0) d (omega (arith, are.within k lt, same)) fit)

      pub merged_one : (s : Slice) (held : Record) → get_or slices k rules.empty ≡ s → held ≡ rules.merged (get_or table key d) s → set table key held ≡ merged_before (k + 1)
      merged_one s held slice made =
          (λ i. set (is i) (at i) ((made ∙ (λ j. rules.merged (get_or (is j) (at j) d) (sym slice j))) i)) ∙ sym (merged_next d k lt)
