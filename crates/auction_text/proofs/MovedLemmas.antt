-- The entries of a part as they stand in the whole: their order, and their lines.
use Rattle.std.proofs.Common.{arith, ◌≡◌, ◌∙◌, ◌+◌, ◌<◌, ◌==◌, ◌∷◌, ◌++◌, ◌≤◌, ℕ, Bool, List, [], ap, ap₂, get_or, inl, inr, length, map, refl, set, subst, sym}
use Rattle.std.proofs.lemmas.Bool.{Decides.{nat_tests}, cases_Bool, cases_eq, cases_lt, cases_order}
use Rattle.std.proofs.lemmas.List.{get_or-set_other, get_or-set_same, get_or_default, get_or_past}
use Rattle.std.{proofs.lemmas.List.Folds.{flat_map-map}, specs.Cmp.{nat_cmp_is}}
use Rattle.std.specs.{List.{AllByRecursion}, Ordering.{is_lt, nat_cmp, ordering_then}}
use Rattle.std.specs.declared.cmp.Ordering.{TheVariants.{Equal, Greater, Less}, Ordering}
use Rattle.phase_laws.specs.Order.{part}
use Rattle.auction_rows.specs.declared.{requests.Request.Request, rows.Entry.Entry}
use Rattle.worker_journals.specs.Journals.{entry_worker}
use Rattle.auction_text.specs.Moved.{Gone, all_moved, moved}
use Rattle.auction_text.specs.Order.{comes_before, in_order, put_in, sorted}
use Rattle.auction_text.specs.{Replies.{lines, reply_line}, inner.Putting.{line_after}}
use Rattle.auction_text.specs.inner.Workers.{replies_of}

more_alike : (k i j : ℕ) → nat_cmp (k + i) (k + j) ≡ nat_cmp i j
more_alike k i j = elim (cases_order i j) [
  | inl same ↦ let is : k + i ≡ k + j = omega (arith, same) in sym (nat_cmp_is (k + i) (k + j) Equal is) ∙ nat_cmp_is i j Equal same
  | inr (inl less) ↦ let is : k + i < k + j = omega (arith, less) in sym (nat_cmp_is (k + i) (k + j) Less is) ∙ nat_cmp_is i j Less less
  | inr (inr more) ↦ let is : k + j < k + i = omega (arith, more) in sym (nat_cmp_is (k + i) (k + j) Greater is) ∙ nat_cmp_is i j Greater more
]

-- what keeps which of two comes before the other keeps the order of all
module _ {X : Type 0} (lt : X → X → Bool) (f : X → X) (keeps : (x y : X) → lt (f x) (f y) ≡ lt x y) where
  put_in-map : (x : X) (ys : List X) → put_in lt (f x) (map f ys) ≡ map f (put_in lt x ys)
  unfolding put_in
  put_in-map x [] = refl
  put_in-map x (y ∷ ys) = elim (cases_Bool (lt y x)) [
    | inl before ↦ rw (keeps y x ∙ before, before) (ap (λ (l : List X). f y ∷ l) (put_in-map x ys))
    | inr after ↦ rw (keeps y x ∙ after, after) refl
  ]

  sorted-map : (xs : List X) → sorted lt (map f xs) ≡ map f (sorted lt xs)
  unfolding sorted
  sorted-map [] = refl
  sorted-map (x ∷ xs) = ap (put_in lt (f x)) (sorted-map xs) ∙ put_in-map x (sorted lt xs)

module _ (gone : Gone) where
  before-moved : (a b : Entry) → comes_before (moved gone a) (moved gone b) ≡ comes_before a b
  before-moved a b = elim (cases_order a.worker b.worker) [
    | inl same ↦
        let own : gone.requests b.worker ≡ gone.requests a.worker = ap gone.requests (sym same) in
        ap (λ (n : ℕ). is_lt (ordering_then (nat_cmp a.worker b.worker) (nat_cmp (gone.requests a.worker + a.index) (n + b.index)))) own
        ∙ ap (λ (o : Ordering). is_lt (ordering_then (nat_cmp a.worker b.worker) o)) (more_alike (gone.requests a.worker) a.index b.index)
    | inr (inl less) ↦ rw (sym (nat_cmp_is a.worker b.worker Less less)) refl
    | inr (inr more) ↦ rw (sym (nat_cmp_is a.worker b.worker Greater more)) refl
  ]

  -- moved, entries keep their order
  pub in_order-moved : (es : List Entry) → in_order (all_moved gone es) ≡ all_moved gone (in_order es)
  in_order-moved es = sorted-map comes_before (moved gone) before-moved es

  part-moved : (w : ℕ) (es : List Entry) → part entry_worker w (all_moved gone es) ≡ all_moved gone (part entry_worker w es)
  part-moved w [] = refl
  part-moved w (e ∷ es) = elim (cases_Bool (e.worker == w)) [
    | inl here ↦ rw here (ap (λ (l : List Entry). moved gone e ∷ l) (part-moved w es))
    | inr there ↦ rw there (part-moved w es)
  ]

  pub workers-moved : (n : ℕ) (es : List Entry) → AllByRecursion (λ e. e.worker < n) es → AllByRecursion (λ e. e.worker < n) (all_moved gone es)
  workers-moved n [] all = tt
  workers-moved n (e ∷ es) all = (all.0, workers-moved n es all.1)

-- after this many requests of each worker
abbrev alike : Gone → ℕ → Gone
alike gone n = record gone { requests = λ worker. n }

own-moved : (gone : Gone) (w : ℕ) (es : List Entry) → all_moved (alike gone (gone.requests w)) (part entry_worker w es) ≡ all_moved gone (part entry_worker w es)
own-moved gone w [] = refl
own-moved gone w (e ∷ es) = elim (cases_Bool (e.worker == w)) [
  | inl here ↦
      let is : e.worker ≡ w = grind (arith, nat_tests) in
      rw here (ap₂ (λ (n : ℕ) (l : List Entry). record e { phase = gone.phases + e.phase; index = n + e.index } ∷ l) (ap gone.requests (sym is)) (own-moved gone w es))
  | inr there ↦ rw there (own-moved gone w es)
]

-- a worker's lines after so many requests of it are its replies in the whole
pub replies_of-moved : (gone : Gone) (w : ℕ) (es : List Entry) → lines (line_after (gone.requests w)) (in_order (part entry_worker w es)) ≡ replies_of (all_moved gone es) w
replies_of-moved gone w es =
    let own = alike gone (gone.requests w) in let ps = part entry_worker w es in
    sym (flat_map-map reply_line (moved own) (in_order ps))
    ∙ ap (lines reply_line) (sym (in_order-moved own ps))
    ∙ ap (λ (l : List Entry). lines reply_line (in_order l)) (own-moved gone w es ∙ sym (part-moved gone w es))

pub lines_after_none : (es : List Entry) → lines (line_after 0) es ≡ lines reply_line es
lines_after_none [] = refl
lines_after_none (e ∷ es) =
    let index : 0 + e.index ≡ e.index = omega arith in
    ap₂ (λ (n : ℕ) (l : List ℕ). reply_line (record e { index = n }) ++ l) index (lines_after_none es)

-- where nothing went before, entries stand as they are
pub none_moved : (gone : Gone) (es : List Entry) → gone.phases ≡ 0 → ((w : ℕ) → gone.requests w ≡ 0) → all_moved gone es ≡ es
none_moved gone [] phases requests = refl
none_moved gone (e ∷ es) phases requests =
    let phase : gone.phases + e.phase ≡ e.phase = omega (arith, phases) in
    let index : gone.requests e.worker + e.index ≡ e.index = omega (arith, requests e.worker) in
    ap₂ (λ (p n : ℕ). record e { phase = p; index = n } ∷ all_moved gone es) phase index
    ∙ ap (λ (l : List Entry). e ∷ l) (none_moved gone es phases requests)

-- the scripts up to one are counted, beside what was counted at the start
pub record Counted (start : List ℕ) (scripts : List (List Request)) (now : List ℕ) (upto : ℕ) : Type 0 where
  pub counted : (k : ℕ) → k < upto → get_or now k 0 ≡ get_or start k 0 + length (get_or scripts k [])
  pub others : (k : ℕ) → upto ≤ k → get_or now k 0 ≡ get_or start k 0

module _ (start : List ℕ) (scripts : List (List Request)) where
  pub counted_none : Counted start scripts start 0
  counted_none = record { counted = λ k less. absurd (omega (arith, less)); others = λ k more. refl }

  -- the next count, by what is read for it
  pub next_count : (now : List ℕ) (w held len : ℕ) (script : List Request) → w < length now → w < length scripts → held ≡ get_or now w held → script ≡ get_or scripts w script
      → len ≡ length script → Counted start scripts now w → held + len ≡ get_or start w 0 + length (get_or scripts w [])
  next_count now w held len script within in_scripts held_is script_is len_is so_far =
      let before : held ≡ get_or start w 0 = held_is ∙ get_or_default now w held 0 within ∙ so_far.others w (omega arith) in
      let more : len ≡ length (get_or scripts w []) = len_is ∙ ap length (script_is ∙ get_or_default scripts w script [] in_scripts) in
      ap₂ (λ (m n : ℕ). m + n) before more

  pub counted_more : (now : List ℕ) (w count held len : ℕ) (script : List Request) → w < length now → w < length scripts → held ≡ get_or now w held → script ≡ get_or scripts w script
      → len ≡ length script → count ≡ held + len → Counted start scripts now w → Counted start scripts (set now w count) (w + 1)
  counted_more now w count held len script within in_scripts held_is script_is len_is count_is so_far = record {
    counted = λ k less. elim (cases_eq k w) [
      | inl same ↦
          let here : get_or (set now w count) w 0 ≡ get_or start w 0 + length (get_or scripts w []) =
          get_or-set_same now w count 0 within ∙ count_is ∙ next_count now w held len script within in_scripts held_is script_is len_is so_far in
          subst (λ (i : ℕ). get_or (set now w count) i 0 ≡ get_or start i 0 + length (get_or scripts i [])) (sym same) here
      | inr other ↦ get_or-set_other now w k count 0 other ∙ so_far.counted k (omega (arith, less, other))
    ];
    others = λ k more. get_or-set_other now w k count 0 (λ same. absurd (omega (arith, more, same))) ∙ so_far.others k (omega (arith, more));
  }

  pub counted_all : (now : List ℕ) (w : ℕ) → length scripts ≤ w → Counted start scripts now w → (k : ℕ) → get_or now k 0 ≡ get_or start k 0 + length (get_or scripts k [])
  counted_all now w all so_far k = elim (cases_lt k w) [
    | inl less ↦ so_far.counted k less
    | inr more ↦
        let past : length scripts ≤ k = omega (arith, more, all) in
        let none : length (get_or scripts k []) ≡ 0 = ap length (get_or_past scripts k [] past) in
        omega (arith, none, so_far.others k more)
  ]
