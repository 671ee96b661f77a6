-- The entries of one worker after the other.
use Rattle.std.proofs.Common.{◌≡◌, ◌<◌, ◌≤◌, ◌+◌, ◌==◌, ◌∙◌, ℕ, Bool, true, false, cond, nat_lt, not, List, [], ◌∷◌, ◌++◌, refl, sym, ap, arith, inl, inr, eq-eqb}
use Rattle.std.proofs.lemmas.Bool.{and_parts, cases_Bool, cases_order, not-true}
use Rattle.std.proofs.lemmas.{Bool.Decides.{nat_tests}, List.{Elements.{filter-append}, append-nil}}
use Rattle.std.{proofs.lemmas.List.Sorted.{ranks_by}, specs.Cmp.{IsStrictWeakOrder, nat_cmp_is}}
use Rattle.std.specs.List.{Sorted.{ties}, AllByRecursion, filter}
use Rattle.std.specs.declared.cmp.Ordering.TheVariants.{Less}
use Rattle.phase_laws.specs.Order.{part}
use Rattle.auction_rows.specs.declared.rows.Entry.{Entry}
use Rattle.worker_journals.specs.Journals.{entry_worker}
use Rattle.auction_text.proofs.ReplyOrder.{precedence_total}
use Rattle.auction_text.proofs.SortLemmas.{NoneBefore, one_in_order, ties-sorted, up-sorted}
use Rattle.auction_text.{proofs.TurnLemmas.{sorted-append}, specs.Order.{comes_before, in_order}}

less_first : (a b : Entry) → a.worker < b.worker → comes_before a b ≡ true
less_first a b less = rw (sym (nat_cmp_is a.worker b.worker Less less)) refl

never : (b : Bool) → b ≡ true → not b ≡ true → ⊥
never b holds fails = absurd (cc (sym holds ∙ not-true b fails))

-- those that tie are of one worker
tie_worker : (t e : Entry) → ties comes_before t e ≡ true → e.worker ≡ t.worker
tie_worker t e tie = elim (cases_order e.worker t.worker) [
  | inl same ↦ same
  | inr (inl less) ↦ absurd (never (comes_before e t) (less_first e t less) (and_parts _ _ tie).1)
  | inr (inr more) ↦ absurd (never (comes_before t e) (less_first t e more) (and_parts _ _ tie).0)
]

-- the entries of the workers below this one
abbrev pub below : ℕ → List Entry → List Entry
below w es = filter (λ e. nat_lt e.worker w) es

pub entry_order : IsStrictWeakOrder comes_before
entry_order = ranks_by precedence_total (λ (e : Entry). e)

module _ (t : Entry) where
  abbrev same : List Entry → List Entry
  same es = filter (ties comes_before t) es

  kept : (w : ℕ) (es : List Entry) → t.worker ≡ w → same (part entry_worker w es) ≡ same es
  kept w [] own = refl
  kept w (e ∷ es) own = elim (cases_Bool (ties comes_before t e)) [
    | inl tie ↦
        let here : (e.worker == w) ≡ true = eq-eqb e.worker w (tie_worker t e tie ∙ own) in
        rw (here, tie) (ap (λ (l : List Entry). e ∷ l) (kept w es own))
    | inr other ↦ elim (cases_Bool (e.worker == w)) [
      | inl here ↦ rw (here, other) (kept w es own)
      | inr there ↦ rw (there, other) (kept w es own)
    ]
  ]

  lost : (w : ℕ) (es : List Entry) → (t.worker ≡ w → ⊥) → same (part entry_worker w es) ≡ []
  lost w [] own = refl
  lost w (e ∷ es) own = elim (cases_Bool (e.worker == w)) [
    | inl here ↦ elim (cases_Bool (ties comes_before t e)) [
      | inl tie ↦ let is : e.worker ≡ w = grind (arith, nat_tests) in absurd (own (sym (tie_worker t e tie) ∙ is))
      | inr other ↦ rw (here, other) (lost w es own)
    ]
    | inr there ↦ rw there (lost w es own)
  ]

  -- one worker more
  pub worker_more : (w next : ℕ) (es told : List Entry) → next ≡ w + 1 → same told ≡ cond (nat_lt t.worker w) (same es) [] →
      same (told ++ part entry_worker w es) ≡ cond (nat_lt t.worker next) (same es) []
  worker_more w next es told is so_far = filter-append (ties comes_before t) told (part entry_worker w es) ∙ elim (cases_order t.worker w) [
    | inl own ↦
        let not_yet : nat_lt t.worker w ≡ false = grind (arith, nat_tests) in
        let within : nat_lt t.worker next ≡ true = grind (arith, nat_tests) in
        rw (so_far, not_yet, within, kept w es own) refl
    | inr (inl less) ↦
        let here : nat_lt t.worker w ≡ true = grind (arith, nat_tests) in
        let within : nat_lt t.worker next ≡ true = grind (arith, nat_tests) in
        rw (so_far, here, within, lost w es (λ own. omega (arith, own, less))) (append-nil (same es))
    | inr (inr more) ↦
        let not_yet : nat_lt t.worker w ≡ false = grind (arith, nat_tests) in
        let still : nat_lt t.worker next ≡ false = grind (arith, nat_tests) in
        rw (so_far, not_yet, still, lost w es (λ own. omega (arith, own, more))) refl
  ]

  below_ties : (w : ℕ) (es : List Entry) → same (below w es) ≡ cond (nat_lt t.worker w) (same es) []
  below_ties w [] = elim (cases_Bool (nat_lt t.worker w)) [ inl here ↦ rw here refl | inr there ↦ rw there refl ]
  below_ties w (e ∷ es) = elim (cases_Bool (ties comes_before t e)) [
    | inl tie ↦
        let is : nat_lt e.worker w ≡ nat_lt t.worker w = ap (λ (n : ℕ). nat_lt n w) (tie_worker t e tie) in
        elim (cases_Bool (nat_lt t.worker w)) [
          | inl here ↦ let kept : nat_lt e.worker w ≡ true = is ∙ here in rw (kept, tie, here) (ap (λ (l : List Entry). e ∷ l) (below_ties w es ∙ rw here refl))
          | inr there ↦ let left : nat_lt e.worker w ≡ false = is ∙ there in rw (left, tie, there) (below_ties w es ∙ rw there refl)
        ]
    | inr other ↦ elim (cases_Bool (nat_lt e.worker w)) [
      | inl kept ↦ rw (kept, other) (below_ties w es)
      | inr left ↦ rw (left, other) (below_ties w es)
    ]
  ]

none_in : (x : Entry) (w : ℕ) (es : List Entry) → x.worker < w → NoneBefore comes_before entry_order x (part entry_worker w es)
none_in x w [] less = tt
none_in x w (e ∷ es) less = elim (cases_Bool (e.worker == w)) [
  | inl here ↦
      let is : x.worker < e.worker = grind (arith, nat_tests) in
      rw here (entry_order.one_way x e (less_first x e is), none_in x w es less)
  | inr there ↦ rw there (none_in x w es less)
]

none_of_below : (w : ℕ) (es all : List Entry) → AllByRecursion (λ x. NoneBefore comes_before entry_order x (part entry_worker w all)) (below w es)
none_of_below w [] all = tt
none_of_below w (e ∷ es) all = elim (cases_Bool (nat_lt e.worker w)) [
  | inl here ↦ let less : e.worker < w = grind (arith, nat_tests) in rw here (none_in e w all less, none_of_below w es all)
  | inr there ↦ rw there (none_of_below w es all)
]

-- in order, the entries of one worker more stand after those of the workers below it
pub in_order_more : (w next : ℕ) (es : List Entry) → next ≡ w + 1 → in_order (below w es) ++ in_order (part entry_worker w es) ≡ in_order (below next es)
in_order_more w next es is =
    sym (sorted-append comes_before entry_order (below w es) (part entry_worker w es) (none_of_below w es es))
    ∙ one_in_order comes_before entry_order _ _ (up-sorted comes_before entry_order (below w es ++ part entry_worker w es)) (up-sorted comes_before entry_order (below next es))
    (λ t. ties-sorted comes_before entry_order t (below w es ++ part entry_worker w es) ∙ worker_more t w next es (below w es) is (below_ties t w es)
    ∙ sym (below_ties t next es) ∙ sym (ties-sorted comes_before entry_order t (below next es)))

pub below_none : (es : List Entry) → below 0 es ≡ []
below_none [] = refl
below_none (e ∷ es) = let none : nat_lt e.worker 0 ≡ false = grind (arith, nat_tests) in rw none (below_none es)

pub below_all : (w : ℕ) (es : List Entry) → AllByRecursion (λ e. e.worker < w) es → below w es ≡ es
below_all w [] few = refl
below_all w (e ∷ es) few =
    let few_first = few.0 in let here : nat_lt e.worker w ≡ true = grind (arith, nat_tests) in
    rw here (ap (λ (l : List Entry). e ∷ l) (below_all w es few.1))

pub all_below : (last n : ℕ) (es : List Entry) → last < n → AllByRecursion (λ e. e.worker ≤ last) es → AllByRecursion (λ e. e.worker < n) es
all_below last n [] less all = tt
all_below last n (e ∷ es) less all = (omega (arith, less, all.0), all_below last n es less all.1)
