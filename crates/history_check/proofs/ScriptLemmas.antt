-- The requests of scripts, and their marks.
use Rattle.std.proofs.Common.{◌≡◌, ℕ, zero, suc, ◌+◌, ◌<◌, ◌≤◌, ◌==◌, ◌&&◌, ◌⊎◌, Bool, true, false, cond, List, [], Some, length, get_or, set, refl, sym, ap, ◌∙◌, inl, inr, arith, below_more}
use Rattle.std.proofs.lemmas.Bool.{cases_lt, eqb-true, eq-eqb, false≢true, and_left, and_right}
use Rattle.std.proofs.lemmas.List.{get_or_default, get_or-set_same, get_or-set_other}
use Rattle.std.proofs.lemmas.Option.{slice_get_within, unwrap_or-slice_get}
use Rattle.std.specs.Prelude.{replicate}
use Rattle.auction_rows.specs.declared.requests.Request.{Request}
use Rattle.run_laws.{proofs.ScriptLemmas.{past_end}, specs.Serving.{script_of}}
use Rattle.history_check.specs.{Marks.{is_marked, HasPlaces}, Scripts.{request_at}}
use Rattle.history_check.specs.inner.MarkRows.{AreWide}

-- a request that there is, is of a worker and at an index that there is
pub index_within : (scripts : List (List Request)) (worker index : ℕ) (request : Request) → request_at scripts worker index ≡ Some request → index < length (script_of scripts worker)
index_within scripts worker index request is = slice_get_within (script_of scripts worker) index request is

pub worker_within : (scripts : List (List Request)) (worker index : ℕ) → index < length (script_of scripts worker) → worker < length scripts
worker_within scripts worker index within = at (cases_lt worker (length scripts)) where
  at : (worker < length scripts) ⊎ (length scripts ≤ worker) → worker < length scripts
  at (inl less) = less
  at (inr over) = absurd (omega (arith, within, ap length (past_end scripts worker over)))

-- a request that there is, is of a worker that there is, and has a place
pub worker_below : (scripts : List (List Request)) (worker index : ℕ) (request : Request) → length scripts ≤ 16 → request_at scripts worker index ≡ Some request → worker < 16
worker_below scripts worker index request few there = omega (arith, few, worker_within scripts worker index (index_within scripts worker index request there))

pub index_below : (scripts : List (List Request)) (rows : List (List Bool)) (worker index : ℕ) (request : Request) → HasPlaces rows scripts
    → request_at scripts worker index ≡ Some request → index < length rows
index_below scripts rows worker index request places there = omega (arith, places worker, index_within scripts worker index request there)

-- ---- the longest script

pub all_here : (scripts : List (List Request)) (most i : ℕ) → length scripts ≤ i → ((w : ℕ) (d : List Request) → w < i → length (get_or scripts w d) ≤ most)
    → (worker : ℕ) → length (script_of scripts worker) ≤ most
all_here scripts most i whole within worker = at (cases_lt worker (length scripts)) where
  at : (worker < length scripts) ⊎ (length scripts ≤ worker) → length (script_of scripts worker) ≤ most
  at (inl less) = omega (arith, ap length (unwrap_or-slice_get scripts worker []), within worker [] (omega (arith, less, whole)))
  at (inr over) = omega (arith, ap length (past_end scripts worker over))

-- the script at a place
pub script_there : (scripts : List (List Request)) (i : ℕ) (script : List Request) → i < length scripts → script ≡ get_or scripts i script → script_of scripts i ≡ script
script_there scripts i script less is = unwrap_or-slice_get scripts i [] ∙ sym (is ∙ get_or_default scripts i script [] less)

-- what holds of the workers before one, and of that one, holds of those up to it
pub one_worker_more : (P : ℕ → ℕ → Type 0) (n : ℕ) → ((w i : ℕ) → w < n → P w i) → ((i : ℕ) → P n i) → (w i : ℕ) → w < n + 1 → P w i
one_worker_more P n before here w i less = below_more (λ v. P v i) n (λ v. before v i) (here i) w less

-- ---- marks

pub marked_next : (rows : List (List Bool)) (worker index : ℕ) → index < length rows → worker < length (get_or rows index [])
    → (w i : ℕ) → is_marked (set rows index (set (get_or rows index []) worker true)) w i ≡ cond ((worker == w) && (index == i)) true (is_marked rows w i)
marked_next rows worker index within below w i = at (index == i) refl where
  new : List (List Bool)
  new = set rows index (set (get_or rows index []) worker true)

  at : (b : Bool) → (index == i) ≡ b → is_marked (set rows index (set (get_or rows index []) worker true)) w i ≡ cond ((worker == w) && (index == i)) true (is_marked rows w i)
  at false e =
      ap (λ row. get_or row w false) (get_or-set_other rows index i (set (get_or rows index []) worker true) [] (λ same. false≢true (sym e ∙ eq-eqb index i (sym same))))
      ∙ sym (ap (λ b. cond b true (is_marked rows w i)) (and_right (worker == w) (index == i) e))
  at true e = here (worker == w) refl where
    same : index ≡ i
    same = eqb-true index i e

    row_is : get_or (set rows index (set (get_or rows index []) worker true)) i [] ≡ set (get_or rows index []) worker true
    row_is = ap (λ k. get_or (set rows index (set (get_or rows index []) worker true)) k []) (sym same) ∙ get_or-set_same rows index (set (get_or rows index []) worker true) [] within

    here : (b : Bool) → (worker == w) ≡ b → is_marked (set rows index (set (get_or rows index []) worker true)) w i ≡ cond ((worker == w) && (index == i)) true (is_marked rows w i)
    here true f =
        ap (λ row. get_or row w false) row_is
        ∙ ap (λ k. get_or (set (get_or rows index []) worker true) k false) (sym (eqb-true worker w f))
        ∙ get_or-set_same (get_or rows index []) worker true false below
        ∙ sym (λ k. cond (f k && e k) true (is_marked rows w i))
    here false f =
        ap (λ row. get_or row w false) row_is
        ∙ get_or-set_other (get_or rows index []) worker w true false (λ eq. false≢true (sym f ∙ eq-eqb worker w (sym eq)))
        ∙ ap (λ k. get_or (get_or rows k []) w false) same
        ∙ sym (ap (λ b. cond b true (is_marked rows w i)) (and_left (worker == w) (index == i) f))

pub mark_made : (rows : List (List Bool)) (worker index : ℕ) (row : List Bool) → row ≡ get_or rows index row → index < length rows → worker < length row
    → (w i : ℕ) → is_marked (set rows index (set row worker true)) w i ≡ cond ((worker == w) && (index == i)) true (is_marked rows w i)
mark_made rows worker index row is within below w i =
    let same : row ≡ get_or rows index [] = is ∙ get_or_default rows index row [] within in
    ap (λ r. is_marked (set rows index (set r worker true)) w i) same ∙ marked_next rows worker index within (omega (arith, below, ap length same)) w i

pub wide_at : (rows : List (List Bool)) (i : ℕ) (row : List Bool) → AreWide rows → i < length rows → row ≡ get_or rows i row → length row ≡ 16
wide_at rows i row wide less is = ap length (is ∙ get_or_default rows i row [] less) ∙ wide i less

-- ---- rows with no mark

pub wide_new : (n : ℕ) (row : List Bool) → length row ≡ 16 → AreWide (replicate n row)
wide_new zero row len k less = absurd (omega arith)
wide_new (suc n) row len zero less = len
wide_new (suc n) row len (suc k) less = wide_new n row len k (omega arith)

none_marked : (n worker : ℕ) → get_or (replicate n false) worker false ≡ false
none_marked (suc n) (suc worker) = none_marked n worker
none_marked n worker = refl

pub unmarked_new : (n wide worker index : ℕ) → is_marked (replicate n (replicate wide false)) worker index ≡ false
unmarked_new zero wide worker index = refl
unmarked_new (suc n) wide worker zero = none_marked wide worker
unmarked_new (suc n) wide worker (suc index) = unmarked_new n wide worker index
