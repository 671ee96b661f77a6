-- A book that is counted and written row by row.
use Rattle.std.proofs.Common.{◌≡◌, ℕ, ◌+◌, ◌<◌, ◌≤◌, ◌==◌, Bool, true, false, cond, List, [], ◌∷◌, ◌++◌, length, set, take, drop, get_or, refl, sym, ap, ◌∙◌, arith, eq-eqb}
use Rattle.std.proofs.lemmas.Bool.{eqb-true, false≢true}
use Rattle.std.proofs.lemmas.List.{get_or-set_same, get_or-set_other, take-append-drop}
use Rattle.std.proofs.lemmas.List.Sums.{sum_by-append}
use Rattle.auction_rows.specs.{Book.{Book}, declared.rows.Row.{Row}}
use Rattle.auction_rows.specs.declared.rows.Row.TheVariants as row
use Rattle.item_shards.proofs.SerialLemmas.{one_more, stored_next, count_more}
use Rattle.item_shards.specs.{Counting.{worker_of, stored_by, counted}, OpeningRows.{rows_by}}
use Rattle.item_shards.specs.declared.serial.StoreCounts.{StoreCounts}
use Rattle.worker_slices.specs.declared.counters.Counters.{Counters}
use Rattle.phase_transactions.specs.Workers.{no_counters}
use Rattle.closing_laws.specs.Standing.{counters_at}
use Rattle.phase_floor.specs.Resuming.{counters_in, with_row}

-- One more row is counted among its worker's.

abbrev of_counts : StoreCounts → ℕ → Counters
of_counts counts commits = record { items = counts.items; bids = counts.bids; comments = counts.comments; buys = counts.buys; commits = commits }

rows_more : (b : Book) (r : Row) (w : ℕ) → rows_by (b ++ r ∷ []) w ≡ cond (worker_of r == w) (rows_by b w + 1) (rows_by b w)
rows_more b r w = count_more (λ x. worker_of x == w) b r

counted_as : (r : Row) (counts : StoreCounts) (n : ℕ) → of_counts (counted r counts) (n + 1) ≡ with_row r (of_counts counts n)
counted_as (row.Item r) counts n = refl
counted_as r counts n = refl

pub counters_next : (b : Book) (r : Row) (w : ℕ) → counters_in (b ++ r ∷ []) w ≡ cond (worker_of r == w) (with_row r (counters_in b w)) (counters_in b w)
counters_next b r w = (λ i. of_counts (stored_next b r w i) (rows_more b r w i)) ∙ at (worker_of r == w) where
  at : (t : Bool) → of_counts (cond t (counted r (stored_by b w)) (stored_by b w)) (cond t (rows_by b w + 1) (rows_by b w)) ≡ cond t (with_row r (counters_in b w)) (counters_in b w)
  at true = counted_as r (stored_by b w) (rows_by b w)
  at false = refl

module _ (b : Book) (r : Row) (old : List Counters) (workers : ℕ) (len : length old ≡ workers)
    (each : (w : ℕ) → w < workers → counters_at old w ≡ counters_in b w) (own : worker_of r < workers) where
  abbrev next : List Counters
  next = set old (worker_of r) (with_row r (counters_at old (worker_of r)))

  pub each_next : (w : ℕ) → w < workers → counters_at next w ≡ counters_in (b ++ r ∷ []) w
  each_next w low = at (worker_of r == w) refl where
    known : worker_of r < length old
    known = omega (arith, len, own)

    at : (t : Bool) → (worker_of r == w) ≡ t → counters_at next w ≡ counters_in (b ++ r ∷ []) w
    at true e =
        let is : worker_of r ≡ w = eqb-true (worker_of r) w e in
        ap (λ v. counters_at next v) (sym is) ∙ get_or-set_same old (worker_of r) (with_row r (counters_at old (worker_of r))) no_counters known
        ∙ ap (with_row r) (each (worker_of r) own ∙ ap (counters_in b) is)
        ∙ sym (counters_next b r w ∙ ap (λ t. cond t (with_row r (counters_in b w)) (counters_in b w)) e)
    at false e =
        get_or-set_other old (worker_of r) w (with_row r (counters_at old (worker_of r))) no_counters (λ is. false≢true (sym e ∙ eq-eqb (worker_of r) w (sym is)))
        ∙ each w low
        ∙ sym (counters_next b r w ∙ ap (λ t. cond t (with_row r (counters_in b w)) (counters_in b w)) e)

-- a worker's row is counted, so those before it are fewer
pub before_fewer : (rows : Book) (i : ℕ) (r : Row) → i < length rows → r ≡ get_or rows i r → rows_by (take i rows) (worker_of r) + 1 ≤ rows_by rows (worker_of r)
before_fewer rows i r low is =
    let w = worker_of r in
    let all : rows ≡ (take i rows ++ r ∷ []) ++ drop (i + 1) rows = sym (ap (λ front. front ++ drop (i + 1) rows) (sym (one_more [] rows i r low is)) ∙ take-append-drop (i + 1) rows) in
    let split = ap (λ b. rows_by b w) all ∙ sum_by-append (λ x. cond (worker_of x == w) 1 0) (take i rows ++ r ∷ []) (drop (i + 1) rows) in
    let last = rows_more (take i rows) r w ∙ ap (λ t. cond t (rows_by (take i rows) w + 1) (rows_by (take i rows) w)) (eq-eqb w w refl) in
    omega (arith, split, last)
