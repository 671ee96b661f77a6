-- A book for which counters stand has no more rows than these count.
use Rattle.std.proofs.Common.{◌≡◌, ℕ, zero, suc, ◌+◌, ◌*◌, ◌<◌, ◌≤◌, ◌==◌, Bool, true, false, cond, [], ◌∷◌, length, refl, arith}
use Rattle.std.proofs.lemmas.{Bool.{eqb-false}, List.Sums.{sum_by-append}}
use Rattle.std.specs.List.{AllByRecursion}
use Rattle.auction_rows.specs.Book.{Book, item_rows, bid_rows, comment_rows, buy_rows, items_stored, bids_stored, comments_stored, buys_stored, worker_of}
use Rattle.auction_rows.specs.declared.rows.Row.{Row}
use Rattle.auction_rows.specs.declared.rows.Row.TheVariants as row

-- the rows of all kinds of a worker
abbrev stored_in : Book → ℕ → ℕ
stored_in book w = items_stored book w + bids_stored book w + comments_stored book w + buys_stored book w

-- the sum over the workers below a number
abbrev sum_to : (ℕ → ℕ) → ℕ → ℕ
sum_to f zero = 0
sum_to f (suc n) = sum_to f n + f n

pub one_more : (one : Row) (book : Book) (w : ℕ) → stored_in (one ∷ book) w ≡ stored_in book w + cond (worker_of one == w) 1 0
one_more (row.Item r) book w =
    let e : items_stored (row.Item r ∷ book) w ≡ (0 + cond (r.id.worker == w) 1 0) + items_stored book w = sum_by-append (λ x. cond (x.id.worker == w) 1 0) (r ∷ []) (item_rows book) in
    omega (arith, e)
one_more (row.Bid r) book w =
    let e : bids_stored (row.Bid r ∷ book) w ≡ (0 + cond (r.id.worker == w) 1 0) + bids_stored book w = sum_by-append (λ x. cond (x.id.worker == w) 1 0) (r ∷ []) (bid_rows book) in
    omega (arith, e)
one_more (row.Comment r) book w =
    let e : comments_stored (row.Comment r ∷ book) w ≡ (0 + cond (r.id.worker == w) 1 0) + comments_stored book w = sum_by-append (λ x. cond (x.id.worker == w) 1 0) (r ∷ []) (comment_rows book) in
    omega (arith, e)
one_more (row.Buy r) book w =
    let e : buys_stored (row.Buy r ∷ book) w ≡ (0 + cond (r.id.worker == w) 1 0) + buys_stored book w = sum_by-append (λ x. cond (x.id.worker == w) 1 0) (r ∷ []) (buy_rows book) in
    omega (arith, e)

module _ (one : Row) (book : Book) where
  -- the sum does not shrink, and grows where the row's worker is one of these
  grown : (n : ℕ) → (sum_to (stored_in book) n ≤ sum_to (stored_in (one ∷ book)) n)
      × (worker_of one < n → sum_to (stored_in book) n + 1 ≤ sum_to (stored_in (one ∷ book)) n)
  grown zero = (omega arith, λ low. absurd (omega arith))
  grown (suc n) = at (worker_of one == n) refl (one_more one book n) (grown n) where
    at : (b : Bool) → (worker_of one == n) ≡ b → stored_in (one ∷ book) n ≡ stored_in book n + cond b 1 0
        → (sum_to (stored_in book) n ≤ sum_to (stored_in (one ∷ book)) n) × (worker_of one < n → sum_to (stored_in book) n + 1 ≤ sum_to (stored_in (one ∷ book)) n)
        → (sum_to (stored_in book) (suc n) ≤ sum_to (stored_in (one ∷ book)) (suc n))
        × (worker_of one < suc n → sum_to (stored_in book) (suc n) + 1 ≤ sum_to (stored_in (one ∷ book)) (suc n))
    at true is more was = (omega (arith, more, was.0), λ low. omega (arith, more, was.0))
    at false is more was = (omega (arith, more, was.0), λ low. let apart = eqb-false (worker_of one) n is in let rest = was.1 (omega (arith, low, apart)) in omega (arith, more, rest))

all_counted : (book : Book) (n : ℕ) → AllByRecursion (λ one. worker_of one < n) book → length book ≤ sum_to (stored_in book) n
all_counted [] n known = omega arith
all_counted (one ∷ book) n known = let rest = all_counted book n known.1 in let more = (grown one book n).1 known.0 in omega (arith, rest, more)

sum_at_most : (f : ℕ → ℕ) (most n : ℕ) → ((w : ℕ) → w < n → f w ≤ most) → sum_to f n ≤ n * most
sum_at_most f most zero each = omega arith
sum_at_most f most (suc n) each =
    let rest = sum_at_most f most n (λ w low. each w (omega (arith, low))) in let last = each n (omega arith) in omega (arith, rest, last)

-- of workers who stored at most so many each
pub size_at_most : (book : Book) (most n : ℕ) → AllByRecursion (λ one. worker_of one < n) book
    → ((w : ℕ) → w < n → items_stored book w + bids_stored book w + comments_stored book w + buys_stored book w ≤ most) → length book ≤ n * most
size_at_most book most n known each =
    let all = all_counted book n known in let sum = sum_at_most (stored_in book) most n each in omega (arith, all, sum)
