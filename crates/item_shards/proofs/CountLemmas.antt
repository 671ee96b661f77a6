-- How many bids and comments an object of a book has, and how far a rating is from 0.
use Rattle.std.proofs.Common.{◌≡◌, ℕ, ◌+◌, ◌*◌, ◌≤◌, ◌==◌, ℤ, pos, ◌+ℤ◌, Bool, true, false, cond, List, [], ◌∷◌, length, map, filter, fold, Option, Some, None, sym, ap, ◌∙◌, subst, arith, unsigned_abs}
use Rattle.std.proofs.lemmas.{Int.{ints}, List.{length-map}}
use mathlib.Core.List.{map-map}
use Rattle.std.proofs.lemmas.List.Sums.{length-filter, count_by-le-length}
use Rattle.std.specs.List.{filter_map, cons_option}
use Rattle.split_records.specs.Sums.{int_sum}
use Rattle.auction_rows.specs.Book.{Book, as_bid, as_comment, bid_entry, same_item, bid_rows, comment_rows, comments_about}
use Rattle.auction_rows.specs.declared.requests.Object.TheVariants.{Item, User}
use Rattle.auction_rows.specs.declared.{values.Stars.Stars, requests.ItemId.ItemId, rows.CommentRow.CommentRow, rows.Row.Row}
use Rattle.auction_rows.specs.declared.rows.Row.TheVariants as row
use Rattle.item_shards.specs.Values.{value}
use Rattle.phase_laws.proofs.SumLemmas.{fold-int_sum}

filtered : {A : Type 0} (p : A → Bool) (xs : List A) → length (filter p xs) ≤ length xs
filtered p xs = subst (λ n. n ≤ length xs) (sym (length-filter p xs)) (count_by-le-length p xs)

-- as many rows of a kind as there are rows at most
pub of_kind : {X R : Type 0} (kind : X → Option R) (all : List X) → length (filter_map kind all) ≤ length all
of_kind kind [] = omega arith
of_kind kind (one ∷ all) = at (kind one) (of_kind kind all) where
  at : (o : Option _) → length (filter_map kind all) ≤ length all → length (cons_option o (filter_map kind all)) ≤ length (one ∷ all)
  at None h = omega arith
  at (Some r) h = omega arith

pub bids_at_most : (book : Book) (id : ItemId) → (value book (Item id)).bids.bids ≤ length book
bids_at_most book id =
    omega (arith, length-map (filter (λ r. same_item r.item id) (bid_rows book)) bid_entry, filtered (λ r. same_item r.item id) (bid_rows book), of_kind as_bid book)

pub comments_at_most : (book : Book) (user : ℕ) → (value book (User user)).comments.comments ≤ length book
comments_at_most book user =
    omega (arith, length-map (comments_about book user) (λ r. r.stars), filtered (λ r. r.about == user) (comment_rows book), of_kind as_comment book)

five_more : (stars : Stars) (rest : ℤ) (n : ℕ) → unsigned_abs rest ≤ n → unsigned_abs (stars.value +ℤ rest) ≤ n + 5
five_more stars rest n h = omega (arith, ints, stars.at_least, stars.at_most)

-- the sum of the stars that rows give a user
abbrev sum_of : List Row → ℕ → ℤ
sum_of book user = int_sum (map (λ r. r.stars.value) (filter (λ r. r.about == user) (filter_map as_comment book)))

sum_at_most : (book : Book) (user : ℕ) → unsigned_abs (sum_of book user) ≤ 5 * length book
sum_at_most [] user = omega (arith, ints)
sum_at_most (row.Item r ∷ book) user = omega (arith, sum_at_most book user)
sum_at_most (row.Bid r ∷ book) user = omega (arith, sum_at_most book user)
sum_at_most (row.Comment r ∷ book) user = at (r.about == user) (sum_at_most book user) where
  at : (b : Bool) → unsigned_abs (sum_of book user) ≤ 5 * length book
      → unsigned_abs (int_sum (map (λ c. c.stars.value) (cond b (r ∷ comments_about book user) (comments_about book user)))) ≤ 5 * length (row.Comment r ∷ book)
  at true m = omega (arith, five_more r.stars (sum_of book user) (5 * length book) m)
  at false m = omega (arith, m)
sum_at_most (row.Buy r ∷ book) user = omega (arith, sum_at_most book user)

-- the numbers of the stars of comments are those that a value folds
pub values_of : (comments : List CommentRow) → fold ◌+ℤ◌ (pos 0) (map (λ s. s.value) (map (λ (c : CommentRow). c.stars) comments)) ≡ fold ◌+ℤ◌ (pos 0) (map (λ c. c.stars.value) comments)
values_of comments = ap (fold ◌+ℤ◌ (pos 0)) (map-map (λ (s : Stars). s.value) (λ (c : CommentRow). c.stars) comments)

pub rating_at_most : (book : Book) (user : ℕ) → unsigned_abs (value book (User user)).comments.rating ≤ 5 * length book
rating_at_most book user = subst (λ z. unsigned_abs z ≤ 5 * length book) (sym (values_of (comments_about book user) ∙ fold-int_sum (map (λ r. r.stars.value) (comments_about book user)))) (sum_at_most book user)
