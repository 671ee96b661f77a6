-- One entry more.
use Rattle.std.proofs.Common.{◌≡◌, ℕ, ◌+◌, ◌<◌, ◌≤◌, ◌==◌, ◌&&◌, Bool, true, false, cond, List, [], ◌∷◌, ◌++◌, Option, Some, None, option_to_list, length, refl, sym, ap, ◌∙◌, arith}
use Rattle.std.proofs.lemmas.{Bool.{eqb-true, eq-eqb, and_parts}, List.{length-append}}
use Rattle.std.{proofs.lemmas.List.Sums.{fold_push, sum_by_push}, specs.List.{AllByRecursion}}
use Rattle.std.specs.Prelude.{count_by}
use Rattle.phase_laws.proofs.{OrderLemmas.{all_push, ordered_push}, ReplayLemmas.{replays_append}}
use Rattle.auction_rows.specs.{Book.{Book}, History.{IsRight, after_entry, book_after}}
use Rattle.auction_rows.specs.Replies.{reply, row_of, next}
use Rattle.auction_rows.specs.declared.{values.Opening.Opening, requests.Request.Request, rows.Row.Row, rows.Entry.Entry}
use Rattle.history_check.specs.{Checking.{GoWell}, CommitIds.{Fits, commit_id_of}}
use Rattle.history_check.specs.{Orders.{MayPrecede}, Scripts.{request_at, is_of}}
use Rattle.history_check.specs.declared.lines.Order.{Order}

pub counted : (worker index : ℕ) (history : List Entry) (e : Entry) → count_by (is_of worker index) (history ++ e ∷ []) ≡ count_by (is_of worker index) history + cond (is_of worker index e) 1 0
counted worker index history e = sum_by_push (λ (one : Entry). cond (is_of worker index one) 1 0) history e

-- whether an entry is of a request
pub same_request : (worker index : ℕ) (e : Entry) → is_of worker index e ≡ true → (e.worker ≡ worker) × (e.index ≡ index)
same_request worker index e is =
    let parts = and_parts (e.worker == worker) (e.index == index) is in
    (eqb-true e.worker worker parts.0, eqb-true e.index index parts.1)

pub own_request : (e : Entry) → is_of e.worker e.index e ≡ true
own_request e = λ k. eq-eqb e.worker e.worker refl k && eq-eqb e.index e.index refl k

short : (o : Option Row) → length (option_to_list o) ≤ 1
short None = omega arith
short (Some row) = omega arith

module _ (opening : Opening) (start : Book) (scripts : List (List Request)) (order : Order) (history : List Entry) (e : Entry) where
  pub book_more : book_after opening start (history ++ e ∷ []) ≡ next opening (book_after opening start history) e.worker e.request
  book_more = fold_push (after_entry opening) start history e

  pub not_many_more : length (book_after opening start (history ++ e ∷ [])) ≤ length (book_after opening start history) + 1
  not_many_more =
      let book = book_after opening start history in
      let row = row_of e.worker e.request (reply opening book e.worker e.request) in
      omega (arith, ap length book_more, length-append book (option_to_list row), short row)

  pub well_more : GoWell opening start scripts order history → request_at scripts e.worker e.index ≡ Some e.request → Fits (commit_id_of e)
      → count_by (is_of e.worker e.index) history ≡ 0 → AllByRecursion (λ d. MayPrecede order d e) history
      → e.reply ≡ reply opening (book_after opening start history) e.worker e.request → GoWell opening start scripts order (history ++ e ∷ [])
  well_more well there fits new may right = record {
    requests = all_push (λ e. request_at scripts e.worker e.index ≡ Some e.request) history e well.requests there;
    fits = all_push (λ e. Fits (commit_id_of e)) history e well.fits fits;
    at_most_once = once;
    in_order = ordered_push (MayPrecede order) history e well.in_order may;
    replays = replays_append (IsRight opening) (after_entry opening) start history (e ∷ []) well.replays (right, tt);
  } where
    once : (worker index : ℕ) → count_by (is_of worker index) (history ++ e ∷ []) ≤ 1
    once worker index = at (is_of worker index e) refl where
      at : (b : Bool) → is_of worker index e ≡ b → count_by (is_of worker index) (history ++ e ∷ []) ≤ 1
      at true is =
          let same = same_request worker index e is in
          let none : count_by (is_of worker index) history ≡ 0 = (λ k. count_by (is_of (sym same.0 k) (sym same.1 k)) history) ∙ new in
          omega (arith, counted worker index history e ∙ ap (λ b. count_by (is_of worker index) history + cond b 1 0) is, none)
      at false is = omega (arith, counted worker index history e ∙ ap (λ b. count_by (is_of worker index) history + cond b 1 0) is, well.at_most_once worker index)

-- the marks after an entry are those of the requests that stand in one
pub marks_more : (history : List Entry) (e : Entry) (old new : ℕ → ℕ → Bool) →
    ((w i : ℕ) → w < 16 → new w i ≡ cond ((e.worker == w) && (e.index == i)) true (old w i)) →
    ((w i : ℕ) → w < 16 → count_by (is_of w i) history ≡ cond (old w i) 1 0) → old e.worker e.index ≡ false →
    (w i : ℕ) → w < 16 → count_by (is_of w i) (history ++ e ∷ []) ≡ cond (new w i) 1 0
marks_more history e old new next_is before unseen w i below = at (is_of w i e) refl where
  at : (b : Bool) → is_of w i e ≡ b → count_by (is_of w i) (history ++ e ∷ []) ≡ cond (new w i) 1 0
  at true is =
      let same = same_request w i e is in
      let none : old w i ≡ false = (λ k. old (sym same.0 k) (sym same.1 k)) ∙ unseen in
      counted w i history e ∙ (λ k. before w i below k + cond (is k) 1 0) ∙ ap (λ b. cond b 1 0 + 1) none
      ∙ sym (ap (λ b. cond b 1 0) (next_is w i below ∙ ap (λ b. cond b true (old w i)) is))
  at false is =
      counted w i history e ∙ (λ k. before w i below k + cond (is k) 1 0) ∙ omega arith
      ∙ sym (ap (λ b. cond b 1 0) (next_is w i below ∙ ap (λ b. cond b true (old w i)) is))
