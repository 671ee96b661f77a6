-- One view more.
use Rattle.std.proofs.Common.{◌≡◌, ℕ, zero, suc, ◌+◌, List, [], ◌∷◌, ◌++◌, Option, Result, Ok, Err, IfOk, IfSome, map, ap, sym, subst, ◌∙◌, arith}
use base.Growing.{prefix_trans}
use mathlib.Core.List.{IsPrefix}
use Rattle.std.{proofs.lemmas.List.{map-append}, specs.{List.{range_with_len}, Result.{result_ok}}}
use Rattle.auction_rows.specs.{Book.{Book}, Replies.{reply}}
use Rattle.auction_rows.specs.declared.{values.Opening.Opening, requests.Request.Request, replies.Reply.Reply, rows.Row.Row}
use Rattle.phase_floor.specs.States.{JoinedState}
use Rattle.auction_program.specs.{Report.{views}, inner.Views.{IsEnd}}

range_more : (a n : ℕ) → range_with_len a (suc n) ≡ range_with_len a n ++ (a + n) ∷ []
range_more a zero = ap (λ k. k ∷ []) (omega arith)
range_more a (suc n) = ap (λ ks. a ∷ ks) (range_more (a + 1) n ∙ ap (λ k. range_with_len (a + 1) n ++ k ∷ []) (omega arith))

views_more : (opening : Opening) (book : Book) (view : ℕ → Request) (n : ℕ)
    → views opening book view (n + 1) ≡ views opening book view n ++ reply opening book 0 (view n) ∷ []
views_more opening book view n =
    let shown : ℕ → Reply = λ number. reply opening book 0 (view number) in
    let one : n + 1 ≡ suc n = omega arith in let last : 0 + n ≡ n = omega arith in
    ap (λ k. map shown (range_with_len 0 k)) one ∙ ap (map shown) (range_more 0 n) ∙ map-append shown (range_with_len 0 n) ((0 + n) ∷ [])
    ∙ ap (λ k. map shown (range_with_len 0 n) ++ shown k ∷ []) last

-- what a view shows goes to the end of those before it
pub view_more : (opening : Opening) (book : Book) (view : ℕ → Request) (n : ℕ) (replies more : List Reply) (seen : Reply)
    → seen ≡ reply opening book 0 (view n) → replies ≡ views opening book view n → more ≡ replies ++ seen ∷ [] → more ≡ views opening book view (n + 1)
view_more opening book view n replies more seen right before pushed =
    pushed ∙ ap (λ rs. rs ++ seen ∷ []) before ∙ ap (λ r. views opening book view n ++ r ∷ []) right ∙ sym (views_more opening book view n)

module _ (opening : Opening) (rows : Book) (old all : List (List Row)) (state : JoinedState) (book : Book) (end : IsEnd opening rows old all state book) where
  -- a window that goes on knows all phases still
  pub still_end : (new : List (List Row)) → IsPrefix old new → IsEnd opening rows new all state book
  still_end new onward =
      record { known = prefix_trans all old new end.known onward; counted = end.counted; book_is = end.book_is; opening_is = end.opening_is; stands = end.stands }

-- what follows of what was answered, where something was
pub if_ok_some : {T E : Type 0} (r : Result T E) (o : Option T) (P Q R : T → Type 0) → o ≡ result_ok r → IfOk r P → IfOk r Q → ((x : T) → P x → Q x → R x) → IfSome o R
if_ok_some (Ok x) o P Q R is p q follows = subst (λ y. IfSome y R) (sym is) (follows x p q)
if_ok_some (Err e) o P Q R is p q follows = subst (λ y. IfSome y R) (sym is) tt
