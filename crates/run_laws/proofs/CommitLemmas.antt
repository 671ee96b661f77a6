-- Calls of entries, the phases that they commit in, and hot sets.
use Rattle.std.proofs.Common.{◌≡◌, ℕ, zero, suc, ◌≤◌, List, [], ◌∷◌, ◌++◌, map, length, refl, ap, ◌∙◌, arith}
use Rattle.std.{proofs.lemmas.List.{map-append}, specs.List.{AllByRecursion}}
use Rattle.auction_rows.specs.Phases.{is_put_off}
use Rattle.auction_rows.specs.declared.{limits.Policy.Policy, requests.Object.Object, requests.Request.Request, rows.Entry.Entry}
use Rattle.phase_laws.proofs.OrderLemmas.{all-weaker, all-from_map}
use Rattle.phase_laws.specs.Order.{IsOrderedBy, part}
use Rattle.run_laws.proofs.PartLemmas.{all_of_parts, part-append}
use Rattle.run_laws.{proofs.TurnLemmas.{commit_from, commit_until}, specs.Run.{calls_of}}
use Rattle.run_laws.specs.Serving.{call_of, hot_in, phase_reached, commit_phase}

pub ordered_all : {X : Type 0} (P : X → Type 0) (S : X → X → Type 0) → ((x y : X) → P x → P y → S x y) → (xs : List X) → AllByRecursion P xs → IsOrderedBy S xs
ordered_all P S f [] h = tt
ordered_all P S f (x ∷ xs) h = (all-weaker P (S x) (λ y py. f x y h.0 py) xs h.1, ordered_all P S f xs h.1)

pub calls-append : (w : ℕ) (xs ys : List Entry) → calls_of w (xs ++ ys) ≡ calls_of w xs ++ calls_of w ys
calls-append w xs ys = ap (map call_of) (part-append (λ e. e.worker) w xs ys) ∙ map-append call_of (part (λ e. e.worker) w xs) (part (λ e. e.worker) w ys)

-- what holds of every worker's calls holds of the entries
pub of_calls : (P : ℕ × Request → Type 0) (entries : List Entry) → ((w : ℕ) → AllByRecursion P (calls_of w entries)) → AllByRecursion (λ e. P (call_of e)) entries
of_calls P entries h = all_of_parts (λ e. e.worker) (λ e. P (call_of e)) entries (λ w. all-from_map call_of P (part (λ e. e.worker) w entries) (h w))

-- a call commits in the phase that it reaches or in the next
module _ (policy : Policy) (hot : List (List Object)) (call : ℕ × Request) where
  pub from : phase_reached policy call.0 ≤ commit_phase policy hot call
  from = commit_from (phase_reached policy) (λ phase request. is_put_off (hot_in hot phase) request) call

  pub until : commit_phase policy hot call ≤ suc (phase_reached policy call.0)
  until = commit_until (phase_reached policy) (λ phase request. is_put_off (hot_in hot phase) request) call

-- one hot set more is that of the next phase
pub hot_at_end : (hot : List (List Object)) (now : List Object) (q : ℕ) → length hot ≡ q → hot_in (hot ++ now ∷ []) q ≡ now
hot_at_end [] now zero is = refl
hot_at_end (h ∷ hot) now (suc q) is = hot_at_end hot now q (omega arith)
hot_at_end hot now q is = absurd (omega arith)

pub hot_elsewhere : (hot : List (List Object)) (now : List Object) (q : ℕ) → (length hot ≡ q → ⊥) → hot_in (hot ++ now ∷ []) q ≡ hot_in hot q
hot_elsewhere [] now zero other = absurd (other refl)
hot_elsewhere [] now (suc q) other = refl
hot_elsewhere (h ∷ hot) now zero other = refl
hot_elsewhere (h ∷ hot) now (suc q) other = hot_elsewhere hot now q (λ (e : length hot ≡ q). other (ap suc e))
