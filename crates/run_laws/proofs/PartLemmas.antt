-- Entries of several workers in one list, by each worker's part.
use Rattle.std.proofs.Common.{◌≡◌, ℕ, ◌==◌, Bool, true, false, cond, List, [], ◌∷◌, ◌++◌, refl, sym, eq-eqb}
use Rattle.std.{proofs.lemmas.List.Elements.{filter-append}, specs.List.{AllByRecursion}}
use Rattle.phase_laws.proofs.{ListLemmas.{all-uncond, all-unfilter}, OrderLemmas.{all-weaker}}
use Rattle.phase_laws.specs.Order.{IsOrderedBy, part}

module _ {E : Type 0} (worker : E → ℕ) where
  part_rest : (P : E → Type 0) (w : ℕ) (x : E) (xs : List E) → AllByRecursion P (part worker w (x ∷ xs)) → AllByRecursion P (part worker w xs)
  part_rest P w x xs h = (all-uncond P (worker x == w) x (part worker w xs) h).1

  -- what holds of every worker's part holds of all
  pub all_of_parts : (P : E → Type 0) (xs : List E) → ((w : ℕ) → AllByRecursion P (part worker w xs)) → AllByRecursion P xs
  all_of_parts P [] h = tt
  all_of_parts P (x ∷ xs) h = (
    (all-uncond P (worker x == worker x) x (part worker (worker x) xs) (h (worker x))).0 (eq-eqb (worker x) (worker x) refl),
    all_of_parts P xs (λ w. part_rest P w x xs (h w)),
  )

  part_ordered_rest : (Q : E → E → Type 0) (b : Bool) (x : E) (xs : List E) → IsOrderedBy Q (cond b (x ∷ xs) xs) → (b ≡ true → AllByRecursion (Q x) xs) × IsOrderedBy Q xs
  part_ordered_rest Q true x xs h = (λ e. h.0, h.1)
  part_ordered_rest Q false x xs h = (λ e. cc, h)

  -- what is in order in every worker's part is in order between entries of one worker
  pub ordered_of_parts : (Q : E → E → Type 0) (xs : List E) → ((w : ℕ) → IsOrderedBy Q (part worker w xs)) → IsOrderedBy (λ d e. worker d ≡ worker e → Q d e) xs
  ordered_of_parts Q [] h = tt
  ordered_of_parts Q (x ∷ xs) h =
      let own : AllByRecursion (Q x) (part worker (worker x) xs) =
      (part_ordered_rest Q (worker x == worker x) x (part worker (worker x) xs) (h (worker x))).0 (eq-eqb (worker x) (worker x) refl) in (
        all-weaker (λ e. (worker e == worker x) ≡ true → Q x e) (λ e. worker x ≡ worker e → Q x e) (λ e f same. f (eq-eqb (worker e) (worker x) (sym same))) xs
            (all-unfilter (Q x) (λ e. worker e == worker x) xs own),
        ordered_of_parts Q xs (λ w. (part_ordered_rest Q (worker x == w) x (part worker w xs) (h w)).1),
      )

  pub part-append : (w : ℕ) (xs ys : List E) → part worker w (xs ++ ys) ≡ part worker w xs ++ part worker w ys
  part-append w xs ys = filter-append (λ e. worker e == w) xs ys
