-- A word names a row where it begins with a plus, and else a request.
use Rattle.std.proofs.Common.{◌≡◌, ◌==◌, ◌≤◌, ◌-◌, ◌∙◌, ℕ, List, [], ◌∷◌, Option, Some, None, cond, drop, get_or, length, take, ap, arith, refl, sym}
use Rattle.std.proofs.lemmas.{Bool.{eqb-true, false_from_ne_true}, List.{take_rest}}
use Rattle.std.specs.Option.{option_map, option_or}
use Rattle.record_reading.specs.Kinds.{kind_of, request, row, store_of, view_of}
use Rattle.record_reading.specs.declared.fields.RequestKind.{RequestKind}

request_named : (word : List ℕ) → (1 ≤ length word → get_or word 0 0 ≡ 43 → ⊥) → kind_of word ≡ option_map request (option_or (store_of word) (view_of word))
request_named [] plain = refl
request_named (first ∷ rest) plain =
    let word = first ∷ rest in
    ap (λ plus. cond plus (option_map row (store_of rest)) (option_map request (option_or (store_of word) (view_of word))))
    (false_from_ne_true (first == 43) (λ plus. plain (omega arith) (eqb-true first 43 plus)))

-- after a plus
pub row_is : (word : List ℕ) (found : Option RequestKind) → 1 ≤ length word → get_or word 0 0 ≡ 43 → found ≡ store_of (take (length word - 1) (drop 1 word)) → option_map row found ≡ kind_of word
row_is [] found some plus is = absurd (omega (arith, some))
row_is (first ∷ rest) found some plus is =
    let word = first ∷ rest in
    ap (option_map row) (is ∙ ap store_of (take_rest word 1)) ∙ sym (ap (λ x. kind_of (x ∷ rest)) plus)

module _ (word : List ℕ) (plain : 1 ≤ length word → get_or word 0 0 ≡ 43 → ⊥) where
  pub store_is : (found : RequestKind) → Some found ≡ store_of word → Some (request found) ≡ kind_of word
  store_is found is = ap (λ o. option_map request (option_or o (view_of word))) is ∙ sym (request_named word plain)

  pub view_is : (found : Option RequestKind) → None ≡ store_of word → found ≡ view_of word → option_map request found ≡ kind_of word
  view_is found none is = ap (option_map request) is ∙ ap (λ o. option_map request (option_or o (view_of word))) none ∙ sym (request_named word plain)
