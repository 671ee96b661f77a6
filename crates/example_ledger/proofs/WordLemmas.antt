-- Words with a blank between them.
use Rattle.std.proofs.Common.{◌≡◌, ◌≢◌, ◌<◌, ◌^◌, ℕ, zero, suc, List, [], ◌∷◌, length, get_or, decimal, Option, None, Some, MatchOption, Bor, IsAscii, IsUtf8, ap, subst, arith}
use Rattle.std.proofs.lemmas.{Fmt.{IsAscii-decimal}, Str.{IsUtf8-append, IsUtf8-from_ascii}}
use Rattle.std.proofs.lemmas.Str.Pattern.{IsSplitOnceResult, split_after}
use Rattle.example_ledger.specs.Log.{numbers, words, HasNoBlank}
use Rattle.example_ledger.specs.LogLaws.{AreDigits, decimal_are_digits}

digits_no_blank : (bytes : List ℕ) → AreDigits bytes → (i : ℕ) → i < length bytes → get_or bytes i 0 ≢ 32
digits_no_blank [] h i lt e = omega (arith, lt)
digits_no_blank (byte ∷ bytes) h zero lt e = omega (arith, h.0, e)
digits_no_blank (byte ∷ bytes) h (suc i) lt e = digits_no_blank bytes h.1 i (omega (arith, lt)) e

-- two numbers are split at the blank between them
pub split_numbers : (text : List ℕ) (r : Option (Bor (List ℕ) × Bor (List ℕ))) (account amount : ℕ) → IsSplitOnceResult 32 text r → account < 2 ^ 32 → text ≡ numbers account amount →
    MatchOption r ⊥ (λ x. (x.0.now ≡ decimal account) × (x.1.now ≡ decimal amount))
split_numbers text r account amount h few is =
    split_after 32 text (decimal account) (decimal amount) r h (omega arith) is (digits_no_blank (decimal account) (decimal_are_digits account (omega (arith, few))))

-- and a word from them
pub split_word : (text : List ℕ) (r : Option (Bor (List ℕ) × Bor (List ℕ))) (word : List ℕ) (account amount : ℕ) → IsSplitOnceResult 32 text r → HasNoBlank word → text ≡ words word account amount →
    MatchOption r ⊥ (λ x. (x.0.now ≡ word) × (x.1.now ≡ numbers account amount))
split_word text r word account amount h no_blank is = split_after 32 text word (numbers account amount) r h (omega arith) is no_blank

-- what is split off of two numbers
pub numbers_at : (text : List ℕ) (r : Option (Bor (List ℕ) × Bor (List ℕ))) (account amount : ℕ) → IsSplitOnceResult 32 text r → account < 2 ^ 32 → text ≡ numbers account amount →
    (x : Bor (List ℕ) × Bor (List ℕ)) → r ≡ Some x → (x.0.now ≡ decimal account) × (x.1.now ≡ decimal amount)
numbers_at text r account amount h few is x some =
    subst (λ o. MatchOption o ⊥ (λ y. (y.0.now ≡ decimal account) × (y.1.now ≡ decimal amount))) some (split_numbers text r account amount h few is)

pub numbers_there : (text : List ℕ) (r : Option (Bor (List ℕ) × Bor (List ℕ))) (account amount : ℕ) → IsSplitOnceResult 32 text r → account < 2 ^ 32 → text ≡ numbers account amount → r ≡ None → ⊥
numbers_there text r account amount h few is none =
    subst (λ o. MatchOption o ⊥ (λ y. (y.0.now ≡ decimal account) × (y.1.now ≡ decimal amount))) none (split_numbers text r account amount h few is)

-- and of a word and two numbers
pub word_at : (text : List ℕ) (r : Option (Bor (List ℕ) × Bor (List ℕ))) (word : List ℕ) (account amount : ℕ) → IsSplitOnceResult 32 text r → HasNoBlank word → text ≡ words word account amount →
    (x : Bor (List ℕ) × Bor (List ℕ)) → r ≡ Some x → (x.0.now ≡ word) × (x.1.now ≡ numbers account amount)
word_at text r word account amount h no_blank is x some =
    subst (λ o. MatchOption o ⊥ (λ y. (y.0.now ≡ word) × (y.1.now ≡ numbers account amount))) some (split_word text r word account amount h no_blank is)

pub word_there : (text : List ℕ) (r : Option (Bor (List ℕ) × Bor (List ℕ))) (word : List ℕ) (account amount : ℕ) → IsSplitOnceResult 32 text r → HasNoBlank word → text ≡ words word account amount → r ≡ None → ⊥
word_there text r word account amount h no_blank is none =
    subst (λ o. MatchOption o ⊥ (λ y. (y.0.now ≡ word) × (y.1.now ≡ numbers account amount))) none (split_word text r word account amount h no_blank is)

-- a line is a text
pub words_are_text : (word : List ℕ) (account amount : ℕ) → IsAscii word → account < 2 ^ 32 → amount < 2 ^ 32 → IsUtf8 (words word account amount)
words_are_text word account amount h few small =
    IsUtf8-append word (32 ∷ numbers account amount) (IsUtf8-from_ascii word h)
    (IsUtf8-append (32 ∷ []) (numbers account amount) (IsUtf8-from_ascii (32 ∷ []) blank)
    (IsUtf8-append (decimal account) (32 ∷ decimal amount) (IsUtf8-from_ascii (decimal account) (IsAscii-decimal account (omega (arith, few))))
    (IsUtf8-append (32 ∷ []) (decimal amount) (IsUtf8-from_ascii (32 ∷ []) blank) (IsUtf8-from_ascii (decimal amount) (IsAscii-decimal amount (omega (arith, small)))))))
  where
    blank : IsAscii (32 ∷ [])
    blank zero = omega arith
    blank (suc i) = omega arith

-- what is there is one
pub same_pair : (r : Option (ℕ × ℕ)) (p q : ℕ × ℕ) → r ≡ Some p → r ≡ Some q → (q.0 ≡ p.0) × (q.1 ≡ p.1)
same_pair r p q there found =
    let same : q ≡ p = cc (there, found) in
    (ap (λ x. x.0) same, ap (λ x. x.1) same)
