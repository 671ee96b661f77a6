-- What is read of a line.
use Rattle.std.proofs.Common.{◌≡◌, ◌⊎◌, inl, inr, ◌<◌, ◌^◌, ℕ, suc, slice_index, List, Option, None, Some, IsSomeAnd, IsUtf8, codes, refl, sym, ◌∙◌, subst, arith}
use Rattle.example_ledger.proofs.WordLemmas.{words_are_text}
use Rattle.example_ledger.specs.Log.{words, line_of, HasNoBlank, IsInRange}
use Rattle.example_ledger.specs.declared.ledger.LedgerRequest.{LedgerRequest}
use Rattle.example_ledger.specs.declared.ledger.LedgerRequest.TheVariants.{Add, Take, Held}

-- a line is a word and two numbers
pub record HasWords (q : LedgerRequest) (text : List ℕ) : Type 0 where
  pub word : List ℕ
  pub account : ℕ
  pub amount : ℕ
  pub is : text ≡ words word account amount
  pub few : account < 2 ^ 32
  pub small : amount < 2 ^ 32
  pub no_blank : HasNoBlank word
  pub is_text : IsUtf8 text
  pub kind : ((word ≡ codes "add") × (q ≡ Add account amount)) ⊎ ((word ≡ codes "take") × (q ≡ Take account amount))

add_no_blank : HasNoBlank (codes "add")
add_no_blank (suc (suc (suc i))) lt e = omega (arith, lt)
add_no_blank i lt e = omega (arith, e)

take_no_blank : HasNoBlank (codes "take")
take_no_blank (suc (suc (suc (suc i)))) lt e = omega (arith, lt)
take_no_blank i lt e = omega (arith, e)

add_ascii : (i : ℕ) → slice_index (codes "add") i < 128
add_ascii (suc (suc (suc i))) = omega arith
add_ascii i = omega arith

take_ascii : (i : ℕ) → slice_index (codes "take") i < 128
take_ascii (suc (suc (suc (suc i)))) = omega arith
take_ascii i = omega arith

pub line_words : (q : LedgerRequest) (text : List ℕ) → IsInRange q → line_of q ≡ Some text → HasWords q text
line_words (Add to amount) text fits e =
    let same : words (codes "add") to amount ≡ text = cc in record {
      word = codes "add";
      account = to;
      amount = amount;
      is = sym same;
      few = fits.0;
      small = fits.1;
      no_blank = add_no_blank;
      is_text = subst IsUtf8 same (words_are_text (codes "add") to amount add_ascii fits.0 fits.1);
      kind = inl (refl, refl);
    }
line_words (Take from amount) text fits e =
    let same : words (codes "take") from amount ≡ text = cc in record {
      word = codes "take";
      account = from;
      amount = amount;
      is = sym same;
      few = fits.0;
      small = fits.1;
      no_blank = take_no_blank;
      is_text = subst IsUtf8 same (words_are_text (codes "take") from amount take_ascii fits.0 fits.1);
      kind = inr (refl, refl);
    }
line_words (Held of) text fits e = absurd (cc e)

-- what is there, with what holds of it
pub some_there : {X : Type 0} (r : Option X) (P : X → Type 0) → IsSomeAnd r P → r ≡ None → ⊥
some_there r P h none = subst (λ o. IsSomeAnd o P) none h

pub some_at : {X : Type 0} (r : Option X) (P : X → Type 0) → IsSomeAnd r P → (x : X) → r ≡ Some x → P x
some_at r P h x some = subst (λ o. IsSomeAnd o P) some h

-- a request is that of its word and numbers
pub kind_at : (q : LedgerRequest) (text word : List ℕ) (account amount : ℕ) (result : Option LedgerRequest) (h : HasWords q text) → word ≡ h.word → account ≡ h.account → amount ≡ h.amount →
    (word ≡ codes "add" → result ≡ Some (Add account amount)) → (word ≡ codes "take" → result ≡ Some (Take account amount)) → result ≡ Some q
kind_at q text word account amount result h w x y add take = kind_of q h.word word h.account account h.amount amount result h.kind w x y add take where
  kind_of : (q : LedgerRequest) (known word : List ℕ) (to account small amount : ℕ) (result : Option LedgerRequest) → ((known ≡ codes "add") × (q ≡ Add to small)) ⊎ ((known ≡ codes "take") × (q ≡ Take to small)) →
      word ≡ known → account ≡ to → amount ≡ small → (word ≡ codes "add" → result ≡ Some (Add account amount)) → (word ≡ codes "take" → result ≡ Some (Take account amount)) → result ≡ Some q
  kind_of q known word to account small amount result (inl h) w x y add take =
      let same : q ≡ Add to small = h.1 in
      let got : result ≡ Some (Add account amount) = add (w ∙ h.0) in
      cc (same, got, x, y)
  kind_of q known word to account small amount result (inr h) w x y add take =
      let same : q ≡ Take to small = h.1 in
      let got : result ≡ Some (Take account amount) = take (w ∙ h.0) in
      cc (same, got, x, y)
