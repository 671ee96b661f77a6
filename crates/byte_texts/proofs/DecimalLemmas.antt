-- The digits of a number where they lie, and the next one's.
use Rattle.std.proofs.Common.{arith, ◌≡◌, ◌∙◌, ◌<◌, ◌≤◌, ◌+◌, ◌-◌, ◌/◌, ◌%◌, ◌^◌, ℕ, List, [], ◌∷◌, ◌++◌, ap, ap₂, decimal, drop, get_or, inl, inr, length, length-append, refl, set, subst, sym, take}
use Rattle.std.proofs.Math.Seq.{get_or-append_seam, take-append-add, take-append_seam}
use Rattle.std.proofs.lemmas.{Bool.{cases_lt}, Fmt.{decimal_digit, decimal_nonempty, decimal_step}}
use Rattle.std.proofs.lemmas.List.{get_or-take, length-set, length-take-le, take-append-le, take-take, take_more_set}
use Rattle.byte_texts.specs.inner.Numerals.{HasDigits}

-- a number has a digit
pub some_digits : (bytes : List ℕ) (len n : ℕ) → HasDigits bytes len n → n < 2 ^ 64 → 1 ≤ len
some_digits bytes len n has fits = omega (arith, length-take-le len bytes has.within, ap length has.digits, decimal_nonempty n fits)

-- the digits before the last one: the next number's are the same, unless that is a nine
record EndsIn (n last : ℕ) : Type 0 where
  front : List ℕ
  here : decimal n ≡ front ++ last ∷ []
  next : last < 57 → decimal (n + 1) ≡ front ++ (last + 1) ∷ []

last_digit : (n : ℕ) → n + 1 < 2 ^ 64 → EndsIn n (48 + n % 10)
last_digit n fits = elim (cases_lt n 10) [
  | inl few ↦ record {
    front = [];
    here = decimal_digit n few ∙ ap (λ (d : ℕ). d ∷ []) (omega arith);
    next = λ less. decimal_digit (n + 1) (omega arith) ∙ ap (λ (d : ℕ). d ∷ []) (omega arith);
  }
  | inr many ↦ record {
    front = decimal (n / 10);
    here = decimal_step n many (omega arith);
    next = λ less.
        let tens : (n + 1) / 10 ≡ n / 10 = omega arith in
        decimal_step (n + 1) (omega arith) fits ∙ ap (λ (m : ℕ). decimal m ++ (48 + (n + 1) % 10) ∷ []) tens
        ∙ ap (λ (d : ℕ). decimal (n / 10) ++ d ∷ []) (omega arith);
  }
]

-- the last digit is read and written where it lies
module _ (bytes front : List ℕ) (len d : ℕ) (within : len ≤ length bytes) (is : take len bytes ≡ front ++ d ∷ []) where
  last_at : len ≡ length front + 1
  last_at = omega (arith, length-take-le len bytes within, ap length is, length-append front (d ∷ []))

  front_of : take (len - 1) bytes ≡ front
  front_of =
      let at : len - 1 ≡ length front = omega (arith, last_at) in
      sym (take-take (len - 1) len bytes (omega arith)) ∙ ap₂ (λ (l : List ℕ) (i : ℕ). take i l) is at ∙ take-append_seam front (d ∷ [])

  last_read : get_or bytes (len - 1) 0 ≡ d
  last_read =
      let less : len - 1 < len = omega (arith, last_at) in
      let at : len - 1 ≡ length front = omega (arith, last_at) in
      sym (get_or-take len bytes (len - 1) 0 less) ∙ ap₂ (λ (l : List ℕ) (i : ℕ). get_or l i 0) is at ∙ get_or-append_seam front d [] 0

  last_written : (v : ℕ) → take len (set bytes (len - 1) v) ≡ front ++ v ∷ []
  last_written v =
      let more : len - 1 + 1 ≡ len = omega (arith, last_at) in
      ap (λ (i : ℕ). take i (set bytes (len - 1) v)) (sym more) ∙ take_more_set bytes (len - 1) v (omega (arith, last_at)) ∙ ap (λ (l : List ℕ). l ++ v ∷ []) front_of

-- a number with two digits or more
two_digits : (bytes : List ℕ) (len n : ℕ) → HasDigits bytes len n → n < 2 ^ 64 → 2 ≤ len → 10 ≤ n
two_digits bytes len n has fits some = elim (cases_lt n 10) [
  | inl few ↦ absurd (omega (arith, some, length-take-le len bytes has.within, ap length has.digits, ap length (decimal_digit n few)))
  | inr many ↦ many
]

-- digits are counted up by the last one
pub counted_up : (bytes : List ℕ) (len n next : ℕ) → HasDigits bytes len n → next ≡ n + 1 → next < 2 ^ 64 → get_or bytes (len - 1) 0 < 57
    → HasDigits (set bytes (len - 1) (get_or bytes (len - 1) 0 + 1)) len next
counted_up bytes len n next has is fits less =
    let e = last_digit n (omega (arith, is, fits)) in let here = has.digits ∙ e.here in
    let read = last_read bytes e.front len (48 + n % 10) has.within here in
    let more : decimal next ≡ e.front ++ (48 + n % 10 + 1) ∷ [] = ap decimal is ∙ e.next (omega (arith, read, less)) in
    record {
      digits = last_written bytes e.front len (48 + n % 10) has.within here (get_or bytes (len - 1) 0 + 1) ∙ ap (λ (v : ℕ). e.front ++ (v + 1) ∷ []) read ∙ sym more;
      within = omega (arith, has.within, length-set bytes (len - 1) (get_or bytes (len - 1) 0 + 1));
    }

-- digits are counted up by the last two, if only the last one is a nine
pub carried : (bytes : List ℕ) (len n next : ℕ) → HasDigits bytes len n → next ≡ n + 1 → next < 2 ^ 64 → 2 ≤ len → get_or bytes (len - 1) 0 ≡ 57 → get_or bytes (len - 2) 0 < 57
    → HasDigits (set (set bytes (len - 2) (get_or bytes (len - 2) 0 + 1)) (len - 1) 48) len next
carried bytes len n next has is fits some nine less =
    let many : 10 ≤ n = two_digits bytes len n has (omega (arith, is, fits)) some in
    let here = has.digits ∙ decimal_step n many (omega (arith, is, fits)) in
    let read : 57 ≡ 48 + n % 10 = sym nine ∙ last_read bytes (decimal (n / 10)) len (48 + n % 10) has.within here in
    let shorter : take (len - 1) bytes ≡ decimal (n / 10) = front_of bytes (decimal (n / 10)) len (48 + n % 10) has.within here in
    let at : len - 1 - 1 ≡ len - 2 = omega arith in
    let tens : HasDigits (set bytes (len - 2) (get_or bytes (len - 2) 0 + 1)) (len - 1) (n / 10 + 1) =
    subst (λ (k : ℕ). HasDigits (set bytes k (get_or bytes k 0 + 1)) (len - 1) (n / 10 + 1)) at
    (counted_up bytes (len - 1) (n / 10) (n / 10 + 1) (record { digits = shorter; within = omega (arith, has.within) }) refl (omega (arith, is, fits))
    (subst (λ (k : ℕ). get_or bytes k 0 < 57) (sym at) less)) in
    let more : len - 1 + 1 ≡ len = omega (arith, some) in
    let long : length (set bytes (len - 2) (get_or bytes (len - 2) 0 + 1)) ≡ length bytes = length-set bytes (len - 2) (get_or bytes (len - 2) 0 + 1) in
    let up : next / 10 ≡ n / 10 + 1 = omega (arith, is, read) in
    let zero : 48 + next % 10 ≡ 48 = omega (arith, is, read) in record {
      digits = ap (λ (i : ℕ). take i (set (set bytes (len - 2) (get_or bytes (len - 2) 0 + 1)) (len - 1) 48)) (sym more)
          ∙ take_more_set (set bytes (len - 2) (get_or bytes (len - 2) 0 + 1)) (len - 1) 48 (omega (arith, has.within, long))
          ∙ ap₂ (λ (l : List ℕ) (d : ℕ). l ++ d ∷ []) (tens.digits ∙ ap decimal (sym up)) (sym zero)
          ∙ sym (decimal_step next (omega (arith, is, many)) fits);
      within = omega (arith, has.within, long, length-set (set bytes (len - 2) (get_or bytes (len - 2) 0 + 1)) (len - 1) 48);
    }

-- digits that are put down at a place, with what lies behind them
pub digits_put : (bytes own part rest : List ℕ) (len n at : ℕ) → HasDigits own len n → part ≡ own → at ≤ length bytes
    → take (at + len) (take at bytes ++ (part ++ rest)) ≡ take at bytes ++ decimal n
digits_put bytes own part rest len n at has same within =
    ap (λ (i : ℕ). take (i + len) (take at bytes ++ (part ++ rest))) (sym (length-take-le at bytes within)) ∙ take-append-add (take at bytes) (part ++ rest) len
    ∙ ap (λ (l : List ℕ). take at bytes ++ l) (take-append-le len part rest (omega (arith, has.within, ap length same)) ∙ ap (take len) same ∙ has.digits)

-- digits that were written so that they end at the twentieth byte, put down at a place with the bytes behind them
pub digits_from : (bytes written part rest behind : List ℕ) (start n at k : ℕ) → start + length (decimal n) ≡ 20 → drop start written ≡ decimal n ++ behind
    → part ≡ take k (drop start written) → k ≡ 20 → length part ≡ 20 → at ≤ length bytes → take (at + 20 - start) (take at bytes ++ (part ++ rest)) ≡ take at bytes ++ decimal n
digits_from bytes written part rest behind start n at k ends there is twenty long within =
    let len = length (decimal n) in let to : at + 20 - start ≡ at + len = omega (arith, ends) in
    let digits : take len part ≡ decimal n =
    ap (take len) is ∙ take-take len k (drop start written) (omega (arith, ends, twenty)) ∙ ap (take len) there ∙ take-append_seam (decimal n) behind in
    ap (λ (i : ℕ). take i (take at bytes ++ (part ++ rest))) to
    ∙ digits_put bytes part part rest len n at (record { digits = digits; within = omega (arith, ends, long) }) refl within
