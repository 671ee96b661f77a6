-- A piece of a text, and what was read of it.
use Rattle.std.proofs.Common.{arith, ◌≡◌, ◌<◌, ◌≤◌, ◌+◌, ◌-◌, ◌++◌, ◌∙◌, ℕ, List, IfSome, drop, get_or, length, take, take-append-drop, sym, ap, subst}
use Rattle.std.proofs.lemmas.List.{drop-append-le, drop-drop, get_or-drop, get_or-take, length-drop, length-take-le, take-take}
use Rattle.record_reading.{proofs.DigitLemmas.{span}, specs.Lines.{EndsLine}}
use Rattle.auction_reading.proofs.SaidLemmas.{has_read_before}
use Rattle.auction_reading.specs.declared.{parcels.Parcel.{Parcel}, plain_text.Progress.{Progress}}
use Rattle.auction_reading.specs.inner.Parcels.{IsParcel, nothing_read}
use Rattle.auction_reading.specs.inner.Said.{HasRead, WasRead, read_by}

-- a piece of a text from a place on, and what is behind it
module _ (text : List ℕ) (from end : ℕ) (before : from ≤ end) (fits : end ≤ length text) where
  pub piece_and_rest : span text from end ++ drop end text ≡ drop from text
  piece_and_rest =
      let both : from + (end - from) ≡ end = omega (arith, before) in
      ap (λ (l : List ℕ). span text from end ++ l) (ap (λ (n : ℕ). drop n text) (sym both) ∙ sym (drop-drop (end - from) from text)) ∙ take-append-drop (end - from) (drop from text)

  pub piece_length : length (span text from end) ≡ end - from
  piece_length = length-take-le (end - from) (drop from text) (omega (arith, length-drop from text, fits))

  pub left_and_rest : (at : ℕ) → at ≤ length (span text from end) → drop at (span text from end) ++ drop end text ≡ drop (from + at) text
  left_and_rest at within = sym (drop-append-le at (span text from end) (drop end text) within) ∙ ap (drop at) piece_and_rest ∙ drop-drop at from text

  -- what is read of the piece is read of the text
  pub piece_read : (old new : WasRead) (at : ℕ) → at ≤ length (span text from end) → HasRead old (span text from end) new (drop at (span text from end))
      → HasRead old (drop from text) new (drop (from + at) text)
  piece_read old new at within read =
      let left = drop at (span text from end) in
      subst (λ (l : List ℕ). HasRead old (drop from text) new l) (left_and_rest at within)
      (subst (λ (l : List ℕ). HasRead old l new (left ++ drop end text)) piece_and_rest (has_read_before old new (span text from end) left (drop end text) read))

  -- a piece of whole lines
  pub ends_piece : from < end → EndsLine (take end text) → EndsLine (span text from end)
  ends_piece some ends =
      let long : length (take end text) ≡ end = length-take-le end text fits in
      let last : end - 1 < end = omega (arith, some) in
      let inside : end - from - 1 < end - from = omega (arith, some) in
      let place : from + (end - from - 1) ≡ end - 1 = omega (arith, some) in
      let here : get_or (span text from end) (end - from - 1) 0 ≡ get_or text (end - 1) 0 =
      get_or-take (end - from) (drop from text) (end - from - 1) 0 inside ∙ get_or-drop from text (end - from - 1) 0 ∙ ap (λ (n : ℕ). get_or text n 0) place in
      let there : get_or (take end text) (end - 1) 0 ≡ get_or text (end - 1) 0 = get_or-take end text (end - 1) 0 last in
      record {
        some = omega (arith, piece_length, some);
        feed = ap (λ (n : ℕ). get_or (span text from end) (n - 1) 0) piece_length ∙ here ∙ sym there ∙ ap (λ (n : ℕ). get_or (take end text) (n - 1) 0) (sym long) ∙ ends.feed;
      }

-- a parcel that was read from nothing on
pub parcel_of : (text : List ℕ) (fresh : Progress) (parcel : Parcel) → read_by fresh ≡ nothing_read (length fresh.input.scripts.items) → IfSome parcel.to (λ to. to ≤ length text)
    → IfSome parcel.to (λ to. HasRead (read_by fresh) (drop parcel.from text) (read_by parcel.progress) (drop to text)) → IsParcel text parcel
parcel_of text fresh parcel none within reads to is =
    let reading : HasRead (read_by fresh) (drop parcel.from text) (read_by parcel.progress) (drop to text) = rw is at reads in
    record {
      within = rw is at within;
      reads = subst (λ (n : ℕ). HasRead (nothing_read n) (drop parcel.from text) (read_by parcel.progress) (drop to text)) (sym reading.workers)
          (subst (λ (was : WasRead). HasRead was (drop parcel.from text) (read_by parcel.progress) (drop to text)) none reading);
    }

-- a line that ends in a part of a text ends in the text
pub ends_in : (text : List ℕ) (part at : ℕ) → part ≤ length text → at ≤ length (take part text) → EndsLine (take at (take part text)) → EndsLine (take at text)
ends_in text part at fits within ends = subst (λ (l : List ℕ). EndsLine l) (take-take at part text (omega (arith, within, length-take-le part text fits))) ends
