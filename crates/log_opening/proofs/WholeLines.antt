-- Up to the place after its last line end a text is whole lines.
use Rattle.std.proofs.Common.{arith, ◌≡◌, ◌==◌, ◌⊎◌, ◌≤◌, ◌<◌, ◌+◌, ◌-◌, ◌∙◌, ℕ, zero, suc, List, true, not, inl, inr, drop, get_or, length, slice_index, take, refl, sym, ap}
use Rattle.std.proofs.lemmas.Bool.{false≢true}
use Rattle.std.proofs.lemmas.List.{get_or-drop, get_or-take, length-drop, length-take-le}
use Rattle.std.proofs.lemmas.List.Folds.{list_all_at}
use Rattle.auction_text.specs.Lines.{EndsLine, has_no_feed}
use Rattle.log_opening.specs.Lines.{AreWholeLines}

module _ (text : List ℕ) (whole : ℕ) (within : whole ≤ length text) where
  last_end : (n : ℕ) → n ≤ length text → (0 < n → EndsLine (take n text)) → (n ≡ 0) ⊎ ((last : ℕ) × ((n ≡ last + 1) × (slice_index text last ≡ 10)))
  last_end zero fits ends = inl refl
  last_end (suc n) fits ends =
      let long : length (take (suc n) text) ≡ suc n = length-take-le (suc n) text fits in
      let place : length (take (suc n) text) - 1 ≡ n = omega (arith, long) in
      let line = ends (omega arith) in
      let same : get_or (take (suc n) text) n 0 ≡ get_or text n 0 = get_or-take (suc n) text n 0 (omega arith) in
      inr (n, (omega arith, sym same ∙ ap (λ (at : ℕ). get_or (take (suc n) text) at 0) (sym place) ∙ line.feed))

  -- up to its last line end a text is whole lines
  pub whole_lines_are : (0 < whole → EndsLine (take whole text)) → has_no_feed (drop whole text) ≡ true → AreWholeLines text whole
  whole_lines_are ends none = record {
    within = within;
    ended = last_end whole within ends;
    rest = λ i from low ten.
        let k = i - whole in let place : whole + k ≡ i = omega (arith, from) in
        let here : get_or (drop whole text) k 0 ≡ 10 = get_or-drop whole text k 0 ∙ ap (λ (at : ℕ). get_or text at 0) place ∙ ten in
        false≢true (sym (list_all_at (λ (byte : ℕ). not (byte == 10)) (drop whole text) k 0 (omega (arith, from, low, length-drop whole text)) (ap (λ (byte : ℕ). not (byte == 10)) here)) ∙ none);
  }
