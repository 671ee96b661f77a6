-- The lines of texts.
use Rattle.std.proofs.Common.{◌≡◌, ℕ, zero, suc, ◌+◌, ◌<◌, ◌≤◌, ◌==◌, Bool, true, false, cond, List, [], ◌∷◌, ◌++◌, Option, Some, None, length, take, get_or, append_assoc, refl, subst, sym, ap, ◌∙◌, arith}
use Rattle.std.proofs.lemmas.Bool.{false_from_ne_true}
use Rattle.std.proofs.lemmas.List.{length-append, append-nil, append_cancel_right}
use Rattle.std.specs.Io.BufRead.{take_through, drop_through, DropsThrough}
use Rattle.std.specs.{Io.KnownBytes.{Consumes, IsAtEnd, Keeps}, Prelude.{decimal, codes, ⊤, IfSome}}
use Rattle.auction_rows.specs.declared.rows.Entry.{Entry}
use Rattle.auction_text.specs.Replies.{history_line, reply_text}
use Rattle.history_check.proofs.NumberLemmas.{numbers_apart}
use Rattle.history_check.specs.CommitIds.{line_at, Fits, commit_id_of}
use Rattle.history_check.specs.Texts.{with_byte, lines_of, history_lines}
use Rattle.history_check.specs.{declared.lines.CommitId.{CommitId}, inner.Reading.{ReadsLine}}

-- ---- the first line of a text

begun : (byte : ℕ) (text : List ℕ) → with_byte byte (lines_of text) ≡ (byte ∷ take_through 10 text) ∷ lines_of (drop_through 10 text)
    → lines_of (byte ∷ text) ≡ take_through 10 (byte ∷ text) ∷ lines_of (drop_through 10 (byte ∷ text))
begun byte text goes_on = at (byte == 10) refl where
  at : (b : Bool) → (byte == 10) ≡ b → lines_of (byte ∷ text) ≡ take_through 10 (byte ∷ text) ∷ lines_of (drop_through 10 (byte ∷ text))
  at true e =
      ap (λ b. cond b ((byte ∷ []) ∷ lines_of text) (with_byte byte (lines_of text))) e
      ∙ sym (ap (λ b. cond b (byte ∷ []) (byte ∷ take_through 10 text) ∷ lines_of (cond b text (drop_through 10 text))) e)
  at false e =
      ap (λ b. cond b ((byte ∷ []) ∷ lines_of text) (with_byte byte (lines_of text))) e ∙ goes_on
      ∙ sym (ap (λ b. cond b (byte ∷ []) (byte ∷ take_through 10 text) ∷ lines_of (cond b text (drop_through 10 text))) e)

goes_on : (byte : ℕ) (text : List ℕ) → with_byte byte (lines_of text) ≡ (byte ∷ take_through 10 text) ∷ lines_of (drop_through 10 text)
goes_on byte [] = refl
goes_on byte (next ∷ text) = ap (with_byte byte) (begun next text (goes_on next text))

pub first_line : (byte : ℕ) (text : List ℕ) → lines_of (byte ∷ text) ≡ take_through 10 (byte ∷ text) ∷ lines_of (drop_through 10 (byte ∷ text))
first_line byte text = begun byte text (goes_on byte text)

-- what a read up to a line feed gives is the next line
line_read : (old new : Option (List ℕ)) (line : List ℕ) → IfSome old (λ text. line ≡ take_through 10 text) → DropsThrough old new 10
    → 0 < length line → ReadsLine old new true line
line_read None new line takes drops some = tt
line_read (Some []) new line takes drops some = absurd (omega (arith, some, ap length takes))
line_read (Some (byte ∷ text)) new line takes drops some =
    (drop_through 10 (byte ∷ text), drops, first_line byte text ∙ ap (λ line. line ∷ lines_of (drop_through 10 (byte ∷ text))) (sym takes))

-- the same, of a read into a list that was empty
pub next_read : (old new : Option (List ℕ)) (cleared line : List ℕ) → cleared ≡ [] → IfSome old (λ text. line ≡ cleared ++ take_through 10 text) → DropsThrough old new 10
    → 0 < length line → ReadsLine old new true line
next_read old new cleared line empty takes drops some = line_read old new line (at old takes) drops some where
  at : (old : Option (List ℕ)) → IfSome old (λ text. line ≡ cleared ++ take_through 10 text) → IfSome old (λ text. line ≡ take_through 10 text)
  at None takes = tt
  at (Some text) takes = takes ∙ ap (λ xs. xs ++ take_through 10 text) empty

-- ---- a line in what a reader holds

-- what stands up to the first line feed is the first line
front_line : (shown rest : List ℕ) (place : ℕ) → place < length shown → (get_or shown place 0 == 10) ≡ true → ((k : ℕ) → k < place → (get_or shown k 0 == 10) ≡ true → ⊥)
    → lines_of (take (place + 1) shown ++ rest) ≡ take (place + 1) shown ∷ lines_of rest
front_line [] rest place within here before = absurd (omega (arith, within))
front_line (byte ∷ shown) rest zero within here before = ap (λ b. cond b ((byte ∷ []) ∷ lines_of rest) (with_byte byte (lines_of rest))) here
front_line (byte ∷ shown) rest (suc place) within here before =
    let more = front_line shown rest place (omega (arith, within)) here (λ k less. before (suc k) (omega (arith, less))) in
    let next : suc place + 1 ≡ suc (place + 1) = omega arith in
    let left = take (place + 1) shown ++ rest in
    subst (λ n. lines_of (take n (byte ∷ shown) ++ rest) ≡ take n (byte ∷ shown) ∷ lines_of rest) (sym next)
    (ap (λ b. cond b ((byte ∷ []) ∷ lines_of left) (with_byte byte (lines_of left))) (false_from_ne_true (byte == 10) (before 0 (omega arith))) ∙ ap (with_byte byte) more)

pub held_line : (old new : Option (List ℕ)) (shown : List ℕ) (place : ℕ) → place < length shown → (get_or shown place 0 == 10) ≡ true → ((k : ℕ) → k < place → (get_or shown k 0 == 10) ≡ true → ⊥)
    → Consumes old new (take (place + 1) shown) → ReadsLine old new true (take (place + 1) shown)
held_line None new shown place within here before gone = tt
held_line (Some text) None shown place within here before gone = absurd gone
held_line (Some text) (Some rest) shown place within here before gone = (rest, refl, ap lines_of gone ∙ front_line shown rest place within here before)

-- at the end there is no line
pub none_read : (old new : Option (List ℕ)) (line : List ℕ) → IsAtEnd old → ReadsLine old new false line
none_read None new line ended = tt
none_read (Some text) new line ended = ap lines_of ended

-- the next line of a text that was kept
pub kept_line : (old now new : Option (List ℕ)) (found : Bool) (line : List ℕ) → Keeps old now → ReadsLine now new found line → ReadsLine old new found line
kept_line None now new found line kept next = tt
kept_line (Some text) None new found line kept next = absurd kept
kept_line (Some text) (Some same) new found line kept next = subst (λ xs. ReadsLine (Some xs) new found line) kept next

-- ---- the lines that were read

-- the lines of a history were read of a text, if that is known
abbrev pub HasRead : Option (List ℕ) → Option (List ℕ) → List Entry → Type 0
HasRead None new history = ⊤
HasRead (Some text) new history = (rest : List ℕ) × (new ≡ Some rest)
    × (lines_of text ≡ history_lines history ++ lines_of rest)

pub one_read : (first old new : Option (List ℕ)) (history : List Entry) (e : Entry) (line : List ℕ) → HasRead first old history
    → ReadsLine old new true line → history_line e ≡ line → HasRead first new (history ++ e ∷ [])
one_read None old new history e line before next is = tt
one_read (Some text) old new history e line before next is = at old before.1 next where
  pushed : (history : List Entry) (rest : List (List ℕ)) → history_lines history ++ history_line e ∷ rest ≡ history_lines (history ++ e ∷ []) ++ rest
  pushed [] rest = refl
  pushed (d ∷ history) rest = ap (λ lines. history_line d ∷ lines) (pushed history rest)

  at : (old : Option (List ℕ)) → old ≡ Some before.0 → ReadsLine old new true line → HasRead (Some text) new (history ++ e ∷ [])
  at None is_old next = absurd (cc is_old)
  at (Some rest) is_old next =
      let same : rest ≡ before.0 = cc is_old in (
        next.0,
        next.1,
        before.2 ∙ ap (λ rest. history_lines history ++ lines_of rest) (sym same) ∙ ap (λ lines. history_lines history ++ lines) next.2
            ∙ ap (λ line. history_lines history ++ line ∷ lines_of next.0) (sym is) ∙ pushed history (lines_of next.0),
      )

-- what is left after the lines of a history
pub left_read : (text : List ℕ) (old new : Option (List ℕ)) (history : List Entry) (line : List ℕ) → HasRead (Some text) old history
    → ReadsLine old new true line → (rest : List (List ℕ)) × (lines_of text ≡ history_lines history ++ line ∷ rest)
left_read text old new history line before next = at old before.1 next where
  at : (old : Option (List ℕ)) → old ≡ Some before.0 → ReadsLine old new true line → (rest : List (List ℕ)) × (lines_of text ≡ history_lines history ++ line ∷ rest)
  at None is_old next = absurd (cc is_old)
  at (Some rest) is_old next =
      let same : rest ≡ before.0 = cc is_old in
      (lines_of next.0, before.2 ∙ ap (λ rest. history_lines history ++ lines_of rest) (sym same) ∙ ap (λ lines. history_lines history ++ lines) next.2)

pub all_read : (text : List ℕ) (old new : Option (List ℕ)) (history : List Entry) (line : List ℕ) → HasRead (Some text) old history
    → ReadsLine old new false line → history_lines history ≡ lines_of text
all_read text old new history line before next = at old before.1 next where
  at : (old : Option (List ℕ)) → old ≡ Some before.0 → ReadsLine old new false line → history_lines history ≡ lines_of text
  at None is_old next = absurd (cc is_old)
  at (Some rest) is_old next =
      let same : rest ≡ before.0 = cc is_old in
      sym (before.2 ∙ ap (λ rest. history_lines history ++ lines_of rest) (sym same) ∙ ap (λ lines. history_lines history ++ lines) next ∙ append-nil (history_lines history))

pub history_lines_length : (history : List Entry) → length (history_lines history) ≡ length history
history_lines_length [] = refl
history_lines_length (e ∷ history) = ap suc (history_lines_length history)

pub long_read : (text : List ℕ) (now : Option (List ℕ)) (history : List Entry) → HasRead (Some text) now history → length history ≤ length (lines_of text)
long_read text now history before =
    omega (arith, ap length before.2, length-append (history_lines history) (lines_of before.0), history_lines_length history)

-- ---- places of lines

-- a line is of one place and one text
pub line_apart : (p q : CommitId) (t u : List ℕ) → Fits p → Fits q → line_at p t ≡ line_at q u → (p ≡ q) × (t ≡ u)
line_apart p q t u f g same =
    let phase = numbers_apart p.phase q.phase
    (decimal p.number ++ 32 ∷ (decimal p.worker ++ 32 ∷ (decimal p.index ++ 32 ∷ (t ++ 10 ∷ []))))
    (decimal q.number ++ 32 ∷ (decimal q.worker ++ 32 ∷ (decimal q.index ++ 32 ∷ (u ++ 10 ∷ [])))) f.phase g.phase same in
    let number = numbers_apart p.number q.number
    (decimal p.worker ++ 32 ∷ (decimal p.index ++ 32 ∷ (t ++ 10 ∷ [])))
    (decimal q.worker ++ 32 ∷ (decimal q.index ++ 32 ∷ (u ++ 10 ∷ []))) f.number g.number phase.1 in
    let worker = numbers_apart p.worker q.worker
    (decimal p.index ++ 32 ∷ (t ++ 10 ∷ []))
    (decimal q.index ++ 32 ∷ (u ++ 10 ∷ [])) (omega (arith, f.worker)) (omega (arith, g.worker)) number.1 in
    let index = numbers_apart p.index q.index (t ++ 10 ∷ []) (u ++ 10 ∷ []) (omega (arith, f.index)) (omega (arith, g.index)) worker.1 in
    (λ k. record { phase = phase.0 k; number = number.0 k; worker = worker.0 k; index = index.0 k }, append_cancel_right t u (10 ∷ []) index.1)

-- the same text, from its first part on
in_turn : (a b c d r s : List ℕ) → (((a ++ 32 ∷ b) ++ 32 ∷ c) ++ 32 ∷ d) ++ (32 ∷ []) ++ r ++ s ≡ a ++ 32 ∷ (b ++ 32 ∷ (c ++ 32 ∷ (d ++ 32 ∷ (r ++ s))))
in_turn a b c d r s =
    append_assoc ((((a ++ 32 ∷ b) ++ 32 ∷ c) ++ 32 ∷ d) ++ (32 ∷ [])) r s
    ∙ append_assoc (((a ++ 32 ∷ b) ++ 32 ∷ c) ++ 32 ∷ d) (32 ∷ []) (r ++ s)
    ∙ append_assoc ((a ++ 32 ∷ b) ++ 32 ∷ c) (32 ∷ d) (32 ∷ (r ++ s))
    ∙ append_assoc (a ++ 32 ∷ b) (32 ∷ c) (32 ∷ (d ++ 32 ∷ (r ++ s)))
    ∙ append_assoc a (32 ∷ b) (32 ∷ (c ++ 32 ∷ (d ++ 32 ∷ (r ++ s))))

pub entry_line : (e : Entry) → history_line e ≡ line_at (commit_id_of e) (reply_text e.reply)
entry_line e = in_turn (decimal e.phase) (decimal e.number) (decimal e.worker) (decimal e.index) (reply_text e.reply) (codes "\n")
