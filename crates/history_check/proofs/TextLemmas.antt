-- Texts of histories, and their lines.
use Rattle.std.proofs.Common.{◌≡◌, ℕ, ◌==◌, Bool, true, false, not, cond, List, [], ◌∷◌, ◌++◌, append_assoc, refl, sym, ap, ◌∙◌}
use Rattle.std.{proofs.lemmas.Bool.{false≢true, and_parts}, specs.List.{AllByRecursion, list_all}}
use Rattle.std.specs.Prelude.{decimal}
use Rattle.auction_rows.specs.declared.rows.Entry.{Entry}
use Rattle.auction_text.specs.Replies.{history_line, history_text, reply_text}
use Rattle.history_check.proofs.LineLemmas.{entry_line}
use Rattle.history_check.proofs.OneLineLemmas.{no_feed, IsOneLine, both, number_one, reply_one}
use Rattle.history_check.specs.CommitIds.{with_commit_id, commit_id_of}
use Rattle.history_check.specs.Texts.{with_byte, lines_of, history_lines, ShowsName}
use Rattle.history_check.specs.declared.lines.CommitId.{CommitId}

-- ---- lines make up their text

abbrev joined : List (List ℕ) → List ℕ
joined [] = []
joined (line ∷ lines) = line ++ joined lines

joined_byte : (byte : ℕ) (lines : List (List ℕ)) → joined (with_byte byte lines) ≡ byte ∷ joined lines
joined_byte byte [] = refl
joined_byte byte (line ∷ lines) = refl

joined_lines : (text : List ℕ) → joined (lines_of text) ≡ text
joined_lines [] = refl
joined_lines (byte ∷ text) = at (byte == 10) refl (joined_lines text) where
  at : (b : Bool) → (byte == 10) ≡ b → joined (lines_of text) ≡ text → joined (lines_of (byte ∷ text)) ≡ byte ∷ text
  at true e rest = ap (λ b. joined (cond b ((byte ∷ []) ∷ lines_of text) (with_byte byte (lines_of text)))) e ∙ ap (λ t. byte ∷ t) rest
  at false e rest =
      ap (λ b. joined (cond b ((byte ∷ []) ∷ lines_of text) (with_byte byte (lines_of text)))) e
      ∙ joined_byte byte (lines_of text) ∙ ap (λ t. byte ∷ t) rest

joined_history : (history : List Entry) → history_text history ≡ joined (history_lines history)
joined_history [] = refl
joined_history (e ∷ es) = ap (λ t. history_line e ++ t) (joined_history es)

pub text_is : (history : List Entry) (text : List ℕ) → history_lines history ≡ lines_of text → history_text history ≡ text
text_is history text same = joined_history history ∙ ap joined same ∙ joined_lines text

-- ---- lines of a text are those of the history

one_number : (n : ℕ) (rest : List ℕ) → IsOneLine rest → IsOneLine (decimal n ++ 32 ∷ rest)
one_number n rest one = both (decimal n) (32 ∷ rest) (number_one n) one

placed_one_line : (commit_id : CommitId) (text : List ℕ) → IsOneLine text → IsOneLine (with_commit_id commit_id text)
placed_one_line commit_id text one =
    let index = one_number commit_id.index text one in
    let worker = one_number commit_id.worker (decimal commit_id.index ++ 32 ∷ text) index in
    let number = one_number commit_id.number (decimal commit_id.worker ++ 32 ∷ (decimal commit_id.index ++ 32 ∷ text)) worker in
    one_number commit_id.phase (decimal commit_id.number ++ 32 ∷ (decimal commit_id.worker ++ 32 ∷ (decimal commit_id.index ++ 32 ∷ text))) number

number_before : (n : ℕ) (rest more : List ℕ) → decimal n ++ 32 ∷ (rest ++ more) ≡ (decimal n ++ 32 ∷ rest) ++ more
number_before n rest more = sym (append_assoc (decimal n) (32 ∷ rest) more)

placed_more : (commit_id : CommitId) (text more : List ℕ) → with_commit_id commit_id (text ++ more) ≡ with_commit_id commit_id text ++ more
placed_more commit_id text more =
    ap (λ t. decimal commit_id.phase ++ 32 ∷ (decimal commit_id.number ++ 32 ∷ (decimal commit_id.worker ++ 32 ∷ t))) (number_before commit_id.index text more)
    ∙ ap (λ t. decimal commit_id.phase ++ 32 ∷ (decimal commit_id.number ++ 32 ∷ t)) (number_before commit_id.worker (decimal commit_id.index ++ 32 ∷ text) more)
    ∙ ap (λ t. decimal commit_id.phase ++ 32 ∷ t) (number_before commit_id.number (decimal commit_id.worker ++ 32 ∷ (decimal commit_id.index ++ 32 ∷ text)) more)
    ∙ number_before commit_id.phase (decimal commit_id.number ++ 32 ∷ (decimal commit_id.worker ++ 32 ∷ (decimal commit_id.index ++ 32 ∷ text))) more

feed_false : (byte : ℕ) → no_feed byte ≡ true → (byte == 10) ≡ false
feed_false byte none = at (byte == 10) refl where
  at : (b : Bool) → (byte == 10) ≡ b → (byte == 10) ≡ false
  at true e = absurd (false≢true (sym (ap not e) ∙ none))
  at false e = e

cut_line : (line rest : List ℕ) → list_all no_feed line ≡ true → lines_of (line ++ 10 ∷ rest) ≡ (line ++ 10 ∷ []) ∷ lines_of rest
cut_line [] rest one = refl
cut_line (byte ∷ line) rest one =
    let parts = and_parts (no_feed byte) (list_all no_feed line) one in
    ap (λ b. cond b ((byte ∷ []) ∷ lines_of (line ++ 10 ∷ rest)) (with_byte byte (lines_of (line ++ 10 ∷ rest)))) (feed_false byte parts.0)
    ∙ ap (with_byte byte) (cut_line line rest parts.1)

line_then : (e : Entry) (rest : List ℕ) → ShowsName e.reply → lines_of (history_line e ++ rest) ≡ history_line e ∷ lines_of rest
line_then e rest named =
    let commit_id = commit_id_of e in let front = with_commit_id commit_id (reply_text e.reply) in
    let whole : history_line e ≡ front ++ 10 ∷ [] = entry_line e ∙ placed_more commit_id (reply_text e.reply) (10 ∷ []) in
    ap (λ line. lines_of (line ++ rest)) whole ∙ ap lines_of (append_assoc front (10 ∷ []) rest)
    ∙ cut_line front rest (placed_one_line commit_id (reply_text e.reply) (reply_one e.reply named)) ∙ ap (λ line. line ∷ lines_of rest) (sym whole)

pub lines_are : (history : List Entry) → AllByRecursion (λ e. ShowsName e.reply) history → lines_of (history_text history) ≡ history_lines history
lines_are [] all = refl
lines_are (e ∷ es) all = line_then e (history_text es) all.0 ∙ ap (λ lines. history_line e ∷ lines) (lines_are es all.1)
