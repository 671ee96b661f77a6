use Rattle.std.proofs.Common.{◌≡◌, ◌∙◌, ◌++◌, ◌∷◌, option_to_list, List, ℕ, Option, Some, None, ap, refl, sym, append_assoc}
use Rattle.std.proofs.lemmas.{Grind.{flat_map-append}, List.{append-nil}}
use Rattle.auction_rows.specs.History.{row_of_entry, rows_of}
use Rattle.auction_rows.specs.declared.rows.{Row.Row, Entry.Entry}
use Rattle.auction_text.specs.{Replies.{lines}, RowLines.{row_line}}
use Rattle.auction_text.proofs.writing.rows.push_rows_of.Goals as goal

-- the rows of an entry, and of those after it
one_row : (e : Entry) (rest : List Entry) → rows_of (e ∷ rest) ≡ option_to_list (row_of_entry e) ++ rows_of rest
one_row e rest = go (row_of_entry e) refl where
  go : (o : Option Row) → row_of_entry e ≡ o → rows_of (e ∷ rest) ≡ option_to_list o ++ rows_of rest
  go None is = rw is refl
  go (Some row) is = rw is refl

line_more : (text : List ℕ) (e : Entry) (rest left : List Entry) → left ≡ e ∷ rest →
    (text ++ lines row_line (option_to_list (row_of_entry e))) ++ lines row_line (rows_of rest) ≡ text ++ lines row_line (rows_of left)
line_more text e rest left is =
    append_assoc text (lines row_line (option_to_list (row_of_entry e))) (lines row_line (rows_of rest))
    ∙ ap (λ (l : List ℕ). text ++ l) (sym (flat_map-append row_line (option_to_list (row_of_entry e)) (rows_of rest))
    ∙ ap (λ (rs : List Row). lines row_line rs) (sym (one_row e rest)) ∙ ap (λ (es : List Entry). lines row_line (rows_of es)) (sym is))

pub loop-entry-preserved : goal.loop-entry-preserved
loop-entry-preserved c =
    ap (λ (text : List ℕ). text ++ lines row_line (rows_of c.next.new.self)) c.in_ok-push_row_of.ensures
    ∙ line_more c.loop-entry.text.items c.in-Some.entry c.next.new.self c.loop-entry.entry-iterator c.in-Some.ensures.steps
    ∙ c.loop-entry.invariant

pub returns : goal.returns
returns c =
    sym (append-nil c.loop-entry.text.items)
    ∙ ap (λ (es : List Entry). c.loop-entry.text.items ++ lines row_line (rows_of es)) (sym c.in-None.ensures.steps.0)
    ∙ c.loop-entry.invariant
