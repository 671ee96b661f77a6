-- Rows as entries are gone through.
use Rattle.std.proofs.Common.{◌≡◌, ℕ, ◌+◌, ◌<◌, ◌∙◌, ◌++◌, ◌∷◌, [], List, Option, Some, None, length, take, get_or, refl, ap, sym, append_assoc}
use Rattle.std.proofs.lemmas.List.{Elements.{filter_map-append}, take_more}
use Rattle.std.specs.{List.{cons_option}, Prelude.{option_to_list}}
use Rattle.auction_rows.proofs.HistoryLemmas.{filter_map-one}
use Rattle.auction_rows.specs.History.{row_of_entry, rows_of}
use Rattle.auction_rows.specs.declared.rows.{Row.Row, Entry.Entry}

-- the row of an entry, if it adds one, stands before those of the entries after it
pub gone_by : (rows added : List Row) (e : Entry) (rest left all : List Entry) (row : Option Row) → left ≡ e ∷ rest → row ≡ row_of_entry e →
    added ≡ rows ++ option_to_list row → rows ++ rows_of left ≡ rows_of all → added ++ rows_of rest ≡ rows_of all
gone_by rows added e rest left all row first is put so_far =
    ap (λ rs. rs ++ rows_of rest) put ∙ append_assoc rows (option_to_list row) (rows_of rest)
    ∙ ap (λ rs. rows ++ rs) (at row ∙ ap (λ o. cons_option o (rows_of rest)) is)
    ∙ ap (λ es. rows ++ rows_of es) (sym first) ∙ so_far where
      at : (o : Option Row) → option_to_list o ++ rows_of rest ≡ cons_option o (rows_of rest)
      at None = refl
      at (Some r) = refl

-- the rows of one entry more
pub one_more : (es : List Entry) (i : ℕ) (e : Entry) (rows added : List Row) (row : Option Row) → i < length es → e ≡ get_or es i e → row ≡ row_of_entry e →
    added ≡ rows ++ option_to_list row → rows ≡ rows_of (take i es) → added ≡ rows_of (take (i + 1) es)
one_more es i e rows added row low here is put so_far =
    put ∙ ap (λ rs. rs ++ option_to_list row) so_far ∙ ap (λ o. rows_of (take i es) ++ option_to_list o) is
    ∙ sym (ap rows_of (take_more es i e low ∙ ap (λ x. take i es ++ x ∷ []) (sym here))
    ∙ filter_map-append row_of_entry (take i es) (e ∷ []) ∙ ap (λ rs. rows_of (take i es) ++ rs) (filter_map-one row_of_entry e))
