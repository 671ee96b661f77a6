-- Two books whose texts are the same are the same.
use Rattle.std.proofs.Common.{arith, ◌≡◌, ◌≤◌, ◌<◌, ◌^◌, ◌∷◌, ◌∙◌, [], ℕ, List, Ok, Result, false, map, refl, sym, ap, ap₂}
use Rattle.std.{proofs.lemmas.List.Elements.{All-from_recursion}, specs.List.{AllByRecursion}}
use Rattle.csv.specs.Reading.{default_config, records}
use Rattle.auction_rows.specs.{Book.{Book, worker_of}, History.{IsBook}}
use Rattle.auction_rows.specs.declared.values.Opening.{Opening}
use Rattle.item_shards.proofs.OpeningBookLemmas.{opened_again}
use Rattle.item_shards.specs.OpeningRows.{AreRows, opened_of, opening_rows}
use Rattle.auction_text.specs.{Record.{Record}, Records.{read_record}, Replies.{lines}}
use Rattle.auction_text.specs.{RowLines.{row_line}, Scripts.{rows}}
use Rattle.log_opening.proofs.{BookReadLemmas.{rows_said, written_read}, RowLineLemmas.{said_of}}
use Rattle.log_opening.specs.ReadBack.{IsWritten}
use Rattle.record_reading.proofs.LineLemmas.{none_in_none}

pub same_ok : {A E : Type 0} (x y : A) (r : Result A E) → r ≡ Ok x → r ≡ Ok y → x ≡ y
same_ok x y r one other = cc (sym one ∙ other)

none_is_some : (field : List (List ℕ)) (more all : List (List (List ℕ))) → all ≡ [] → all ≡ field ∷ more → ⊥
none_is_some field more all none some = cc (sym none ∙ some)

module _ (workers : ℕ) (few : workers ≤ 2 ^ 32) where
  -- lines that are the same records say the same rows
  same_said : (xs ys : Book) → AllByRecursion (IsWritten workers) xs → AllByRecursion (IsWritten workers) ys
      → records default_config (lines row_line xs) ≡ records default_config (lines row_line ys) → map said_of xs ≡ map said_of ys
  same_said [] [] x y same = refl
  same_said [] (b ∷ ys) x y same =
      let two = written_read workers b few y.0 in
      absurd (none_is_some two.fields (records default_config (lines row_line ys)) _ none_in_none (same ∙ two.reads (lines row_line ys)))
  same_said (a ∷ xs) [] x y same =
      let one = written_read workers a few x.0 in
      absurd (none_is_some one.fields (records default_config (lines row_line xs)) _ none_in_none (sym same ∙ one.reads (lines row_line xs)))
  same_said (a ∷ xs) (b ∷ ys) x y same =
      let one = written_read workers a few x.0 in let two = written_read workers b few y.0 in
      let both : one.fields ∷ records default_config (lines row_line xs) ≡ two.fields ∷ records default_config (lines row_line ys) =
      sym (one.reads (lines row_line xs)) ∙ same ∙ two.reads (lines row_line ys) in
      let fields : one.fields ≡ two.fields = cc both in
      let others : records default_config (lines row_line xs) ≡ records default_config (lines row_line ys) = cc both in
      let said : said_of a ≡ said_of b =
      same_ok (said_of a) (said_of b) (read_record workers 1 false one.fields) (one.says workers 1 x.0.0) (ap (read_record workers 1 false) fields ∙ two.says workers 1 y.0.0) in
      ap₂ (λ (first : Record) (more : List Record). first ∷ more) said (same_said xs ys x.1 y.1 others)

low_workers : (workers : ℕ) (book : Book) → workers ≤ 16 → AllByRecursion (IsWritten workers) book → AllByRecursion (λ row. worker_of row < 16) book
low_workers workers [] few all = tt
low_workers workers (row ∷ book) few all = (omega (arith, few, all.0.0), low_workers workers book few all.1)

-- a book's rows, handed in again, leave it
pub again : (opening : Opening) (workers : ℕ) (book : Book) → workers ≤ 16 → IsBook opening book → AllByRecursion (IsWritten workers) book
    → AreRows opening (map opened_of book) × (opening_rows opening (map opened_of book) ≡ book)
again opening workers book few is all = opened_again opening book is (All-from_recursion (λ row. worker_of row < 16) book (low_workers workers book few all))

pub same_book : (opening : Opening) (workers : ℕ) (xs ys : Book) → workers ≤ 16 → IsBook opening xs → IsBook opening ys → AllByRecursion (IsWritten workers) xs → AllByRecursion (IsWritten workers) ys
    → lines row_line xs ≡ lines row_line ys → xs ≡ ys
same_book opening workers xs ys few is_x is_y x y same =
    let said = same_said workers (omega (arith, few)) xs ys x y (ap (records default_config) same) in
    let asked : map opened_of xs ≡ map opened_of ys = sym (rows_said xs) ∙ ap rows said ∙ rows_said ys in
    sym (again opening workers xs few is_x x).1 ∙ ap (opening_rows opening) asked ∙ (again opening workers ys few is_y y).1
