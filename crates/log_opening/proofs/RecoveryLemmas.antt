-- A prefix of a log opens to the first rows of its book.
use Rattle.std.proofs.Common.{arith, ◌≡◌, ◌≤◌, ◌<◌, ◌+◌, ◌-◌, ◌^◌, ◌∷◌, ◌++◌, ◌∙◌, [], ℕ, zero, suc, List, length, take, slice_index, refl, sym, ap, subst, append_assoc, inl, inr, All}
use Rattle.std.proofs.{Math.Seq.{take-append-add}, lemmas.{Bool.{cases_lt}, Grind.{common_steps}}}
use Rattle.std.proofs.lemmas.List.{append-nil, get_or-take}
use Rattle.std.proofs.lemmas.List.Elements.{All-from_recursion, recursion_from_All}
use Rattle.std.specs.List.{AllByRecursion}
use Rattle.auction_rows.specs.{Book.{Book}, History.{GoOn, IsBook, after_entry, commit_of}}
use Rattle.auction_rows.specs.declared.{values.Opening.Opening, rows.Row.Row}
use Rattle.item_shards.{proofs.OpeningBookLemmas.{opened_again}, specs.Counting.{worker_of}}
use Rattle.auction_text.specs.{InputLimits.{MOST_RECORDS}, Replies.{lines}}
use Rattle.auction_text.specs.{RowLines.{row_line, row_text, rows_text}, Scripts.{input_of}}
use Rattle.log_opening.proofs.BookReadLemmas.{book_read}
use Rattle.log_opening.proofs.PrefixLemmas.{Prints, line_first, prints_at, row_prints}
use Rattle.log_opening.specs.{Lines.{AreWholeLines}, ReadBack.{IsWritten}, Recovery.{OpensTo}}
use Rattle.phase_laws.proofs.ListLemmas.{all-take}

-- the first rows, whose lines are whole
pub record Front (book : Book) (n whole : ℕ) : Type 0 where
  pub count : ℕ
  pub within : count ≤ length book
  pub is : take whole (take n (lines row_line book)) ≡ lines row_line (take count book)
  pub begins : (accepted : ℕ) → accepted ≤ length book → length (lines row_line (take accepted book)) ≤ n → accepted ≤ count

-- a prefix of a line without its end has no whole line
pub none_whole : (text rest : List ℕ) (n whole : ℕ) → Prints text → n ≤ length text → AreWholeLines (take n (text ++ rest)) whole → whole ≡ 0
none_whole text rest n whole prints short are = elim are.ended [
  | inl none ↦ none
  | inr last ↦
      let long : length (take n (text ++ rest)) ≤ n = grind (arith, common_steps) in
      let below : last.0 < n = omega (arith, last.1.0, are.within, long) in
      let same : take n (text ++ rest) ≡ take n text = grind (arith, common_steps) in
      let there : slice_index text last.0 ≡ 10 = sym (get_or-take n text last.0 0 below) ∙ ap (λ (xs : List ℕ). slice_index xs last.0) (sym same) ∙ last.1.1 in
      absurd (prints_at text last.0 prints.all (omega (arith, below, short)) there)
]

pub take_past : (xs ys : List ℕ) (n l : ℕ) → length xs ≡ l → l ≤ n → take n (xs ++ ys) ≡ xs ++ take (n - l) ys
take_past xs ys n l long past =
    let same : n ≡ length xs + (n - l) = omega (arith, long, past) in
    ap (λ (i : ℕ). take i (xs ++ ys)) same ∙ take-append-add xs ys (n - l)

pub front : (workers : ℕ) (book : Book) (n whole : ℕ) → workers ≤ 2 ^ 32 → AllByRecursion (IsWritten workers) book → AreWholeLines (take n (lines row_line book)) whole → Front book n whole
front workers [] n whole few all are = record {
  count = 0;
  within = omega arith;
  is = grind (arith, common_steps);
  begins = λ accepted within short. within;
}
front workers (row ∷ book) n whole few all are =
    let text = row_text row in let rest = lines row_line book in
    let prints = row_prints row (omega (arith, few, all.0.0)) all.0.1 in
    let long : length (text ++ (10 ∷ [])) ≡ length text + 1 = grind (arith, common_steps) in
    elim (cases_lt (length text) n) [
      | inr short ↦
          let whole_is : whole ≡ 0 = none_whole text ((10 ∷ []) ++ rest) n whole prints short (subst (λ (xs : List ℕ). AreWholeLines (take n xs) whole) (append_assoc text (10 ∷ []) rest) are) in
          record {
            count = 0;
            within = omega arith;
            is = rw whole_is refl;
            begins = begins_none row book n short;
          }
      | inl past ↦
          let l = length text + 1 in
          let split : take n ((text ++ (10 ∷ [])) ++ rest) ≡ (text ++ (10 ∷ [])) ++ take (n - l) rest = take_past (text ++ (10 ∷ [])) rest n l long (omega (arith, past)) in
          let first = line_first text (take (n - l) rest) whole prints (subst (λ (xs : List ℕ). AreWholeLines xs whole) split are) in
          let others = front workers book (n - l) (whole - l) few all.1 first.1 in record {
            count = suc others.count;
            within = omega (arith, others.within);
            is = ap (take whole) split ∙ take_past (text ++ (10 ∷ [])) (take (n - l) rest) whole l long first.0 ∙ ap (λ (xs : List ℕ). (text ++ (10 ∷ [])) ++ xs) others.is;
            begins = begins_more row book n others.count past others.begins;
          }
    ] where
      begins_none : (row : Row) (book : Book) (n : ℕ) → n ≤ length (row_text row) → (accepted : ℕ) → accepted ≤ length (row ∷ book) → length (lines row_line (take accepted (row ∷ book))) ≤ n → accepted ≤ 0
      begins_none row book n short zero within fits = omega arith
      begins_none row book n short (suc a) within fits =
          let all : length ((row_text row ++ (10 ∷ [])) ++ lines row_line (take a book)) ≡ length (row_text row) + 1 + length (lines row_line (take a book)) = grind (arith, common_steps) in
          absurd (omega (arith, fits, all, short))

      begins_more : (row : Row) (book : Book) (n count : ℕ) → length (row_text row) < n
          → ((accepted : ℕ) → accepted ≤ length book → length (lines row_line (take accepted book)) ≤ n - (length (row_text row) + 1) → accepted ≤ count)
          → (accepted : ℕ) → accepted ≤ length (row ∷ book) → length (lines row_line (take accepted (row ∷ book))) ≤ n → accepted ≤ suc count
      begins_more row book n count past more zero within fits = omega arith
      begins_more row book n count past more (suc a) within fits =
          let all : length ((row_text row ++ (10 ∷ [])) ++ lines row_line (take a book)) ≡ length (row_text row) + 1 + length (lines row_line (take a book)) = grind (arith, common_steps) in
          let less = more a (omega (arith, within)) (omega (arith, fits, all)) in
          omega (arith, less)

-- the first rows of a book are a book
pub front_goes_on : (opening : Opening) (book rows : List Row) (k : ℕ) → GoOn opening book rows → GoOn opening book (take k rows)
front_goes_on opening book rows zero go = tt
front_goes_on opening book [] (suc k) go = tt
front_goes_on opening book (row ∷ rows) (suc k) go = (go.0, front_goes_on opening (after_entry opening book (commit_of row)) rows k go.1)

pub text_alone : (book : Book) → rows_text book [] ≡ lines row_line book
text_alone book = ap (λ (l : List Row). lines row_line l) (append-nil book)

pub opens_to : (opening : Opening) (workers : ℕ) (book : Book) (n whole : ℕ) → workers ≤ 2 ^ 32 → IsBook opening book → All (λ row. worker_of row < 16) book → All (IsWritten workers) book
    → length book ≤ MOST_RECORDS → AreWholeLines (take n (rows_text book [])) whole → OpensTo opening workers book n whole
opens_to opening workers book n whole few is known written short are =
    let all = recursion_from_All (IsWritten workers) book written in
    let f = front workers book n whole few all (subst (λ (xs : List ℕ). AreWholeLines (take n xs) whole) (text_alone book) are) in
    let rows = take f.count book in
    let text : take whole (take n (rows_text book [])) ≡ rows_text rows [] = ap (λ (xs : List ℕ). take whole (take n xs)) (text_alone book) ∙ f.is ∙ sym (text_alone rows) in
    let long : length rows ≤ MOST_RECORDS = grind (arith, common_steps) in
    let again = opened_again opening rows (front_goes_on opening [] book f.count is) (All-from_recursion (λ row. worker_of row < 16) rows (all-take (λ row. worker_of row < 16) f.count book (recursion_from_All (λ row. worker_of row < 16) book known))) in
    record {
      count = f.count;
      within = f.within;
      text = text;
      read = ap (input_of workers) text ∙ book_read workers rows few (all-take (IsWritten workers) f.count book all) long;
      are_rows = again.0;
      opens = again.1;
      begins = λ accepted within fits. f.begins accepted within (subst (λ (xs : List ℕ). length xs ≤ n) (text_alone (take accepted book)) fits);
    }
