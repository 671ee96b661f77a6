-- What a prefix of a log has behind its whole lines is a cut row.
use Rattle.std.proofs.Common.{arith, ◌≡◌, ◌==◌, ◌≤◌, ◌<◌, ◌+◌, ◌-◌, ◌*◌, ◌/◌, ◌%◌, ◌^◌, ◌∷◌, ◌++◌, ◌∙◌, [], ℕ, ℤ, pos, negsuc, ◌≤ℤ◌, zero, suc, List, true, codes, length, take, drop, slice_index, refl, ap, subst, append_assoc, inl, inr, All}
use Rattle.std.proofs.Math.Seq.{drop-append-add}
use Rattle.std.proofs.lemmas.Bool.{and_from, and_parts, cases_Bool, cases_lt, leb-true, le-leb, or_right, or_left}
use Rattle.std.proofs.lemmas.Fmt.{decimal_digit, decimal_step, length-decimal-le}
use Rattle.std.proofs.lemmas.{Grind.{common_steps}, List.{append-nil, get_or-take}}
use Rattle.std.{proofs.lemmas.List.Elements.{recursion_from_All}, specs.Char.{is_ascii_digit}}
use Rattle.std.specs.{Fmt.{decimal, signed_decimal}, List.{AllByRecursion, flat_map, list_all}}
use Rattle.auction_rows.specs.{Book.{Book, worker_of}, declared.rows.Row.{Row}}
use Rattle.auction_rows.specs.declared.rows.Row.TheVariants.{Item, Bid, Comment, Buy}
use Rattle.auction_text.specs.{Fields.{is_printing}, Replies.{lines}}
use Rattle.auction_text.specs.RowLines.{byte_in_quotes, offer_text, quoted, row_line, row_text, rows_text, terms_text}
use Rattle.byte_texts.specs.Labels.{labelled, labelled_id}
use Rattle.log_opening.proofs.{PrefixLemmas.{line_first, row_prints}, ReadBackLemmas.{digit_is}}
use Rattle.log_opening.proofs.{RecoveryLemmas.{none_whole, take_past}, RowLineLemmas.{is_true_of}}
use Rattle.log_opening.specs.CutRows.{begins_row, has_at, has_digit_at, is_cut_row}
use Rattle.log_opening.specs.{Lines.{AreWholeLines}, ReadBack.{IsInRange, IsWritten}}

-- a text has at most so many bytes
record Few (xs : List ℕ) (n : ℕ) : Type 0 where
  le : length xs ≤ n

join : {xs ys : List ℕ} {a b : ℕ} → Few xs a → Few ys b → Few (xs ++ ys) (a + b)
join {xs} {ys} {a} {b} one two =
    let first = one.le in let second = two.le in
    record { le = grind (arith, common_steps) }

long_number : (n : ℕ) → n < 2 ^ 64 → Few (decimal n) 20
long_number n fits = record { le = length-decimal-le 20 n (omega arith) (omega (arith, fits)) fits }

short_number : (n : ℕ) → n < 2 ^ 32 → Few (decimal n) 10
short_number n fits = record { le = length-decimal-le 10 n (omega arith) (omega (arith, fits)) (omega (arith, fits)) }

comma : Few (codes ",") 1
comma = record { le = omega arith }

point : Few (codes ".") 1
point = record { le = omega arith }

quotes : Few (34 ∷ []) 1
quotes = record { le = omega arith }

two_each : (x : ℕ) → Few (byte_in_quotes x) 2
two_each x = elim (cases_Bool (x == 34)) [ inl quote ↦ rw quote (record { le = omega arith }) | inr other ↦ rw other (record { le = omega arith }) ]

in_quotes : (xs : List ℕ) → Few (flat_map byte_in_quotes xs) (2 * length xs)
in_quotes [] = record { le = omega arith }
in_quotes (x ∷ xs) =
    let more = join (two_each x) (in_quotes xs) in let all = more.le in
    record { le = omega (arith, all) }

name_few : (xs : List ℕ) → length xs ≤ 32 → Few (quoted xs) 66
name_few xs short =
    let all = join (join quotes (in_quotes xs)) quotes in let most = all.le in
    record { le = omega (arith, most, short) }

after_comma : (n : ℕ) → n < 2 ^ 64 → Few (labelled (codes ",") n) 21
after_comma n fits = join comma (long_number n fits)

id_few : (worker serial : ℕ) → worker < 2 ^ 32 → serial < 2 ^ 32 → Few (labelled_id (codes ",") worker serial) 22
id_few worker serial w s = join comma (join (join (short_number worker w) point) (short_number serial s))

stars_few : (v : ℤ) → negsuc 4 ≤ℤ v → v ≤ℤ pos 5 → Few (signed_decimal v) 21
stars_few (pos n) low high =
    let one = long_number n (omega (arith, leb-true n 5 (is_true_of _ high.le))) in
    let few = one.le in
    record { le = omega (arith, few) }
stars_few (negsuc n) low high =
    let minus : Few (45 ∷ []) 1 = record { le = omega arith } in
    join minus (long_number (suc n) (omega (arith, leb-true n 4 (is_true_of _ low.le))))

-- a row's text is short
row_few : (row : Row) → worker_of row < 2 ^ 32 → IsInRange row → Few (row_text row) 189
row_few (Bid row) worker fits =
    let word : Few (codes ",+bid,") 6 = record { le = omega arith } in
    let all = join (join (join (join (short_number row.id.worker worker) (join word (short_number row.bidder fits.bidder))) (id_few row.item.worker row.item.serial fits.item_worker fits.item_serial))
    (after_comma row.amount fits.amount)) (after_comma row.time fits.time) in
    let few = all.le in
    record { le = omega (arith, few) }
row_few (Buy row) worker fits =
    let word : Few (codes ",+buynow,") 9 = record { le = omega arith } in
    let all = join (join (join (join (short_number row.id.worker worker) (join word (short_number row.buyer fits.buyer))) (id_few row.item.worker row.item.serial fits.item_worker fits.item_serial))
    (after_comma row.quantity (omega (arith, fits.few)))) (after_comma row.time fits.time) in
    let few = all.le in
    record { le = omega (arith, few) }
row_few (Comment row) worker fits =
    let word : Few (codes ",+comment,") 10 = record { le = omega arith } in
    let all = join (join (join (join (join (short_number row.id.worker worker) (join word (short_number row.author fits.author))) (join comma (short_number row.about fits.about)))
    (id_few row.item.worker row.item.serial fits.item_worker fits.item_serial)) comma) (stars_few row.stars.value row.stars.at_least row.stars.at_most) in
    let few = all.le in
    record { le = omega (arith, few) }
row_few (Item row) worker fits =
    let word : Few (codes ",+item,") 7 = record { le = omega arith } in
    let offer : Few (offer_text row.facts) 95 =
    join (join (join (join word (short_number row.facts.seller fits.seller)) (join comma (short_number row.facts.category fits.category))) comma) (name_few row.facts.name fits.name.not_long) in
    let terms : Few (terms_text row) 84 =
    join (join (join (after_comma row.facts.start fits.start) (after_comma row.facts.closes fits.closes)) (after_comma row.time fits.time)) (after_comma row.facts.quantity (omega (arith, fits.few))) in
    let all = join (join (short_number row.id.worker worker) offer) terms in let few = all.le in
    record { le = omega (arith, few) }

-- a row's text begins with its worker, a comma and a plus
record Begins (text : List ℕ) (worker : ℕ) : Type 0 where
  more : List ℕ
  is : text ≡ decimal worker ++ (44 ∷ 43 ∷ more)

five : (w k b i a t : List ℕ) → (((w ++ (k ++ b)) ++ i) ++ a) ++ t ≡ w ++ (k ++ (b ++ (i ++ (a ++ t))))
five w k b i a t = simp append_assoc

six : (w k b i a c t : List ℕ) → ((((w ++ (k ++ b)) ++ i) ++ a) ++ c) ++ t ≡ w ++ (k ++ (b ++ (i ++ (a ++ (c ++ t)))))
six w k b i a c t = simp append_assoc

offers : (w k s c m n t : List ℕ) → (w ++ ((((k ++ s) ++ c) ++ m) ++ n)) ++ t ≡ w ++ (k ++ (s ++ (c ++ (m ++ (n ++ t)))))
offers w k s c m n t = simp append_assoc

row_begins : (row : Row) → Begins (row_text row) (worker_of row)
row_begins (Bid row) = record { more = _; is = five (decimal row.id.worker) (codes ",+bid,") (decimal row.bidder) (labelled_id (codes ",") row.item.worker row.item.serial) (labelled (codes ",") row.amount) (labelled (codes ",") row.time) }
row_begins (Buy row) = record { more = _; is = five (decimal row.id.worker) (codes ",+buynow,") (decimal row.buyer) (labelled_id (codes ",") row.item.worker row.item.serial) (labelled (codes ",") row.quantity) (labelled (codes ",") row.time) }
row_begins (Comment row) = record { more = _; is = six (decimal row.id.worker) (codes ",+comment,") (decimal row.author) (labelled (codes ",") row.about) (labelled_id (codes ",") row.item.worker row.item.serial) (codes ",") (signed_decimal row.stars.value) }
row_begins (Item row) = record { more = _; is = offers (decimal row.id.worker) (codes ",+item,") (decimal row.facts.seller) (labelled (codes ",") row.facts.category) (codes ",") (quoted row.facts.name) (terms_text row) }

-- a byte of a prefix is that of the whole
front_at : (text : List ℕ) (n at : ℕ) → at < length (take n text) → slice_index (take n text) at ≡ slice_index text at
front_at text n at within =
    let long : length (take n text) ≤ n = grind (arith, common_steps) in
    get_or-take n text at 0 (omega (arith, within, long))

byte_there : (text : List ℕ) (n at byte : ℕ) → slice_index text at ≡ byte → has_at (take n text) at byte ≡ true
byte_there text n at byte is = elim (cases_lt at (length (take n text))) [
  | inl within ↦
      let here = front_at text n at within ∙ is in
      grind (arith, common_steps)
  | inr past ↦ rw (le-leb (length (take n text)) at past) refl
]

digit_there : (text : List ℕ) (n at : ℕ) → is_ascii_digit (slice_index text at) ≡ true → has_digit_at (take n text) at ≡ true
digit_there text n at is = elim (cases_lt at (length (take n text))) [
  | inl within ↦
      let here = front_at text n at within in
      grind (arith, common_steps)
  | inr past ↦ rw (le-leb (length (take n text)) at past) refl
]

front_begins : (text : List ℕ) (worker n : ℕ) → worker < 16 → Begins text worker → begins_row (take n text) ≡ true
front_begins text worker n few begins = elim (cases_lt worker 10) [
  | inl one ↦
      let is : text ≡ (48 + worker) ∷ 44 ∷ 43 ∷ begins.more = begins.is ∙ ap (λ (d : List ℕ). d ++ (44 ∷ 43 ∷ begins.more)) (decimal_digit worker one) in
      let at : (i : ℕ) → slice_index text i ≡ slice_index ((48 + worker) ∷ 44 ∷ 43 ∷ begins.more) i = λ i. ap (λ (xs : List ℕ). slice_index xs i) is in
      and_from _ _ (digit_there text n 0 (ap is_ascii_digit (at 0) ∙ digit_is worker one))
      (or_left _ _ (and_from _ _ (byte_there text n 1 44 (at 1)) (byte_there text n 2 43 (at 2))))
  | inr two ↦
      let digits : decimal worker ≡ (48 + worker / 10) ∷ (48 + worker % 10) ∷ [] =
      decimal_step worker two (omega (arith, few)) ∙ ap (λ (d : List ℕ). d ++ ((48 + worker % 10) ∷ [])) (decimal_digit (worker / 10) (omega (arith, few))) in
      let is : text ≡ (48 + worker / 10) ∷ (48 + worker % 10) ∷ 44 ∷ 43 ∷ begins.more = begins.is ∙ ap (λ (d : List ℕ). d ++ (44 ∷ 43 ∷ begins.more)) digits in
      let at : (i : ℕ) → slice_index text i ≡ slice_index ((48 + worker / 10) ∷ (48 + worker % 10) ∷ 44 ∷ 43 ∷ begins.more) i = λ i. ap (λ (xs : List ℕ). slice_index xs i) is in
      and_from _ _ (digit_there text n 0 (ap is_ascii_digit (at 0) ∙ digit_is (worker / 10) (omega (arith, few))))
      (or_right _ _ (and_from _ _ (digit_there text n 1 (ap is_ascii_digit (at 1) ∙ digit_is (worker % 10) (omega arith)))
      (and_from _ _ (byte_there text n 2 44 (at 2)) (byte_there text n 3 43 (at 3)))))
]

front_prints : (xs : List ℕ) (n : ℕ) → list_all is_printing xs ≡ true → list_all is_printing (take n xs) ≡ true
front_prints xs zero all = refl
front_prints [] (suc n) all = refl
front_prints (x ∷ xs) (suc n) all =
    let p = and_parts (is_printing x) (list_all is_printing xs) all in
    and_from _ _ p.0 (front_prints xs n p.1)

front_cut : (row : Row) (n : ℕ) → worker_of row < 16 → IsInRange row → is_cut_row (take n (row_text row)) ≡ true
front_cut row n few fits =
    let text = row_text row in let wide : worker_of row < 2 ^ 32 = omega (arith, few) in
    let short = (row_few row wide fits).le in
    let long : length (take n text) ≤ length text = grind (arith, common_steps) in
    and_from _ _ (le-leb (length (take n text)) 189 (omega (arith, short, long)))
    (and_from _ _ (front_prints text n (row_prints row wide fits).all) (front_begins text (worker_of row) n few (row_begins row)))

drop_past : (xs ys : List ℕ) (n l : ℕ) → length xs ≡ l → l ≤ n → drop n (xs ++ ys) ≡ drop (n - l) ys
drop_past xs ys n l long past =
    let same : n ≡ length xs + (n - l) = omega (arith, long, past) in
    ap (λ (i : ℕ). drop i (xs ++ ys)) same ∙ drop-append-add xs ys (n - l)

-- behind the whole lines of a prefix of a book's text is a cut row
pub tail_cut : (workers : ℕ) (book : Book) (n whole : ℕ) → workers ≤ 16 → AllByRecursion (IsWritten workers) book → AreWholeLines (take n (lines row_line book)) whole
    → is_cut_row (drop whole (take n (lines row_line book))) ≡ true
tail_cut workers [] n whole few all are =
    let none : drop whole (take n []) ≡ [] = grind (arith, common_steps) in
    ap is_cut_row none
tail_cut workers (row ∷ book) n whole few all are =
    let text = row_text row in let rest = lines row_line book in
    let small : worker_of row < 16 = omega (arith, few, all.0.0) in
    let prints = row_prints row (omega (arith, small)) all.0.1 in
    let long : length (text ++ (10 ∷ [])) ≡ length text + 1 = grind (arith, common_steps) in
    elim (cases_lt (length text) n) [
      | inr short ↦
          let whole_is : whole ≡ 0 = none_whole text ((10 ∷ []) ++ rest) n whole prints short (subst (λ (xs : List ℕ). AreWholeLines (take n xs) whole) (append_assoc text (10 ∷ []) rest) are) in
          let front : take n ((text ++ (10 ∷ [])) ++ rest) ≡ take n text = grind (arith, common_steps) in
          rw (whole_is, front) (front_cut row n small all.0.1)
      | inl past ↦
          let l = length text + 1 in
          let split : take n ((text ++ (10 ∷ [])) ++ rest) ≡ (text ++ (10 ∷ [])) ++ take (n - l) rest = take_past (text ++ (10 ∷ [])) rest n l long (omega (arith, past)) in
          let first = line_first text (take (n - l) rest) whole prints (subst (λ (xs : List ℕ). AreWholeLines xs whole) split are) in
          ap (λ (xs : List ℕ). is_cut_row (drop whole xs)) split
          ∙ ap is_cut_row (drop_past (text ++ (10 ∷ [])) (take (n - l) rest) whole l long first.0)
          ∙ tail_cut workers book (n - l) (whole - l) few all.1 first.1
    ]

pub tail_of_text : (workers : ℕ) (book : Book) (n whole : ℕ) → workers ≤ 16 → All (IsWritten workers) book → AreWholeLines (take n (rows_text book [])) whole
    → is_cut_row (drop whole (take n (rows_text book []))) ≡ true
tail_of_text workers book n whole few all are =
    let text : rows_text book [] ≡ lines row_line book = ap (λ (l : List Row). lines row_line l) (append-nil book) in
    ap (λ (xs : List ℕ). is_cut_row (drop whole (take n xs))) text
    ∙ tail_cut workers book n whole few (recursion_from_All (IsWritten workers) book all) (subst (λ (xs : List ℕ). AreWholeLines (take n xs) whole) text are)
