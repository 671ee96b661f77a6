-- The whole lines of a prefix of a log are the lines of its first rows.
use Rattle.std.proofs.Common.{arith, ◌≡◌, ◌≢◌, ◌==◌, ◌≤◌, ◌<◌, ◌+◌, ◌-◌, ◌^◌, ◌∷◌, ◌++◌, ◌∙◌, [], ℕ, zero, suc, List, true, codes, length, slice_index, refl, sym, ap, append_assoc, inl, inr, ℤ, pos, negsuc, ◌≤ℤ◌}
use Rattle.std.proofs.lemmas.Bool.{and_from, and_parts, cases_lt, cases_Bool, leb-true, le-leb}
use Rattle.std.proofs.lemmas.{Grind.{common_steps}, List.{get_or-append-add, get_or_at}}
use Rattle.std.proofs.lemmas.List.{Elements.{recursion_from_All}, Folds.{list_all-append}}
use Rattle.std.specs.{Char.{is_ascii_digit}, Fmt.{decimal, signed_decimal}}
use Rattle.std.specs.List.{AllByRecursion, flat_map, list_all}
use Rattle.auction_rows.specs.{Book.{worker_of}, Name.{IsName, IsPrinting}}
use Rattle.auction_rows.specs.declared.rows.Row.TheVariants.{Item, Bid, Comment, Buy}
use Rattle.auction_rows.specs.declared.rows.{ItemRow.ItemRow, BidRow.BidRow, CommentRow.CommentRow, BuyRow.BuyRow, Row.Row}
use Rattle.auction_text.specs.Fields.{is_printing}
use Rattle.auction_text.specs.RowLines.{byte_in_quotes, offer_text, quoted, row_text, terms_text}
use Rattle.byte_texts.specs.Labels.{labelled, labelled_id}
use Rattle.log_opening.proofs.{ReadBackLemmas.{digits}, RowLineLemmas.{is_true_of}}
use Rattle.log_opening.specs.{Lines.{AreWholeLines}, ReadBack.{IsInRange}}

-- each byte of a text prints
pub record Prints (xs : List ℕ) : Type 0 where
  pub all : list_all is_printing xs ≡ true

both : {xs ys : List ℕ} → Prints xs → Prints ys → Prints (xs ++ ys)
both {xs} {ys} one two = record { all = list_all-append is_printing xs ys ∙ and_from (list_all is_printing xs) (list_all is_printing ys) one.all two.all }

comma_prints : Prints (codes ",")
comma_prints = record { all = refl }

point_prints : Prints (codes ".")
point_prints = record { all = refl }

digit_prints : (d : ℕ) → is_ascii_digit d ≡ true → is_printing d ≡ true
digit_prints d e =
    let p = and_parts _ _ e in let low : 48 ≤ d = leb-true 48 d p.0 in
    let high : d ≤ 57 = leb-true d 57 p.1 in
    and_from _ _ (le-leb 0x20 d (omega (arith, low))) (le-leb d 0x7E (omega (arith, high)))

digits_print : (xs : List ℕ) → list_all is_ascii_digit xs ≡ true → list_all is_printing xs ≡ true
digits_print [] all = refl
digits_print (x ∷ xs) all =
    let p = and_parts (is_ascii_digit x) (list_all is_ascii_digit xs) all in
    and_from _ _ (digit_prints x p.0) (digits_print xs p.1)

number_prints : (n : ℕ) → n < 2 ^ 64 → Prints (decimal n)
number_prints n fits = record { all = digits_print (decimal n) (digits n fits) }

wide : (n : ℕ) → n < 2 ^ 32 → n < 2 ^ 64
wide n fits = omega (arith, fits)

short_prints : (n : ℕ) → n < 2 ^ 32 → Prints (decimal n)
short_prints n fits = number_prints n (wide n fits)

byte_prints : (x : ℕ) → IsPrinting x → Prints (byte_in_quotes x)
byte_prints x is =
    let one : is_printing x ≡ true = and_from _ _ (le-leb 0x20 x is.0) (le-leb x 0x7E is.1) in
    elim (cases_Bool (x == 34)) [ inl quote ↦ rw quote (record { all = refl }) | inr other ↦ rw other (record { all = and_from _ _ one refl }) ]

quoted_prints : (xs : List ℕ) → AllByRecursion IsPrinting xs → Prints (flat_map byte_in_quotes xs)
quoted_prints [] all = record { all = refl }
quoted_prints (x ∷ xs) all = both (byte_prints x all.0) (quoted_prints xs all.1)

name_prints : (xs : List ℕ) → IsName xs → Prints (quoted xs)
name_prints xs named =
    let quote : Prints (34 ∷ []) = record { all = refl } in
    both (both quote (quoted_prints xs (recursion_from_All IsPrinting xs named.printing))) quote

after_comma : (n : ℕ) → n < 2 ^ 64 → Prints (labelled (codes ",") n)
after_comma n fits = both comma_prints (number_prints n fits)

id_prints : (worker serial : ℕ) → worker < 2 ^ 32 → serial < 2 ^ 32 → Prints (labelled_id (codes ",") worker serial)
id_prints worker serial w s = both comma_prints (both (both (short_prints worker w) point_prints) (short_prints serial s))

-- and so does each byte of a row's text
bid_prints : (row : BidRow) → row.id.worker < 2 ^ 32 → IsInRange (Bid row) → Prints (row_text (Bid row))
bid_prints row worker fits =
    let word : Prints (codes ",+bid,") = record { all = refl } in
    both (both (both (both (short_prints row.id.worker worker) (both word (short_prints row.bidder fits.bidder))) (id_prints row.item.worker row.item.serial fits.item_worker fits.item_serial))
    (after_comma row.amount fits.amount)) (after_comma row.time fits.time)

buy_prints : (row : BuyRow) → row.id.worker < 2 ^ 32 → IsInRange (Buy row) → Prints (row_text (Buy row))
buy_prints row worker fits =
    let word : Prints (codes ",+buynow,") = record { all = refl } in
    both (both (both (both (short_prints row.id.worker worker) (both word (short_prints row.buyer fits.buyer))) (id_prints row.item.worker row.item.serial fits.item_worker fits.item_serial))
    (after_comma row.quantity (omega (arith, fits.few)))) (after_comma row.time fits.time)

stars_print : (v : ℤ) → negsuc 4 ≤ℤ v → v ≤ℤ pos 5 → Prints (signed_decimal v)
stars_print (pos n) low high = number_prints n (omega (arith, leb-true n 5 (is_true_of _ high.le)))
stars_print (negsuc n) low high =
    let minus : Prints (45 ∷ []) = record { all = refl } in
    both minus (number_prints (suc n) (omega (arith, leb-true n 4 (is_true_of _ low.le))))

comment_prints : (row : CommentRow) → row.id.worker < 2 ^ 32 → IsInRange (Comment row) → Prints (row_text (Comment row))
comment_prints row worker fits =
    let word : Prints (codes ",+comment,") = record { all = refl } in
    both (both (both (both (both (short_prints row.id.worker worker) (both word (short_prints row.author fits.author))) (both comma_prints (short_prints row.about fits.about)))
    (id_prints row.item.worker row.item.serial fits.item_worker fits.item_serial)) comma_prints) (stars_print row.stars.value row.stars.at_least row.stars.at_most)

item_prints : (row : ItemRow) → row.id.worker < 2 ^ 32 → IsInRange (Item row) → Prints (row_text (Item row))
item_prints row worker fits =
    let word : Prints (codes ",+item,") = record { all = refl } in
    let offer : Prints (offer_text row.facts) =
    both (both (both (both word (short_prints row.facts.seller fits.seller)) (both comma_prints (short_prints row.facts.category fits.category))) comma_prints) (name_prints row.facts.name fits.name) in
    let terms : Prints (terms_text row) =
    both (both (both (after_comma row.facts.start fits.start) (after_comma row.facts.closes fits.closes)) (after_comma row.time fits.time)) (after_comma row.facts.quantity (omega (arith, fits.few))) in
    both (both (short_prints row.id.worker worker) offer) terms

pub row_prints : (row : Row) → worker_of row < 2 ^ 32 → IsInRange row → Prints (row_text row)
row_prints (Item row) worker fits = item_prints row worker fits
row_prints (Bid row) worker fits = bid_prints row worker fits
row_prints (Comment row) worker fits = comment_prints row worker fits
row_prints (Buy row) worker fits = buy_prints row worker fits

-- no byte that prints ends a line
pub prints_at : (xs : List ℕ) (i : ℕ) → list_all is_printing xs ≡ true → i < length xs → slice_index xs i ≢ 10
prints_at [] i all within = absurd (omega (arith, within))
prints_at (x ∷ xs) zero all within = λ e.
    let p = and_parts (is_printing x) (list_all is_printing xs) all in
    let low : 32 ≤ x = leb-true 32 x (and_parts _ _ p.0).0 in
    absurd (omega (arith, low, e))
prints_at (x ∷ xs) (suc i) all within = prints_at xs i (and_parts (is_printing x) (list_all is_printing xs) all).1 (omega (arith, within))

-- the whole lines of a text whose first bytes are a line: that line, and those of the rest
pub line_first : (text rest : List ℕ) (whole : ℕ) → Prints text → AreWholeLines ((text ++ (10 ∷ [])) ++ rest) whole
    → (length text + 1 ≤ whole) × AreWholeLines rest (whole - (length text + 1))
line_first text rest whole prints are =
    let line = text ++ (10 ∷ []) in
    let long : length line ≡ length text + 1 = grind (arith, common_steps) in
    let all : length (line ++ rest) ≡ length text + 1 + length rest = grind (arith, common_steps) in
    let feed : slice_index (line ++ rest) (length text) ≡ 10 = ap (λ (xs : List ℕ). slice_index xs (length text)) (append_assoc text (10 ∷ []) rest) ∙ get_or_at text 10 rest 0 (length text) refl in
    let at : (i : ℕ) → slice_index (line ++ rest) (length text + 1 + i) ≡ slice_index rest i =
    λ i. ap (λ (n : ℕ). slice_index (line ++ rest) (n + i)) (sym long) ∙ get_or-append-add line rest i 0 in
    let many : length text + 1 ≤ whole = elim (cases_lt (length text) whole) [
      | inl more ↦ omega (arith, more)
      | inr few ↦ absurd (are.rest (length text) few (omega (arith, all)) feed)
    ] in (
      many,
      record {
        within = omega (arith, are.within, all, many);
        ended = elim are.ended [
          | inl none ↦ absurd (omega (arith, none, many))
          | inr last ↦ elim (cases_lt (length text) last.0) [
            | inl more ↦
                let i = last.0 - (length text + 1) in
                let same : length text + 1 + i ≡ last.0 = omega (arith, more) in
                inr (i, (omega (arith, last.1.0, more), sym (at i) ∙ ap (slice_index (line ++ rest)) same ∙ last.1.1))
            | inr first ↦ inl (omega (arith, last.1.0, first, many))
          ]
        ];
        rest = λ i from within.
            let there : whole ≤ length text + 1 + i = omega (arith, from, many) in
            λ e. are.rest (length text + 1 + i) there (omega (arith, within, all)) (at i ∙ e);
      },
    )
