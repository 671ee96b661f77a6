-- The line of a row is one record, which says the row.
use Rattle.std.proofs.Common.{arith, ◌≡◌, ◌==◌, ◌≤◌, ◌<◌, ◌+◌, ◌-◌, ◌^◌, ◌∷◌, ◌++◌, ◌∙◌, [], ℕ, List, Some, Ok, Bool, true, false, nat_lt, nat_le, ℤ, pos, negsuc, ◌≤ℤ◌, suc, length, refl, sym, ap, append_assoc, inl, inr}
use Rattle.std.proofs.lemmas.Bool.{cases_Bool, eqb-true, le-leb, leb-true, lt-ltb}
use Rattle.std.proofs.lemmas.{Fmt.{decimal_digit}, Grind.{common_steps}, List.{append-nil}}
use Rattle.std.specs.{Fmt.{decimal, signed_decimal}, List.{flat_map}, Prelude.{T}}
use Rattle.auction_rows.{proofs.StarsLemmas.{stars_found}, specs.Book.{worker_of}}
use Rattle.auction_rows.specs.{History.{commit_of}, Name.{IsName}, Stars.{stars_of}}
use Rattle.auction_rows.specs.declared.rows.Row.TheVariants.{Item, Bid, Comment, Buy}
use Rattle.auction_rows.specs.declared.{values.Stars.Stars, requests.Request.Request, rows.ItemRow.ItemRow, rows.BidRow.BidRow, rows.CommentRow.CommentRow, rows.BuyRow.BuyRow, rows.Row.Row}
use Rattle.csv.specs.{Machine.{next_record}, Reading.{default_config, strip_bom}}
use Rattle.csv.specs.Records.{field_at}
use Rattle.csv.specs.declared.parser.State.TheVariants as st
use Rattle.auction_text.proofs.LineLemmas.{first_and_comma, last_and_end, next_and_comma}
use Rattle.auction_text.proofs.{NameLemmas.{name_tested}, PlainFieldLemmas.{digits_no_bom}}
use Rattle.auction_text.specs.{Fields.{name, stars}, Kinds.{has_count, kind_of}, Lines.{ReadsFirst}}
use Rattle.auction_text.specs.{Record.{Record}, Records.{read_record, request_of}}
use Rattle.auction_text.specs.{RequestKind.{RequestKind}, RowLines.{byte_in_quotes, row_line}}
use Rattle.auction_text.specs.RequestKind.TheVariants as kind
use Rattle.record_reading.specs.inner.PlainLines.{HasRead, is_plain}
use Rattle.byte_texts.specs.Labels.{id_text}
use Rattle.log_opening.proofs.ReadBackLemmas.{digits, item_of, minus_plain, number_of, plain_item, plain_number, quantity_of}
use Rattle.log_opening.specs.ReadBack.{IsInRange}

-- what the line of a row says
abbrev pub said_of : Row → Record
said_of row = record { is_row = true; worker = worker_of row; request = (commit_of row).request }

-- A line is one record for any continuation, which says this.
pub record IsReadAs (line : List ℕ) (said : Record) : Type 0 where
  pub fields : List (List ℕ)
  pub reads : (rest : List ℕ) → ReadsFirst (line ++ rest) fields rest
  pub unmarked : (rest : List ℕ) → strip_bom (line ++ rest) ≡ line ++ rest
  pub says : (workers place : ℕ) → said.worker < workers → read_record workers place false fields ≡ Ok said

-- what the fields of a row's line say
row_says : (k : RequestKind) (asked : Request) (worker : ℕ) (word : List ℕ) (others : List (List ℕ)) → worker < 2 ^ 32 → kind_of word ≡ Some (record { is_row = true; request = k })
    → has_count k (length (decimal worker ∷ word ∷ others)) ≡ true → request_of k (decimal worker ∷ word ∷ others) ≡ Ok asked → (workers place : ℕ) → worker < workers
    → read_record workers place false (decimal worker ∷ word ∷ others) ≡ Ok (record { is_row = true; worker = worker; request = asked })
unfolding field_at
row_says k asked worker word others fits named count says workers place below =
    let w = number_of 32 worker fits (omega (arith, fits)) in
    let few : nat_lt worker workers ≡ true = lt-ltb worker workers below in
    let many : nat_lt (length (decimal worker ∷ word ∷ others)) 2 ≡ false = grind (arith, common_steps) in
    rw (w, few, many, named, count, says) refl

-- a line begins with its worker's digits
no_mark : (worker : ℕ) (line : List ℕ) → worker < 2 ^ 32 → strip_bom (decimal worker ++ (44 ∷ line)) ≡ decimal worker ++ (44 ∷ line)
no_mark worker line fits = digits_no_bom (decimal worker) 44 line (digits worker (omega (arith, fits))) refl

below_64 : (n : ℕ) → n < 2 ^ 32 → n < 2 ^ 64
below_64 n fits = omega (arith, fits)

-- six fields of a line, and its end
six_read : (line w word x y z t rest : List ℕ) → line ≡ w ++ (44 ∷ (word ++ (44 ∷ (x ++ (44 ∷ (y ++ (44 ∷ (z ++ (44 ∷ (t ++ ((10 ∷ []) ++ rest)))))))))))
    → is_plain w ≡ true → is_plain word ≡ true → is_plain x ≡ true → is_plain y ≡ true → is_plain z ≡ true → is_plain t ≡ true → ReadsFirst line (w ∷ word ∷ x ∷ y ∷ z ∷ t ∷ []) rest
six_read line w word x y z t rest is plain_w plain_word plain_x plain_y plain_z plain_t =
    let r5 = t ++ ((10 ∷ []) ++ rest) in let r4 = z ++ (44 ∷ r5) in let r3 = y ++ (44 ∷ r4) in
    let r2 = x ++ (44 ∷ r3) in let r1 = word ++ (44 ∷ r2) in
    let one : HasRead line (w ∷ []) r1 = rw is (first_and_comma w r1 plain_w) in
    let two = next_and_comma line (w ∷ []) word r2 one plain_word in
    let three = next_and_comma line (w ∷ word ∷ []) x r3 two plain_x in
    let four = next_and_comma line (w ∷ word ∷ x ∷ []) y r4 three plain_y in
    let five = next_and_comma line (w ∷ word ∷ x ∷ y ∷ []) z r5 four plain_z in
    last_and_end line (w ∷ word ∷ x ∷ y ∷ z ∷ []) t (10 ∷ []) rest five plain_t (inl refl)

abbrev bid_word : List ℕ
bid_word = 43 ∷ 98 ∷ 105 ∷ 100 ∷ []

-- the line of a bid
bid_line : (row : BidRow) (rest : List ℕ) → row_line (Bid row) ++ rest
    ≡ decimal row.id.worker ++ (44 ∷ (bid_word ++ (44 ∷ (decimal row.bidder ++ (44 ∷ (id_text row.item.worker row.item.serial ++ (44 ∷ (decimal row.amount ++ (44 ∷ (decimal row.time ++ ((10 ∷ []) ++ rest)))))))))))
bid_line row rest = simp append_assoc refl

pub bid_read : (row : BidRow) → row.id.worker < 2 ^ 32 → IsInRange (Bid row) → IsReadAs (row_line (Bid row)) (said_of (Bid row))
unfolding field_at
bid_read row worker fits =
    let w = row.id.worker in let b = decimal row.bidder in
    let i = id_text row.item.worker row.item.serial in let a = decimal row.amount in
    let t = decimal row.time in
    let few = below_64 row.bidder fits.bidder in record {
      fields = decimal w ∷ bid_word ∷ b ∷ i ∷ a ∷ t ∷ [];
      reads = λ rest. six_read (row_line (Bid row) ++ rest) (decimal w) bid_word b i a t rest (bid_line row rest) (plain_number w (below_64 w worker)) refl (plain_number row.bidder few)
          (plain_item row.item.worker row.item.serial fits.item_worker fits.item_serial) (plain_number row.amount fits.amount) (plain_number row.time fits.time);
      unmarked = λ rest. rw (bid_line row rest) (no_mark w _ worker);
      says = λ workers place below. row_says kind.Bid (said_of (Bid row)).request w bid_word (b ∷ i ∷ a ∷ t ∷ []) worker refl refl
          (rw (number_of 32 row.bidder fits.bidder few, item_of row.item.worker row.item.serial fits.item_worker fits.item_serial, number_of 64 row.amount fits.amount fits.amount, number_of 64 row.time fits.time fits.time) refl)
          workers place below;
    }

abbrev buy_word : List ℕ
buy_word = 43 ∷ 98 ∷ 117 ∷ 121 ∷ 110 ∷ 111 ∷ 119 ∷ []

-- the line of a purchase
buy_line : (row : BuyRow) (rest : List ℕ) → row_line (Buy row) ++ rest
    ≡ decimal row.id.worker ++ (44 ∷ (buy_word ++ (44 ∷ (decimal row.buyer ++ (44 ∷ (id_text row.item.worker row.item.serial ++ (44 ∷ (decimal row.quantity ++ (44 ∷ (decimal row.time ++ ((10 ∷ []) ++ rest)))))))))))
buy_line row rest = simp append_assoc refl

pub buy_read : (row : BuyRow) → row.id.worker < 2 ^ 32 → IsInRange (Buy row) → IsReadAs (row_line (Buy row)) (said_of (Buy row))
unfolding field_at
buy_read row worker fits =
    let w = row.id.worker in let b = decimal row.buyer in
    let i = id_text row.item.worker row.item.serial in let q = decimal row.quantity in
    let t = decimal row.time in let few = below_64 row.buyer fits.buyer in
    let most : row.quantity < 2 ^ 64 = omega (arith, fits.few) in record {
      fields = decimal w ∷ buy_word ∷ b ∷ i ∷ q ∷ t ∷ [];
      reads = λ rest. six_read (row_line (Buy row) ++ rest) (decimal w) buy_word b i q t rest (buy_line row rest) (plain_number w (below_64 w worker)) refl (plain_number row.buyer few)
          (plain_item row.item.worker row.item.serial fits.item_worker fits.item_serial) (plain_number row.quantity most) (plain_number row.time fits.time);
      unmarked = λ rest. rw (buy_line row rest) (no_mark w _ worker);
      says = λ workers place below. row_says kind.BuyNow (said_of (Buy row)).request w buy_word (b ∷ i ∷ q ∷ t ∷ []) worker refl refl
          (rw (number_of 32 row.buyer fits.buyer few, item_of row.item.worker row.item.serial fits.item_worker fits.item_serial, quantity_of row.quantity fits.some fits.few, number_of 64 row.time fits.time fits.time) refl)
          workers place below;
    }

-- bytes between quotes, each quote doubled
plain_first : (b : ℕ) (rest tail : List ℕ) → (b == 34) ≡ false → flat_map byte_in_quotes (b ∷ rest) ++ (34 ∷ tail) ≡ b ∷ (flat_map byte_in_quotes rest ++ (34 ∷ tail))
plain_first b rest tail other = rw other refl

plain_joins : (fields : List (List ℕ)) (field : List ℕ) (b : ℕ) (tail : List ℕ) → (b == 34) ≡ false
    → next_record default_config st.InQuoted fields field (b ∷ tail) ≡ next_record default_config st.InQuoted fields (field ++ (b ∷ [])) tail
unfolding next_record
plain_joins fields field b tail other = rw other refl

in_quotes : (fields : List (List ℕ)) (field x tail : List ℕ)
    → next_record default_config st.InQuoted fields field (flat_map byte_in_quotes x ++ (34 ∷ tail)) ≡ next_record default_config st.AfterQuote fields (field ++ x) tail
unfolding next_record
in_quotes fields field [] tail = rw (append-nil field) refl
in_quotes fields field (b ∷ rest) tail = elim (cases_Bool (b == 34)) [
  | inl same ↦
      let is : b ≡ 34 = eqb-true b 34 same in
      rw is (in_quotes fields (field ++ (34 ∷ [])) rest tail
      ∙ ap (λ (f : List ℕ). next_record default_config st.AfterQuote fields f tail) (append_assoc field (34 ∷ []) rest))
  | inr other ↦
      rw (plain_first b rest tail other) (plain_joins fields field b _ other ∙ in_quotes fields (field ++ (b ∷ [])) rest tail
      ∙ ap (λ (f : List ℕ). next_record default_config st.AfterQuote fields f tail) (append_assoc field (b ∷ []) rest))
]

-- a field in quotes, and the comma behind it
name_and_comma : (text : List ℕ) (fields : List (List ℕ)) (x rest : List ℕ) → HasRead text fields (34 ∷ (flat_map byte_in_quotes x ++ (34 ∷ 44 ∷ rest))) → HasRead text (fields ++ (x ∷ [])) rest
unfolding next_record
name_and_comma text fields x rest read = read ∙ in_quotes fields [] x (44 ∷ rest)

name_is : (x : List ℕ) → IsName x → name x ≡ Some x
name_is x named = rw (name_tested x named) refl

abbrev item_word : List ℕ
item_word = 43 ∷ 105 ∷ 116 ∷ 101 ∷ 109 ∷ []

abbrev item_comma : List ℕ
item_comma = 44 ∷ 43 ∷ 105 ∷ 116 ∷ 101 ∷ 109 ∷ 44 ∷ []

all_pieces : (w m s k c o n a z t q f rest : List ℕ)
    → ((((w ++ ((((m ++ s) ++ (k ++ c)) ++ k) ++ ((o ++ n) ++ o))) ++ ((((k ++ a) ++ (k ++ z)) ++ (k ++ t)) ++ (k ++ q))) ++ f)) ++ rest
    ≡ w ++ (m ++ (s ++ (k ++ (c ++ (k ++ (o ++ (n ++ (o ++ (k ++ (a ++ (k ++ (z ++ (k ++ (t ++ (k ++ (q ++ (f ++ rest)))))))))))))))))
all_pieces w m s k c o n a z t q f rest = simp append_assoc

item_shape : (w s c n a z t q rest : List ℕ)
    → ((((w ++ ((((item_comma ++ s) ++ ((44 ∷ []) ++ c)) ++ (44 ∷ [])) ++ ((34 ∷ n) ++ (34 ∷ [])))) ++ (((((44 ∷ []) ++ a) ++ ((44 ∷ []) ++ z)) ++ ((44 ∷ []) ++ t)) ++ ((44 ∷ []) ++ q))) ++ (10 ∷ []))) ++ rest
    ≡ w ++ (44 ∷ (item_word ++ (44 ∷ (s ++ (44 ∷ (c ++ (44 ∷ (34 ∷ (n ++ (34 ∷ 44 ∷ (a ++ (44 ∷ (z ++ (44 ∷ (t ++ (44 ∷ (q ++ ((10 ∷ []) ++ rest))))))))))))))))))
item_shape w s c n a z t q rest = all_pieces w item_comma s (44 ∷ []) c (34 ∷ []) n a z t q (10 ∷ []) rest

-- the line of an item
item_line : (row : ItemRow) (rest : List ℕ) → row_line (Item row) ++ rest
    ≡ decimal row.id.worker ++ (44 ∷ (item_word ++ (44 ∷ (decimal row.facts.seller ++ (44 ∷ (decimal row.facts.category ++ (44 ∷ (34 ∷ (flat_map byte_in_quotes row.facts.name ++ (34 ∷ 44 ∷ (decimal row.facts.start ++ (44 ∷ (decimal row.facts.closes ++ (44 ∷ (decimal row.time ++ (44 ∷ (decimal row.facts.quantity ++ ((10 ∷ []) ++ rest))))))))))))))))))
item_line row rest = item_shape (decimal row.id.worker) (decimal row.facts.seller) (decimal row.facts.category) (flat_map byte_in_quotes row.facts.name) (decimal row.facts.start) (decimal row.facts.closes) (decimal row.time) (decimal row.facts.quantity) rest

pub item_read : (row : ItemRow) → row.id.worker < 2 ^ 32 → IsInRange (Item row) → IsReadAs (row_line (Item row)) (said_of (Item row))
unfolding field_at
item_read row worker fits =
    let w = row.id.worker in let f = fits in let s = decimal row.facts.seller in
    let c = decimal row.facts.category in let n = row.facts.name in
    let a = decimal row.facts.start in let z = decimal row.facts.closes in
    let t = decimal row.time in let q = decimal row.facts.quantity in
    let most : row.facts.quantity < 2 ^ 64 = omega (arith, f.few) in record {
      fields = decimal w ∷ item_word ∷ s ∷ c ∷ n ∷ a ∷ z ∷ t ∷ q ∷ [];
      reads = λ rest.
          let line = row_line (Item row) ++ rest in let r8 = q ++ ((10 ∷ []) ++ rest) in
          let r7 = t ++ (44 ∷ r8) in let r6 = z ++ (44 ∷ r7) in let r5 = a ++ (44 ∷ r6) in
          let r4 = 34 ∷ (flat_map byte_in_quotes n ++ (34 ∷ 44 ∷ r5)) in let r3 = c ++ (44 ∷ r4) in
          let r2 = s ++ (44 ∷ r3) in let r1 = item_word ++ (44 ∷ r2) in
          let one : HasRead line (decimal w ∷ []) r1 = rw (item_line row rest) (first_and_comma (decimal w) r1 (plain_number w (below_64 w worker))) in
          let two = next_and_comma line (decimal w ∷ []) item_word r2 one refl in
          let three = next_and_comma line (decimal w ∷ item_word ∷ []) s r3 two (plain_number row.facts.seller (below_64 row.facts.seller f.seller)) in
          let four = next_and_comma line (decimal w ∷ item_word ∷ s ∷ []) c r4 three (plain_number row.facts.category (below_64 row.facts.category f.category)) in
          let five = name_and_comma line (decimal w ∷ item_word ∷ s ∷ c ∷ []) n r5 four in
          let six = next_and_comma line (decimal w ∷ item_word ∷ s ∷ c ∷ n ∷ []) a r6 five (plain_number row.facts.start f.start) in
          let seven = next_and_comma line (decimal w ∷ item_word ∷ s ∷ c ∷ n ∷ a ∷ []) z r7 six (plain_number row.facts.closes f.closes) in
          let eight = next_and_comma line (decimal w ∷ item_word ∷ s ∷ c ∷ n ∷ a ∷ z ∷ []) t r8 seven (plain_number row.time fits.time) in
          last_and_end line (decimal w ∷ item_word ∷ s ∷ c ∷ n ∷ a ∷ z ∷ t ∷ []) q (10 ∷ []) rest eight (plain_number row.facts.quantity most) (inl refl);
      unmarked = λ rest. rw (item_line row rest) (no_mark w _ worker);
      says = λ workers place below. row_says kind.Item (said_of (Item row)).request w item_word (s ∷ c ∷ n ∷ a ∷ z ∷ t ∷ q ∷ []) worker refl refl
          (rw (
            number_of 32 row.facts.seller f.seller (below_64 row.facts.seller f.seller),
            number_of 32 row.facts.category f.category (below_64 row.facts.category f.category),
            name_is n f.name,
            number_of 64 row.facts.start f.start f.start,
            number_of 64 row.facts.closes f.closes f.closes,
            number_of 64 row.time fits.time fits.time,
            quantity_of row.facts.quantity f.some f.few,
          ) refl)
          workers place below;
    }

-- the text of stars
stars_more : (k : ℕ) → k ≤ 5 → (stars (decimal k) ≡ stars_of (pos k)) × (is_plain (decimal k) ≡ true)
stars_more k few =
    let d = decimal_digit k (omega (arith, few)) in
    let low : nat_le 48 (48 + k) ≡ true = le-leb 48 (48 + k) (omega arith) in
    let high : nat_le (48 + k) 53 ≡ true = le-leb (48 + k) 53 (omega (arith, few)) in
    let same : 48 + k - 48 ≡ k = omega arith in
    (rw d (rw (low, high, same) refl), plain_number k (omega (arith, few)))

stars_less : (k : ℕ) → k ≤ 4 → (stars (45 ∷ decimal (suc k)) ≡ stars_of (negsuc k)) × (is_plain (45 ∷ decimal (suc k)) ≡ true)
stars_less k few =
    let d = decimal_digit (suc k) (omega (arith, few)) in
    let low : nat_le 49 (48 + suc k) ≡ true = le-leb 49 (48 + suc k) (omega arith) in
    let high : nat_le (48 + suc k) 53 ≡ true = le-leb (48 + suc k) 53 (omega (arith, few)) in
    let same : 48 + suc k - 49 ≡ k = omega arith in
    (rw d (rw (low, high, same) refl), minus_plain (decimal (suc k)) (digits (suc k) (omega (arith, few))))

pub is_true_of : (b : Bool) → T b → b ≡ true
is_true_of true sure = refl
is_true_of false never = absurd never

stars_text : (v : ℤ) → negsuc 4 ≤ℤ v → v ≤ℤ pos 5 → (stars (signed_decimal v) ≡ stars_of v) × (is_plain (signed_decimal v) ≡ true)
stars_text (pos k) low high = stars_more k (leb-true k 5 (is_true_of _ high.le))
stars_text (negsuc k) low high = stars_less k (leb-true k 4 (is_true_of _ low.le))

stars_back : (s : Stars) → (stars (signed_decimal s.value) ≡ Some s) × (is_plain (signed_decimal s.value) ≡ true)
stars_back s =
    let t = stars_text s.value s.at_least s.at_most in
    (t.0 ∙ sym (stars_found s s.value refl), t.1)

abbrev comment_word : List ℕ
comment_word = 43 ∷ 99 ∷ 111 ∷ 109 ∷ 109 ∷ 101 ∷ 110 ∷ 116 ∷ []

-- the line of a comment
comment_line : (row : CommentRow) (rest : List ℕ) → row_line (Comment row) ++ rest
    ≡ decimal row.id.worker ++ (44 ∷ (comment_word ++ (44 ∷ (decimal row.author ++ (44 ∷ (decimal row.about ++ (44 ∷ (id_text row.item.worker row.item.serial ++ (44 ∷ (signed_decimal row.stars.value ++ ((10 ∷ []) ++ rest)))))))))))
comment_line row rest = simp append_assoc refl

pub comment_read : (row : CommentRow) → row.id.worker < 2 ^ 32 → IsInRange (Comment row) → IsReadAs (row_line (Comment row)) (said_of (Comment row))
unfolding field_at
comment_read row worker fits =
    let w = row.id.worker in let a = decimal row.author in let b = decimal row.about in
    let i = id_text row.item.worker row.item.serial in let s = signed_decimal row.stars.value in
    let given = stars_back row.stars in record {
      fields = decimal w ∷ comment_word ∷ a ∷ b ∷ i ∷ s ∷ [];
      reads = λ rest. six_read (row_line (Comment row) ++ rest) (decimal w) comment_word a b i s rest (comment_line row rest) (plain_number w (below_64 w worker)) refl
          (plain_number row.author (below_64 row.author fits.author)) (plain_number row.about (below_64 row.about fits.about)) (plain_item row.item.worker row.item.serial fits.item_worker fits.item_serial) given.1;
      unmarked = λ rest. rw (comment_line row rest) (no_mark w _ worker);
      says = λ workers place below. row_says kind.Comment (said_of (Comment row)).request w comment_word (a ∷ b ∷ i ∷ s ∷ []) worker refl refl
          (rw (number_of 32 row.author fits.author (below_64 row.author fits.author), number_of 32 row.about fits.about (below_64 row.about fits.about), item_of row.item.worker row.item.serial fits.item_worker fits.item_serial, given.0) refl)
          workers place below;
    }

-- each row's line is one record, which says the row
pub line_read : (row : Row) → worker_of row < 2 ^ 32 → IsInRange row → IsReadAs (row_line row) (said_of row)
line_read (Item row) worker fits = item_read row worker fits
line_read (Bid row) worker fits = bid_read row worker fits
line_read (Comment row) worker fits = comment_read row worker fits
line_read (Buy row) worker fits = buy_read row worker fits
