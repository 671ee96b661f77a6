-- Fields that are read in place are those of a whole line, whatever is behind it.
use Rattle.std.proofs.Common.{arith, ◌≡◌, ◌==◌, ◌≤◌, ◌<◌, ◌+◌, ◌-◌, ◌&&◌, ◌∷◌, ◌++◌, ◌∙◌, [], ℕ, suc, Bool, List, true, false, not, drop, get_or, length, take, refl, sym, ap, append_assoc}
use Rattle.std.proofs.Math.Seq.{take-append-add, take-append_seam}
use Rattle.std.proofs.lemmas.Bool.{and_from, and_parts}
use Rattle.std.proofs.lemmas.List.{drop-take, get_or-take, length-append, length-drop, length-take-le}
use Rattle.std.specs.{Char.{is_ascii_digit}, List.{list_all}}
use Rattle.auction_rows.specs.declared.requests.ItemId.{ItemId}
use Rattle.auction_rows.specs.declared.requests.Request.TheVariants as request
use Rattle.record_reading.proofs.PlainFieldLemmas.{digits_join, number_to_feed}
use Rattle.record_reading.proofs.PlainLineLemmas.{bid_in_place}
use Rattle.record_reading.specs.Lines.{IsWhole, has_no_feed}
use Rattle.record_reading.specs.inner.PlainLines.{HasLineTo, HasWordAt, IsFieldTo, IsItemTo, IsNumberTo, IsRestOf, is_plain, is_quoted, joins}
use Rattle.record_reading.specs.declared.fields.RequestKind.TheVariants as kind

-- no feed in two texts
pub no_feed_both : (x y : List ℕ) → has_no_feed x ≡ true → has_no_feed y ≡ true → has_no_feed (x ++ y) ≡ true
no_feed_both [] y none also = also
no_feed_both (b ∷ x) y none also =
    let p = and_parts (not (b == 10)) (has_no_feed x) none in
    rw p.0 (no_feed_both x y p.1 also)

pub not_so : (b : Bool) → (b ≡ true → ⊥) → not b ≡ true
not_so true e = absurd (e refl)
not_so false e = refl

-- a text where no place has one has none
pub no_feed_in : (xs : List ℕ) → ((j : ℕ) → j < length xs → (get_or xs j 0 == 10) ≡ true → ⊥) → has_no_feed xs ≡ true
no_feed_in [] none = refl
no_feed_in (b ∷ xs) none =
    let first : not (b == 10) ≡ true = not_so (b == 10) (none 0 (omega arith)) in
    rw first (no_feed_in xs (λ j less. none (suc j) (omega (arith, less))))

-- no byte that joins a field is a line feed
joins_no_feed : (xs : List ℕ) → list_all joins xs ≡ true → has_no_feed xs ≡ true
joins_no_feed [] all = refl
joins_no_feed (x ∷ xs) all =
    let p = and_parts (joins x) (list_all joins xs) all in
    let q = and_parts (not (x == 44)) (not (x == 13) && not (x == 10)) p.0 in
    and_from (not (x == 10)) (has_no_feed xs) (and_parts (not (x == 13)) (not (x == 10)) q.1).1 (joins_no_feed xs p.1)

plain_no_feed : (xs : List ℕ) → is_plain xs ≡ true → has_no_feed xs ≡ true
plain_no_feed xs plain = joins_no_feed xs (and_parts (not (is_quoted xs)) (list_all joins xs) plain).1

digits_no_feed : (xs : List ℕ) → list_all is_ascii_digit xs ≡ true → has_no_feed xs ≡ true
digits_no_feed xs digits = joins_no_feed xs (digits_join xs digits)

-- how long what is in front of the rest of a text is
front_len : (text front : List ℕ) (from next : ℕ) → drop from text ≡ front ++ drop next text → from < next → next ≤ length text → length front ≡ next - from
front_len text front from next is after within = omega (arith, length-drop from text, length-drop next text, ap length is, length-append front (drop next text), after, within)

field_front : (text : List ℕ) (from stop next : ℕ) (field : List ℕ) → IsFieldTo text from stop next field → drop from text ≡ (field ++ (stop ∷ [])) ++ drop next text
field_front text from stop next field there = there.text_is ∙ sym (append_assoc field (stop ∷ []) (drop next text))

-- the rest of a line, from its last field back
module _ (text : List ℕ) where
  pub line_last : (from next : ℕ) (field : List ℕ) → IsFieldTo text from 10 next field → has_no_feed field ≡ true → HasLineTo text from next
  line_last from next field there none = record { content = field; no_feed = none; text_is = there.text_is }

  pub line_field : (from stop at next : ℕ) (field : List ℕ) → IsFieldTo text from stop at field → has_no_feed field ≡ true → not (stop == 10) ≡ true → HasLineTo text at next → HasLineTo text from next
  line_field from stop at next field there none other rest = record {
    content = field ++ (stop ∷ rest.content);
    no_feed = no_feed_both field (stop ∷ rest.content) none (and_from (not (stop == 10)) (has_no_feed rest.content) other rest.no_feed);
    text_is = there.text_is ∙ ap (λ (r : List ℕ). field ++ (stop ∷ r)) rest.text_is ∙ sym (append_assoc field (stop ∷ rest.content) (10 ∷ drop next text));
  }

  pub line_word : (at : ℕ) (word : List ℕ) (next : ℕ) → HasWordAt text at word → has_no_feed word ≡ true → HasLineTo text (at + length word) next → HasLineTo text at next
  line_word at word next has none rest = record {
    content = word ++ rest.content;
    no_feed = no_feed_both word rest.content none rest.no_feed;
    text_is = has.text_is ∙ ap (λ (r : List ℕ). word ++ r) rest.text_is ∙ sym (append_assoc word rest.content (10 ∷ drop next text));
  }

  -- such a rest is whole
  pub line_whole : (from next : ℕ) → HasLineTo text from next → from < next → next ≤ length text → IsWhole (take (next - from) (drop from text))
  line_whole from next line after within =
      let front = line.content ++ (10 ∷ []) in
      let is : drop from text ≡ front ++ drop next text = line.text_is ∙ sym (append_assoc line.content (10 ∷ []) (drop next text)) in
      let long : length front ≡ next - from = front_len text front from next is after within in
      let same : take (next - from) (drop from text) ≡ front = rw (← long, is) (take-append_seam front (drop next text)) in
      record { content = line.content; no_feed = line.no_feed; line_is = same }

-- what is read in place before a place is so in the text up to it
module _ (text : List ℕ) (k : ℕ) (fits : k ≤ length text) where
  cut : (from : ℕ) → from ≤ k → drop from (take k text) ≡ take (k - from) (drop from text)
  cut from before =
      let e : from + (k - from) ≡ k = omega arith in
      ap (λ (n : ℕ). drop from (take n text)) (sym e) ∙ drop-take from (k - from) text

  long : length (take k text) ≡ k
  long = length-take-le k text fits

  front_before : (from next : ℕ) (front : List ℕ) → drop from text ≡ front ++ drop next text → from < next → next ≤ k → drop from (take k text) ≡ front ++ drop next (take k text)
  front_before from next front is after before =
      let size : length front ≡ next - from = front_len text front from next is after (omega arith) in
      let split : k - from ≡ length front + (k - next) = omega (arith, size) in
      let mid : take (k - from) (drop from text) ≡ front ++ take (k - next) (drop next text) = rw (split, is) (take-append-add front (drop next text) (k - next)) in
      cut from (omega arith) ∙ mid ∙ ap (λ (r : List ℕ). front ++ r) (sym (cut next before))

  pub field_before : (from stop next : ℕ) (field : List ℕ) → IsFieldTo text from stop next field → next ≤ k → IsFieldTo (take k text) from stop next field
  field_before from stop next field there before = record {
    text_is = front_before from next (field ++ (stop ∷ [])) (field_front text from stop next field there) there.after before ∙ append_assoc field (stop ∷ []) (drop next (take k text));
    after = there.after;
    within = omega (arith, long);
    stop_is = get_or-take k text (next - 1) 0 (omega (arith, there.after)) ∙ there.stop_is;
  }

  pub number_before : (from stop bits value next : ℕ) → IsNumberTo text from stop bits value next → next ≤ k → IsNumberTo (take k text) from stop bits value next
  number_before from stop bits value next n before = record { field = n.field; there = field_before from stop next n.field n.there before; digits = n.digits; is = n.is }

  pub item_before : (from stop : ℕ) (item : ItemId) (next : ℕ) → IsItemTo text from stop item next → next ≤ k → IsItemTo (take k text) from stop item next
  item_before from stop item next i before = record { field = i.field; there = field_before from stop next i.field i.there before; plain = i.plain; is = i.is }

  pub word_before : (at : ℕ) (word : List ℕ) → HasWordAt text at word → 0 < length word → at + length word < k → HasWordAt (take k text) at word
  word_before at word has some before = record {
    text_is = front_before at (at + length word) word has.text_is (omega arith) (omega arith);
    more = omega (arith, long);
  }

-- the fields of a bid, before a line feed
module _ (text : List ℕ) (at bidder at_item : ℕ) (item : ItemId) (at_amount amount at_time time next : ℕ)
    (b : IsNumberTo text at 44 32 bidder at_item) (i : IsItemTo text at_item 44 item at_amount) (a : IsNumberTo text at_amount 44 64 amount at_time) (t : IsNumberTo text at_time 10 64 time next) where
  pub bid_alone : IsRestOf kind.Bid (take next text) at (request.StoreBid bidder item amount time) next
  bid_alone =
      let within = t.there.within in let third : at_time ≤ next = omega (arith, t.there.after) in
      let second : at_amount ≤ next = omega (arith, a.there.after) in
      let first : at_item ≤ next = omega (arith, i.there.after) in
      let whole : next ≤ next = omega arith in
      bid_in_place (take next text) at bidder at_item item at_amount amount at_time time next (number_before text next within at 44 32 bidder at_item b first)
      (item_before text next within at_item 44 item at_amount i second) (number_before text next within at_amount 44 64 amount at_time a third)
      (number_to_feed (take next text) at_time 64 time next (number_before text next within at_time 10 64 time next t whole))

  pub bid_line : HasLineTo text at next
  bid_line =
      let four = line_last text at_time next t.field t.there (digits_no_feed t.field t.digits) in
      let three = line_field text at_amount 44 at_time next a.field a.there (digits_no_feed a.field a.digits) refl four in
      let two = line_field text at_item 44 at_amount next i.field i.there (plain_no_feed i.field i.plain) refl three in
      line_field text at 44 at_item next b.field b.there (digits_no_feed b.field b.digits) refl two

-- its line
module _ (text : List ℕ) (at worker at_word next : ℕ) (word : List ℕ) (w : IsNumberTo text at 44 32 worker at_word) (has : HasWordAt text at_word word)
    (none : has_no_feed word ≡ true) (rest : HasLineTo text (at_word + length word) next) where
  pub whole_line : at_word + length word < next → next ≤ length text → IsWhole (take (next - at) (drop at text))
  whole_line after within =
      let all = line_field text at 44 at_word next w.field w.there (digits_no_feed w.field w.digits) refl (line_word text at_word word next has none rest) in
      line_whole text at next all (omega (arith, w.there.after)) within
