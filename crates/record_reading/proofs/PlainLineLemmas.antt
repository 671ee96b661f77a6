-- Plain lines that are read in place say what their records say.
use Rattle.std.proofs.Common.{arith, ◌≡◌, ◌<◌, ◌+◌, ◌∷◌, ◌++◌, ◌∙◌, [], ℕ, suc, List, Ok, Option, Some, None, IfSome, Bool, true, false, nat_lt, drop, get_or, length, refl, sym, ap, append_assoc, add-one, drop-cons}
use Rattle.std.proofs.lemmas.{Bool.{lt-ltb}, Grind.{common_steps}}
use Rattle.csv.specs.Records.{field_at}
use Rattle.auction_rows.specs.declared.{values.Stars.Stars, requests.ItemId.ItemId, requests.Request.Request}
use Rattle.auction_rows.specs.declared.requests.Request.TheVariants as request
use Rattle.record_reading.proofs.LineLemmas.{first_and_comma, next_and_comma}
use Rattle.record_reading.proofs.PlainFieldLemmas.{comma_in_place, digits_no_bom, digits_plain, end_in_place}
use Rattle.record_reading.specs.{Fields.{name, quantity, stars}, Kinds.{has_count, kind_of}}
use Rattle.record_reading.specs.{Lines.{IsLine}, Records.{put_up, request_of}}
use Rattle.record_reading.specs.declared.fields.RequestKind.{RequestKind}
use Rattle.record_reading.specs.inner.PlainLines.{HasRead, HasWordAt, IsEndOfItem, IsFieldTo, IsItemTo, IsLastField, IsLastItem, IsLastNumber, IsNumberTo, IsPutUp, IsRequestAt, IsRestOf, is_plain}
use Rattle.record_reading.specs.inner.QuotedFields.{HasNextField}
use Rattle.record_reading.specs.declared.fields.RequestKind.TheVariants as kind

-- the fields of a bid
pub bid_in_place : (text : List ℕ) (at bidder at_item : ℕ) (item : ItemId) (at_amount amount at_time time next : ℕ)
    → IsNumberTo text at 44 32 bidder at_item → IsItemTo text at_item 44 item at_amount → IsNumberTo text at_amount 44 64 amount at_time → IsLastNumber text at_time 64 time next
    → IsRestOf kind.Bid text at (request.StoreBid bidder item amount time) next
unfolding field_at
bid_in_place text at bidder at_item item at_amount amount at_time time next b i a t = record {
  fields = b.field ∷ i.field ∷ a.field ∷ t.field ∷ [];
  reads = λ more line before read.
      let one = comma_in_place text at at_item b.field more line before (digits_plain b.field b.digits) b.there read in
      let two = comma_in_place text at_item at_amount i.field more line (before ++ (b.field ∷ [])) i.plain i.there one in
      let three = comma_in_place text at_amount at_time a.field more line ((before ++ (b.field ∷ [])) ++ (i.field ∷ [])) (digits_plain a.field a.digits) a.there two in
      let four = end_in_place text at_time next t.field more line (((before ++ (b.field ∷ [])) ++ (i.field ∷ [])) ++ (a.field ∷ [])) (digits_plain t.field t.digits) t.there three in
      simp append_assoc at four;
  count = λ worker word. refl;
  says = λ worker word. rw (b.is, i.is, a.is, t.is) refl;
  after = omega (arith, b.there.after, i.there.after, a.there.after, t.there.after);
  within = t.there.within;
}

-- the last field alone
last_alone : (k : RequestKind) (asked : Request) (text : List ℕ) (at next : ℕ) (field : List ℕ) → IsLastField text at next field → is_plain field ≡ true
    → ((worker word : List ℕ) → has_count k (length (worker ∷ word ∷ field ∷ [])) ≡ true) → ((worker word : List ℕ) → request_of k (worker ∷ word ∷ field ∷ []) ≡ Ok asked)
    → IsRestOf k text at asked next
last_alone k asked text at next field there plain count says = record {
  fields = field ∷ [];
  reads = λ more line before read. end_in_place text at next field more line before plain there read;
  count = count;
  says = says;
  after = there.after;
  within = there.within;
}

pub view_item_in_place : (text : List ℕ) (at : ℕ) (item : ItemId) (next : ℕ) → IsLastItem text at item next → IsRestOf kind.ViewItem text at (request.ViewItem item) next
unfolding field_at
view_item_in_place text at item next i = last_alone kind.ViewItem (request.ViewItem item) text at next i.field i.there i.plain (λ worker word. refl) (λ worker word. rw i.is refl)

pub view_bids_in_place : (text : List ℕ) (at : ℕ) (item : ItemId) (next : ℕ) → IsLastItem text at item next → IsRestOf kind.ViewBids text at (request.ViewBids item) next
unfolding field_at
view_bids_in_place text at item next i = last_alone kind.ViewBids (request.ViewBids item) text at next i.field i.there i.plain (λ worker word. refl) (λ worker word. rw i.is refl)

pub view_category_in_place : (text : List ℕ) (at category next : ℕ) → IsLastNumber text at 32 category next → IsRestOf kind.ViewCategory text at (request.ViewCategory category) next
unfolding field_at
view_category_in_place text at category next n =
    last_alone kind.ViewCategory (request.ViewCategory category) text at next n.field n.there (digits_plain n.field n.digits) (λ worker word. refl) (λ worker word. rw n.is refl)

pub view_user_in_place : (text : List ℕ) (at user next : ℕ) → IsLastNumber text at 32 user next → IsRestOf kind.ViewUser text at (request.ViewUser user) next
unfolding field_at
view_user_in_place text at user next n =
    last_alone kind.ViewUser (request.ViewUser user) text at next n.field n.there (digits_plain n.field n.digits) (λ worker word. refl) (λ worker word. rw n.is refl)

-- the fields of a comment
pub comment_in_place : (text : List ℕ) (at author at_about about at_item : ℕ) (item : ItemId) (at_stars : ℕ) (last : List ℕ) (given : Stars) (next : ℕ)
    → IsNumberTo text at 44 32 author at_about → IsNumberTo text at_about 44 32 about at_item → IsItemTo text at_item 44 item at_stars
    → IsLastField text at_stars next last → is_plain last ≡ true → stars last ≡ Some given
    → IsRestOf kind.Comment text at (request.StoreComment author about item given) next
unfolding field_at
comment_in_place text at author at_about about at_item item at_stars last given next a b i there plain is = record {
  fields = a.field ∷ b.field ∷ i.field ∷ last ∷ [];
  reads = λ more line before read.
      let one = comma_in_place text at at_about a.field more line before (digits_plain a.field a.digits) a.there read in
      let two = comma_in_place text at_about at_item b.field more line (before ++ (a.field ∷ [])) (digits_plain b.field b.digits) b.there one in
      let three = comma_in_place text at_item at_stars i.field more line ((before ++ (a.field ∷ [])) ++ (b.field ∷ [])) i.plain i.there two in
      let four = end_in_place text at_stars next last more line (((before ++ (a.field ∷ [])) ++ (b.field ∷ [])) ++ (i.field ∷ [])) plain there three in
      simp append_assoc at four;
  count = λ worker word. refl;
  says = λ worker word. rw (a.is, b.is, i.is, is) refl;
  after = omega (arith, a.there.after, b.there.after, i.there.after, there.after);
  within = there.within;
}

-- the fields of a purchase
pub buy_in_place : (text : List ℕ) (at buyer at_item : ℕ) (item : ItemId) (at_quantity : ℕ) (middle : List ℕ) (wanted at_time time next : ℕ)
    → IsNumberTo text at 44 32 buyer at_item → IsItemTo text at_item 44 item at_quantity → IsFieldTo text at_quantity 44 at_time middle → is_plain middle ≡ true
    → quantity middle ≡ Some wanted → IsLastNumber text at_time 64 time next → IsRestOf kind.BuyNow text at (request.BuyNow buyer item wanted time) next
unfolding field_at
buy_in_place text at buyer at_item item at_quantity middle wanted at_time time next b i there plain is t = record {
  fields = b.field ∷ i.field ∷ middle ∷ t.field ∷ [];
  reads = λ more line before read.
      let one = comma_in_place text at at_item b.field more line before (digits_plain b.field b.digits) b.there read in
      let two = comma_in_place text at_item at_quantity i.field more line (before ++ (b.field ∷ [])) i.plain i.there one in
      let three = comma_in_place text at_quantity at_time middle more line ((before ++ (b.field ∷ [])) ++ (i.field ∷ [])) plain there two in
      let four = end_in_place text at_time next t.field more line (((before ++ (b.field ∷ [])) ++ (i.field ∷ [])) ++ (middle ∷ [])) (digits_plain t.field t.digits) t.there three in
      simp append_assoc at four;
  count = λ worker word. refl;
  says = λ worker word. rw (b.is, i.is, is, t.is) refl;
  after = omega (arith, b.there.after, i.there.after, there.after, t.there.after);
  within = t.there.within;
}

-- the time and the quantity of an item, or its time alone
pub end_of_one : (text : List ℕ) (at time next : ℕ) → IsLastNumber text at 64 time next → IsEndOfItem text at time 1 next
end_of_one text at time next t = record {
  first = t.field;
  others = [];
  reads = λ more line before read. end_in_place text at next t.field more line before (digits_plain t.field t.digits) t.there read;
  time_is = t.is;
  count_is = refl;
  after = t.there.after;
  within = t.there.within;
}

pub end_of_two : (text : List ℕ) (at time at_quantity count : ℕ) (last : List ℕ) (next : ℕ) → IsNumberTo text at 44 64 time at_quantity
    → IsLastField text at_quantity next last → is_plain last ≡ true → quantity last ≡ Some count → IsEndOfItem text at time count next
end_of_two text at time at_quantity count last next t there plain is = record {
  first = t.field;
  others = last ∷ [];
  reads = λ more line before read.
      let one = comma_in_place text at at_quantity t.field more line before (digits_plain t.field t.digits) t.there read in
      let two = end_in_place text at_quantity next last more line (before ++ (t.field ∷ [])) plain there one in
      simp append_assoc at two;
  time_is = t.is;
  count_is = is;
  after = omega (arith, t.there.after, there.after);
  within = there.within;
}

-- an item's line has eight fields, or nine
eight_or_nine : (others : List (List ℕ)) (count : ℕ) → IsPutUp others count → (a b c d e f g h : List ℕ) → has_count kind.Item (length (a ∷ b ∷ c ∷ d ∷ e ∷ f ∷ g ∷ h ∷ others)) ≡ true
eight_or_nine (q ∷ r ∷ s) count is a b c d e f g h = absurd is
eight_or_nine others count is a b c d e f g h = refl

put_up_is : (others : List (List ℕ)) (count : ℕ) → IsPutUp others count → (a b c d e f g h : List ℕ) → put_up (a ∷ b ∷ c ∷ d ∷ e ∷ f ∷ g ∷ h ∷ others) ≡ Ok count
unfolding field_at
put_up_is [] count is a b c d e f g h = ap Ok (sym is)
put_up_is (q ∷ []) count is a b c d e f g h = rw is refl
put_up_is (q ∷ r ∷ s) count is a b c d e f g h = absurd is

-- the fields of an item
pub item_in_place : (text : List ℕ) (at seller at_category category at_name : ℕ) (middle called : List ℕ) (at_start start at_closes closes at_time time count next : ℕ)
    → IsNumberTo text at 44 32 seller at_category → IsNumberTo text at_category 44 32 category at_name → HasNextField text at_name middle at_start → name middle ≡ Some called
    → IsNumberTo text at_start 44 64 start at_closes → IsNumberTo text at_closes 44 64 closes at_time → IsEndOfItem text at_time time count next
    → IsRestOf kind.Item text at (request.StoreItem (record { seller = seller; category = category; name = called; start = start; closes = closes; quantity = count }) time) next
unfolding field_at
item_in_place text at seller at_category category at_name middle called at_start start at_closes closes at_time time count next s c there is a b t = record {
  fields = s.field ∷ c.field ∷ middle ∷ a.field ∷ b.field ∷ t.first ∷ t.others;
  reads = λ more line before read.
      let one = comma_in_place text at at_category s.field more line before (digits_plain s.field s.digits) s.there read in
      let two = comma_in_place text at_category at_name c.field more line (before ++ (s.field ∷ [])) (digits_plain c.field c.digits) c.there one in
      let three = there.reads more line ((before ++ (s.field ∷ [])) ++ (c.field ∷ [])) two in
      let four = comma_in_place text at_start at_closes a.field more line (((before ++ (s.field ∷ [])) ++ (c.field ∷ [])) ++ (middle ∷ [])) (digits_plain a.field a.digits) a.there three in
      let five = comma_in_place text at_closes at_time b.field more line ((((before ++ (s.field ∷ [])) ++ (c.field ∷ [])) ++ (middle ∷ [])) ++ (a.field ∷ [])) (digits_plain b.field b.digits) b.there four in
      let six = t.reads more line (((((before ++ (s.field ∷ [])) ++ (c.field ∷ [])) ++ (middle ∷ [])) ++ (a.field ∷ [])) ++ (b.field ∷ [])) five in
      simp append_assoc at six;
  count = λ worker word. eight_or_nine t.others count t.count_is worker word s.field c.field middle a.field b.field t.first;
  says = λ worker word. rw (s.is, c.is, is, a.is, b.is, t.time_is, put_up_is t.others count t.count_is worker word s.field c.field middle a.field b.field t.first) refl;
  after = omega (arith, s.there.after, c.there.after, there.after, a.there.after, b.there.after, t.after);
  within = t.within;
}

pub some_weaker : {X : Type 0} (o : Option X) (P Q : X → Type 0) → ((x : X) → P x → Q x) → IfSome o P → IfSome o Q
some_weaker None P Q f h = tt
some_weaker (Some x) P Q f h = f x h

-- a row's word is a plus and a store's word
pub row_at : (text : List ℕ) (before at : ℕ) (word : List ℕ) (k : RequestKind) (asked : Request) (next : ℕ) → before + 1 ≡ at → get_or text before 0 ≡ 43 → is_plain (43 ∷ word) ≡ true
    → kind_of (43 ∷ word) ≡ Some (record { is_row = true; request = k }) → HasWordAt text at (word ++ (44 ∷ [])) → IsRestOf k text (at + length (word ++ (44 ∷ []))) asked next
    → IsRequestAt true text before asked next
row_at text before at word k asked next place plus plain named has rest =
    let long = length (word ++ (44 ∷ [])) in
    let inside : before < length text = omega (arith, has.more) in
    let same : before + suc long ≡ at + long = omega arith in
    let text_is : drop before text ≡ 43 ∷ drop at text = rw (← place, add-one, ← plus) (drop-cons text before 0 inside) in
    record {
      word = 43 ∷ word;
      kind = k;
      plain = plain;
      named = named;
      there = record {
        text_is = text_is ∙ ap (λ (r : List ℕ). 43 ∷ r) has.text_is ∙ (rw same refl);
        more = omega (arith, has.more);
      };
      rest = rw same rest;
    }

-- a line of a worker and a request
pub line_in_place : (text : List ℕ) (at worker at_word : ℕ) (is_row : Bool) (asked : Request) (next : ℕ) → IsNumberTo text at 44 32 worker at_word → IsRequestAt is_row text at_word asked next
    → IsLine text at (record { is_row = is_row; worker = worker; request = asked }) next
unfolding field_at
line_in_place text at worker at_word is_row asked next w r =
    let word = r.word in let has = r.there in let rest = r.rest in
    let at_rest = at_word + length (word ++ (44 ∷ [])) in
    let first_is : (more : List ℕ) → drop at text ++ more ≡ w.field ++ (44 ∷ (drop at_word text ++ more)) =
    λ more. ap (λ (r : List ℕ). r ++ more) w.there.text_is ∙ append_assoc w.field (44 ∷ drop at_word text) more in
    let after_word : drop at_word text ≡ word ++ (44 ∷ drop at_rest text) = has.text_is ∙ append_assoc word (44 ∷ []) _ in
    record {
      fields = w.field ∷ word ∷ rest.fields;
      reads = λ more.
          let line = drop at text ++ more in
          let one : HasRead line (w.field ∷ []) (drop at_word text ++ more) = rw (first_is more) (first_and_comma w.field (drop at_word text ++ more) (digits_plain w.field w.digits)) in
          let word_is : drop at_word text ++ more ≡ word ++ (44 ∷ (drop at_rest text ++ more)) = ap (λ (r : List ℕ). r ++ more) after_word ∙ append_assoc word (44 ∷ drop at_rest text) more in
          let two : HasRead line (w.field ∷ word ∷ []) (drop at_rest text ++ more) = next_and_comma line (w.field ∷ []) word (drop at_rest text ++ more) (rw word_is at one) r.plain in
          rest.reads more line (w.field ∷ word ∷ []) two;
      unmarked = λ more. rw (first_is more) (digits_no_bom w.field 44 (drop at_word text ++ more) w.digits refl);
      says = λ workers number begun below early.
          let few : nat_lt worker workers ≡ true = lt-ltb worker workers below in
          let many : nat_lt (length (w.field ∷ word ∷ rest.fields)) 2 ≡ false = grind (arith, common_steps) in
          rw (w.is, few, many, r.named, early, rest.count w.field word, rest.says w.field word) refl;
      after = omega (arith, w.there.after, rest.after);
      within = rest.within;
    }
