-- No reply has a line feed in its text.
use Rattle.std.proofs.Common.{◌≡◌, ℕ, ℤ, pos, negsuc, zero, suc, ◌<◌, ◌/◌, ◌%◌, ◌==◌, Bool, true, false, not, cond, List, [], ◌∷◌, ◌++◌, Option, Some, None, refl, ap, ◌∙◌, ◌+◌, arith}
use Rattle.std.proofs.lemmas.{Bool.{eqb-true, and_from}, List.Elements.{All-head, All-tail}}
use Rattle.std.proofs.lemmas.List.Folds.{list_all-append}
use Rattle.std.specs.Fmt.{signed_decimal, digits, digits_onto, digit_glyph}
use Rattle.std.specs.{List.{flat_map, list_all, All}, Prelude.{decimal, codes, nat_lt}}
use Rattle.auction_rows.specs.{Name.{IsPrinting}, Refusals.{refusal_text}}
use Rattle.auction_rows.specs.declared.replies.Refusal.TheVariants.{NoSuchUser}
use Rattle.auction_rows.specs.declared.replies.Reply.TheVariants.{ItemStored, BidStored, CommentStored, Bought, ItemSeen, BidsSeen, CategorySeen, UserSeen, Refused}
use Rattle.auction_rows.specs.declared.replies.{Refusal.Refusal, Reply.Reply, BidShown.BidShown, ItemShown.ItemShown}
use Rattle.auction_text.specs.Replies.{facts_text, state_text, bid_text, item_text, score_text, reply_text}
use Rattle.byte_texts.specs.Labels.{id_text, optional_text, labelled, labelled_optional, labelled_id}
use Rattle.history_check.specs.Texts.{ShowsName}

abbrev pub no_feed : ℕ → Bool
no_feed byte = not (byte == 10)

abbrev pub IsOneLine : List ℕ → Type 0
IsOneLine text = list_all no_feed text ≡ true

pub both : (xs ys : List ℕ) → IsOneLine xs → IsOneLine ys → IsOneLine (xs ++ ys)
both xs ys first second = list_all-append no_feed xs ys ∙ and_from (list_all no_feed xs) (list_all no_feed ys) first second

past_feed : (byte : ℕ) → 10 < byte → no_feed byte ≡ true
past_feed byte past = at (byte == 10) refl where
  at : (b : Bool) → (byte == 10) ≡ b → not (byte == 10) ≡ true
  at true e = absurd (omega (arith, eqb-true byte 10 e))
  at false e = ap not e

-- ---- numbers

glyph_past : (small upper : Bool) (d : ℕ) → 10 < cond small (48 + d) (cond upper (55 + d) (87 + d))
glyph_past true upper d = omega arith
glyph_past false true d = omega arith
glyph_past false false d = omega arith

either : (b : Bool) (xs ys : List ℕ) → IsOneLine xs → IsOneLine ys → IsOneLine (cond b xs ys)
either true xs ys first second = first
either false xs ys first second = second

digits_one : (k base n : ℕ) (upper : Bool) (acc : List ℕ) → IsOneLine acc → IsOneLine (digits_onto k base upper n acc)
digits_one zero base n upper acc one = one
digits_one (suc k) base n upper acc one =
    let glyph = digit_glyph upper (n % base) in
    let next : IsOneLine (glyph ∷ acc) = and_from (no_feed glyph) (list_all no_feed acc) (past_feed glyph (glyph_past (nat_lt (n % base) 10) upper (n % base))) one in
    either (n / base == 0) (glyph ∷ acc) (digits_onto k base upper (n / base) (glyph ∷ acc)) next (digits_one k base (n / base) upper (glyph ∷ acc) next)

pub number_one : (n : ℕ) → IsOneLine (decimal n)
unfolding digits
number_one n = digits_one 64 10 n false [] refl

signed_one : (z : ℤ) → IsOneLine (signed_decimal z)
signed_one (pos n) = number_one n
signed_one (negsuc n) = number_one (suc n)

-- ---- parts of replies

labelled_one : (label : List ℕ) (n : ℕ) → IsOneLine label → IsOneLine (labelled label n)
labelled_one label n one = both label (decimal n) one (number_one n)

optional_one : (n : Option ℕ) → IsOneLine (optional_text n)
optional_one None = refl
optional_one (Some n) = number_one n

labelled_optional_one : (label : List ℕ) (n : Option ℕ) → IsOneLine label → IsOneLine (labelled_optional label n)
labelled_optional_one label n one = both label (optional_text n) one (optional_one n)

four : (a b c d : List ℕ) → IsOneLine a → IsOneLine b → IsOneLine c → IsOneLine d → IsOneLine (a ++ b ++ c ++ d)
four a b c d first second third last = both (a ++ b ++ c) d (both (a ++ b) c (both a b first second) third) last

id_one : (label : List ℕ) (worker serial : ℕ) → IsOneLine label → IsOneLine (labelled_id label worker serial)
id_one label worker serial one =
    both label (id_text worker serial) one (both (decimal worker ++ codes ".") (decimal serial) (both (decimal worker) (codes ".") (number_one worker) refl) (number_one serial))

bid_one : (bid : BidShown) → IsOneLine (bid_text bid)
bid_one bid =
    four (labelled (codes " ") bid.amount) (labelled (codes ":") bid.time) (labelled (codes ":") bid.bidder) (labelled_id (codes ":") bid.id.worker bid.id.serial)
    (labelled_one (codes " ") bid.amount refl) (labelled_one (codes ":") bid.time refl) (labelled_one (codes ":") bid.bidder refl) (id_one (codes ":") bid.id.worker bid.id.serial refl)

item_one : (item : ItemShown) → IsOneLine (item_text item)
item_one item =
    both (labelled (codes " ") item.time) (labelled_id (codes ":") item.id.worker item.id.serial) (labelled_one (codes " ") item.time refl)
    (id_one (codes ":") item.id.worker item.id.serial refl)

each_one : {X : Type 0} (text : X → List ℕ) → ((x : X) → IsOneLine (text x)) → (xs : List X) → IsOneLine (flat_map text xs)
each_one text one [] = refl
each_one text one (x ∷ xs) = both (text x) (flat_map text xs) (one x) (each_one text one xs)

facts_one : (seller category start closes : ℕ) → IsOneLine (facts_text seller category start closes)
facts_one seller category start closes =
    four (labelled (codes "viewitem seller=") seller) (labelled (codes " category=") category) (labelled (codes " start=") start) (labelled (codes " closes=") closes)
    (labelled_one (codes "viewitem seller=") seller refl) (labelled_one (codes " category=") category refl) (labelled_one (codes " start=") start refl)
    (labelled_one (codes " closes=") closes refl)

state_one : (highest bidder : Option ℕ) (bids left : ℕ) → IsOneLine (state_text highest bidder bids left)
state_one highest bidder bids left =
    four (labelled_optional (codes " highest=") highest) (labelled_optional (codes " bidder=") bidder) (labelled (codes " bids=") bids) (labelled (codes " left=") left)
    (labelled_optional_one (codes " highest=") highest refl) (labelled_optional_one (codes " bidder=") bidder refl) (labelled_one (codes " bids=") bids refl)
    (labelled_one (codes " left=") left refl)

score_one : (rating : ℤ) (comments : ℕ) → IsOneLine (score_text rating comments)
score_one rating comments =
    both (codes " rating=" ++ signed_decimal rating) (labelled (codes " comments=") comments) (both (codes " rating=") (signed_decimal rating) refl (signed_one rating))
    (labelled_one (codes " comments=") comments refl)

printing_one : (text : List ℕ) → All IsPrinting text → IsOneLine text
printing_one [] all = refl
printing_one (byte ∷ text) all =
    let prints : IsPrinting byte = All-head IsPrinting byte text all in
    and_from (no_feed byte) (list_all no_feed text) (past_feed byte (omega (arith, prints.0))) (printing_one text (All-tail IsPrinting byte text all))

refusal_one : (why : Refusal) → IsOneLine (refusal_text why)
refusal_one NoSuchUser = refl
refusal_one why = refl

pub reply_one : (reply : Reply) → ShowsName reply → IsOneLine (reply_text reply)
reply_one (ItemStored id) named = id_one (codes "item ") id.worker id.serial refl
reply_one (BidStored id) named = id_one (codes "bid ") id.worker id.serial refl
reply_one (CommentStored id) named = id_one (codes "comment ") id.worker id.serial refl
reply_one (Bought id) named = id_one (codes "buynow ") id.worker id.serial refl
reply_one (ItemSeen seller category name start closes highest bidder bids left) named =
    four (facts_text seller category start closes) (state_text highest bidder bids left) (codes " name=") name (facts_one seller category start closes) (state_one highest bidder bids left)
    refl (printing_one name named.printing)
reply_one (BidsSeen bids) named = both (codes "bids") (flat_map bid_text bids) refl (each_one bid_text bid_one bids)
reply_one (CategorySeen items) named = both (codes "latest") (flat_map item_text items) refl (each_one item_text item_one items)
reply_one (UserSeen rating comments) named = both (codes "user") (score_text rating comments) refl (score_one rating comments)
reply_one (Refused why) named = refusal_one why
