-- What a short reply says of values in the side lists.
use Rattle.std.proofs.Common.{◌≡◌, ◌≤◌, ◌+◌, ℕ, List, [], ◌∷◌, Some, length, slice_get, take, drop, ap, ◌∙◌, arith}
use Rattle.std.proofs.lemmas.Option.{get_or_from_slice_get, slice_get_within}
use Rattle.auction_rows.specs.{ItemViews.{item_reply}, declared.limits.TheConstants.{MOST_SHOWN}}
use Rattle.auction_rows.specs.declared.replies.Reply.TheVariants.{ItemSeen, BidsSeen, CategorySeen}
use Rattle.auction_rows.specs.declared.replies.{Reply.Reply, ItemView.ItemView, BidShown.BidShown, ItemShown.ItemShown}
use Rattle.worker_journals.specs.{Shown.{ShownLists, shown_in}, inner.Sides.{SaysReply, no_item}}
use Rattle.worker_journals.specs.declared.heads.ShortReply.TheVariants as told
use Rattle.worker_journals.specs.declared.heads.UserSeen.{UserSeen as SeenUser}

-- where a reply shows an item, it is that item's
pub only_item : (reply : Reply) (seen : ItemView) → seen ∷ [] ≡ (shown_in reply).items → item_reply seen ≡ reply
only_item (ItemSeen seller category name start closes highest bidder bids left) seen e =
    let same : seen ≡ record { seller = seller; category = category; name = name; left = left; start = start; closes = closes; bids = bids; highest = highest; bidder = bidder } = cc in
    ap item_reply same
only_item reply seen e = absurd (cc)

-- a reply that shows an item shows one
pub not_none : {X : Type 0} (xs : List X) (x : X) → [] ≡ xs → xs ≡ x ∷ [] → ⊥
not_none xs x none one = absurd (cc)

module _ (items : List ItemView) (users : List SeenUser) (bids : List BidShown) (latest : List ItemShown) (reply : Reply) (place : ℕ) where
  abbrev pub lists : ShownLists
  lists = record { items = items; users = users; bids = bids; latest = latest }

  pub says_item : (seen : ItemView) → slice_get items place ≡ Some seen → item_reply seen ≡ reply → SaysReply lists (told.ItemSeen place) reply
  says_item seen there is = record {
    within = slice_get_within items place seen there;
    is = ap item_reply (get_or_from_slice_get items place seen no_item there) ∙ is;
  }

  pub says_bids : (shown : List BidShown) (count : ℕ) → place + length shown ≤ length bids → take (length shown) (drop place bids) ≡ shown → count ≡ length shown → count ≤ MOST_SHOWN →
      BidsSeen shown ≡ reply → SaysReply lists (told.BidsSeen count place) reply
  says_bids shown count within there all few is = record {
    within = (few, omega (arith, all, within));
    is = ap BidsSeen (ap (λ n. take n (drop place bids)) all ∙ there) ∙ is;
  }

  pub says_latest : (shown : List ItemShown) (count : ℕ) → place + length shown ≤ length latest → take (length shown) (drop place latest) ≡ shown → count ≡ length shown → count ≤ MOST_SHOWN →
      CategorySeen shown ≡ reply → SaysReply lists (told.CategorySeen count place) reply
  says_latest shown count within there all few is = record {
    within = (few, omega (arith, all, within));
    is = ap CategorySeen (ap (λ n. take n (drop place latest)) all ∙ there) ∙ is;
  }
