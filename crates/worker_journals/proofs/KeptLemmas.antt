-- Loops that put the values of a list at the end of another one.
use Rattle.std.proofs.Common.{◌≡◌, ℕ, zero, suc, ◌+◌, ◌-◌, ◌*◌, ◌^◌, ◌<◌, ◌≤◌, min, List, [], ◌∷◌, ◌++◌, Some, length, take, take_all, drop, get_or, slice_get, arith, refl, ap, inl, inr, subst, sym, ◌∙◌, append-nil, append_assoc, length-append, length-drop}
use Rattle.std.proofs.lemmas.{List.{get_or-drop, length-take, take_more}, Option.{get_or_from_slice_get}}
use Rattle.std.specs.Prelude.{◌⊎◌, IsSome}
use Rattle.auction_rows.specs.ItemViews.{item_reply}
use Rattle.auction_rows.specs.declared.replies.Reply.TheVariants.{BidsSeen, CategorySeen}
use Rattle.auction_rows.specs.declared.replies.{Reply.Reply, ItemView.ItemView, BidShown.BidShown, ItemShown.ItemShown}
use Rattle.worker_journals.specs.{Shown.{ShownLists, shown_in}, declared.heads.ShortReply.{ShortReply}}
use Rattle.worker_journals.specs.declared.heads.UserSeen.{UserSeen as SeenUser}
use Rattle.worker_journals.specs.inner.Sides.{SideLists, HasKept, SaysReply, with_shown}
use Rattle.request_scripts.specs.ShortRequests.{HasListRoom}

module _ {X : Type 0} (start shown : List X) (place : ℕ) where
  -- one more value is at the end
  pub one_more : (before after : List X) (value : X) → place < length shown → slice_get shown place ≡ Some value →
      before ≡ start ++ take place shown → after ≡ before ++ value ∷ [] → after ≡ start ++ take (place + 1) shown
  one_more before after value within there so_far pushed =
      let more : take (place + 1) shown ≡ take place shown ++ value ∷ [] =
      take_more shown place value within ∙ ap (λ v. take place shown ++ v ∷ []) (get_or_from_slice_get shown place value value there) in
      pushed
      ∙ ap (λ ys. ys ++ value ∷ []) so_far
      ∙ append_assoc start (take place shown) (value ∷ [])
      ∙ ap (λ ys. start ++ ys) (sym more)

  -- there is room for one of at most ten more
  pub room_left : (list : List X) (len capacity len' capacity' : ℕ) → place < 10 → list ≡ start ++ take place shown →
      len ≡ length start → len' ≡ length list → capacity' ≡ capacity → len + 10 ≤ capacity → len' < capacity'
  room_left list len capacity len' capacity' few so_far long long' same room =
      omega (arith, ap length so_far, length-append start (take place shown), length-take place shown, few, long, long', same, room)

  -- all values are
  pub all_there : (list : List X) → length shown ≤ place → list ≡ start ++ take place shown → list ≡ start ++ shown
  all_there list past so_far = so_far ∙ ap (λ ys. start ++ ys) (take_all place shown past)

-- a place within a list has a value
pub some_there : {X : Type 0} (xs : List X) (place : ℕ) → place < length xs → IsSome (slice_get xs place)
some_there [] place within = absurd (omega arith)
some_there (x ∷ xs) zero within = refl
some_there (x ∷ xs) (suc place) within = some_there xs place (omega arith)

-- The same of a loop that begins with an empty list.
pub one_read : {X : Type 0} (all : List X) (place : ℕ) (before after : List X) (value : X) → place < length all → value ≡ get_or all place value →
    before ≡ take place all → after ≡ before ++ value ∷ [] → after ≡ take (place + 1) all
one_read all place before after value within there so_far pushed =
    pushed
    ∙ ap (λ ys. ys ++ value ∷ []) so_far
    ∙ ap (λ v. take place all ++ v ∷ []) there
    ∙ sym (take_more all place value within)

-- and of the part of a list from a place on
pub part_read : {X : Type 0} (list : List X) (start count place : ℕ) (read : List X) → (let part = take (start + count - start) (drop start list) in
    length part ≤ place → read ≡ take place part → read ≡ take count (drop start list))
part_read list start count place read past so_far =
    so_far
    ∙ take_all place (take (start + count - start) (drop start list)) past
    ∙ ap (λ n. take n (drop start list)) (omega arith)

pub part_left : {X : Type 0} (list : List X) (start count place : ℕ) (read : List X) → (let part = take (start + count - start) (drop start list) in
    place < length part → read ≡ take place part → count ≤ 10 → length read < 10)
part_left list start count place read within so_far few =
    let part = take (start + count - start) (drop start list) in
    omega (arith, ap length so_far, length-take place part, length-take (start + count - start) (drop start list))

-- What says a reply says an equal one.
pub said_of : (lists : ShownLists) (short : ShortReply) (one other : Reply) → one ≡ other → SaysReply lists short one → SaysReply lists short other
said_of lists short one other same says = subst (λ (reply : Reply). SaysReply lists short reply) same says

-- What keeps a reply keeps an equal one.
pub kept_of : (sides after : SideLists) (one other : Reply) → one ≡ other → HasKept sides one after → HasKept sides other after
kept_of sides after one other same kept = subst (λ (reply : Reply). HasKept sides reply after) same kept

-- one value more of a list from a place on is that of what a view shows
pub one_alike : {X : Type 0} (list shown : List X) (start place : ℕ) (item value : X) → start + length shown ≤ length list → place < length shown →
    item ≡ get_or list (start + place) item → slice_get shown place ≡ Some value → item ≡ value →
    take place (drop start list) ≡ take place shown → take (place + 1) (drop start list) ≡ take (place + 1) shown
one_alike list shown start place item value room within at there same so_far =
    let inside : place < length (drop start list) = omega (arith, length-drop start list) in
    let here : get_or (drop start list) place item ≡ item = get_or-drop start list place item ∙ sym at in
    let told : get_or shown place item ≡ item = get_or_from_slice_get shown place value item there ∙ sym same in
    take_more (drop start list) place item inside
    ∙ ap (λ ys. ys ++ get_or (drop start list) place item ∷ []) so_far
    ∙ ap (λ v. take place shown ++ v ∷ []) (here ∙ sym told)
    ∙ sym (take_more shown place item within)

-- ---- what lies in one of the lists already, or is put at its end

module _ (items : List ItemView) (users : List SeenUser) (bids : List BidShown) (latest : List ItemShown) (left left' : ℕ) (sides : SideLists)
    (is : record { lists = record { items = items; users = users; bids = bids; latest = latest }; left = left } ≡ sides) (less : left' ≡ left - 1) where
  abbrev here : ShownLists
  here = record { items = items; users = users; bids = bids; latest = latest }

  -- it is kept there, and all else stays
  lists_kept : (reply : Reply) (lists : ShownLists) → (lists ≡ here) ⊎ (lists ≡ with_shown here (shown_in reply)) → HasKept sides reply (record { lists = lists; left = left' })
  lists_kept reply lists kept = subst (λ (s : SideLists). HasKept s reply (record { lists = lists; left = left' })) is (record { lists = kept; left = less })

  pub item_kept : (seen : ItemView) (new : List ItemView) → (new ≡ items) ⊎ (new ≡ items ++ seen ∷ []) →
      HasKept sides (item_reply seen) (record { lists = record { items = new; users = users; bids = bids; latest = latest }; left = left' })
  item_kept seen new kept = lists_kept (item_reply seen) _ (elim kept [
    | inl same ↦ inl (λ i. record { items = same i; users = users; bids = bids; latest = latest })
    | inr put ↦ inr (λ i. record { items = put i; users = sym (append-nil users) i; bids = sym (append-nil bids) i; latest = sym (append-nil latest) i })
  ])

  pub bids_kept : (shown new : List BidShown) (reply : Reply) → reply ≡ BidsSeen shown → (new ≡ bids) ⊎ (new ≡ bids ++ shown) →
      HasKept sides reply (record { lists = record { items = items; users = users; bids = new; latest = latest }; left = left' })
  bids_kept shown new reply is_shown kept = kept_of _ _ _ _ (sym is_shown) (lists_kept (BidsSeen shown) _ (elim kept [
    | inl same ↦ inl (λ i. record { items = items; users = users; bids = same i; latest = latest })
    | inr put ↦ inr (λ i. record { items = sym (append-nil items) i; users = sym (append-nil users) i; bids = put i; latest = sym (append-nil latest) i })
  ]))

  pub latest_kept : (shown new : List ItemShown) (reply : Reply) → reply ≡ CategorySeen shown → (new ≡ latest) ⊎ (new ≡ latest ++ shown) →
      HasKept sides reply (record { lists = record { items = items; users = users; bids = bids; latest = new }; left = left' })
  latest_kept shown new reply is_shown kept = kept_of _ _ _ _ (sym is_shown) (lists_kept (CategorySeen shown) _ (elim kept [
    | inl same ↦ inl (λ i. record { items = items; users = users; bids = bids; latest = same i })
    | inr put ↦ inr (λ i. record { items = sym (append-nil items) i; users = sym (append-nil users) i; bids = sym (append-nil bids) i; latest = put i })
  ]))

-- ---- the room of new lists

pub one_each : (len capacity room : ℕ) → len ≡ 0 → room ≤ capacity → HasListRoom room len capacity
one_each len capacity room empty has = omega (arith, empty, has)

-- more than any capacity was not asked for
pub ten_each : (len capacity room shown : ℕ) → len ≡ 0 → shown ≤ capacity → shown ≡ min (room * 10) (2 ^ 64 - 1) → capacity < 2 ^ 63 → HasListRoom (10 * room) len capacity
ten_each len capacity room shown empty has is small = omega (arith, empty, has, is, small)
