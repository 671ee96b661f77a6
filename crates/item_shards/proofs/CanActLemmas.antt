-- The acts of an entry can be done.
use Rattle.std.proofs.Common.{◌≡◌, ℕ, ◌+◌, ◌-◌, ◌*◌, ◌<◌, ◌≤◌, ◌^◌, ◌==◌, ℤ, ◌+ℤ◌, FitsSigned, Bool, true, false, cond, List, [], ◌++◌, Option, Some, None, IsTrue, option_to_list, length, unsigned_abs, Contains, refl, sym, ap, subst, ◌∙◌, arith}
use Rattle.std.proofs.lemmas.Bool.{false≢true, leb-false, ltb-false, or_parts}
use Rattle.std.proofs.lemmas.{Int.{ints, fits_signed_from_abs}, List.{length-append}}
use Rattle.std.specs.{Int.{w64}, List.{AllByRecursion}}
use Rattle.std.specs.Prelude.{is_some, is_none, option_map, unwrap_or, nat_le, nat_lt, IsSome}
use Rattle.phase_laws.proofs.{ListLemmas.{all-append}, MemberLemmas.{all-member}}
use Rattle.phase_laws.specs.Replay.{SawInTurn}
use Rattle.auction_rows.proofs.RefusalLemmas.{enough, in_range, not_by_number, is_stored}
use Rattle.auction_rows.specs.History.{IsRight, after_entry, row_of_entry}
use Rattle.auction_rows.specs.Refusals.{of_stored, number_refusal, refusal}
use Rattle.auction_rows.specs.Replies.{answer, answer_unless, reply, row_of, row_if}
use Rattle.auction_rows.specs.Requests.{shard_of}
use Rattle.auction_rows.specs.declared.replies.Reply.TheVariants.{ItemStored, Refused}
use Rattle.auction_rows.specs.declared.requests.Object.TheVariants.{Item, User, Category}
use Rattle.auction_rows.specs.declared.requests.Request.TheVariants.{StoreItem, StoreBid, StoreComment, BuyNow, ViewItem, ViewBids, ViewCategory, ViewUser}
use Rattle.auction_rows.specs.declared.{values.Opening.Opening, values.Stars.Stars, requests.ItemId.ItemId, requests.Facts.Facts, requests.Object.Object, requests.Request.Request, replies.Refusal.Refusal, replies.Reply.Reply, rows.Row.Row, rows.Entry.Entry}
use Rattle.auction_rows.specs.Book.{Book, facts_of, left as left_of, bought}
use Rattle.item_shards.proofs.CountLemmas.{bids_at_most, comments_at_most, rating_at_most}
use Rattle.item_shards.proofs.{StandingLemmas.{stands_at, lies_here}, TurnLemmas.{owed_in_turn}}
use Rattle.item_shards.specs.{Acting.{CanActOn, HasRoomFor}, Contents.{Contents, after_act}}
use Rattle.item_shards.specs.{Events.{Event}, Limits.{IsWithinLimits}, Standing.{ContentsStandsFor}}
use Rattle.item_shards.specs.Values.{Value, value, HasInStock}
use Rattle.item_shards.specs.Writing.{looks_of, writes_of, writes_if, acts_of, is_cold_in, is_done_on, acts_owed}

-- where a purchase isn't refused, as many are left as are bought
enough_left : (book : Book) (item : ItemId) (quantity : ℕ) → is_none (facts_of book item) ≡ false → of_stored (facts_of book item) (λ facts. nat_lt (left_of book item) quantity) ≡ false
    → HasInStock (value book (Item item)) quantity
enough_left book item quantity stored few = at (facts_of book item) refl stored few where
  at : (o : Option Facts) → facts_of book item ≡ o → is_none o ≡ false → of_stored o (λ facts. nat_lt (left_of book item) quantity) ≡ false → HasInStock (value book (Item item)) quantity
  at None e stored few = absurd (false≢true (sym stored))
  at (Some facts) e stored few =
      let up = ap (λ (p : Option Facts). unwrap_or (option_map (λ (f : Facts). f.quantity) p) 0) e in
      record {
        number = facts.quantity - bought book item;
        is_left = ap (λ (p : Option Facts). option_map (λ (f : Facts). f.quantity - bought book item) p) e;
        enough = omega (arith, ltb-false (left_of book item) quantity few, up);
      }

rating_fits : (z : ℤ) (stars : Stars) (n : ℕ) → unsigned_abs z ≤ 5 * n → n < 2 ^ 59 → FitsSigned w64 (z +ℤ stars.value)
rating_fits z stars n near few = fits_signed_from_abs w64 (z +ℤ stars.value) (omega (arith, ints, stars.at_least, stars.at_most))

module _ (opening : Opening) (number shards : ℕ) (rooms : ItemId → Bool) (contents : Contents) (book : Book) (hot : List Object)
    (stands : ContentsStandsFor number shards contents book hot) where
  abbrev Can : Event → Type 0
  Can act = is_done_on number shards hot act ≡ true → CanActOn opening number shards rooms contents act

  abbrev here : Object → Bool
  here = is_cold_in number shards hot

  lies : (object : Object) → here object ≡ true → shard_of object shards ≡ number
  lies = lies_here number shards hot

  at_object : (object : Object) → here object ≡ true → contents object ≡ value book object
  at_object = stands_at number shards contents book hot stands

  looks_can : (saw : Option (Facts × ℕ)) (answered : Reply) (request : Request) → AllByRecursion Can (looks_of saw answered request)
  looks_can saw answered (StoreItem facts time) = tt
  looks_can saw answered request = (λ e. tt, tt)

  module _ (few : length book < 2 ^ 59) (worker : ℕ) where
    abbrev IsRoomFor : Reply → Type 0
    IsRoomFor answered = (id : ItemId) → answered ≡ ItemStored id → shard_of (Item id) shards ≡ number → IsTrue (rooms id)

    row_if_can : (b : Bool) (one : Row) → AllByRecursion Can (writes_of one) → AllByRecursion Can (writes_if (row_if b one))
    row_if_can true one all = all
    row_if_can false one all = tt

    -- what a request that isn't refused writes
    accepted_can : (request : Request) → refusal opening book request ≡ None → IsRoomFor (answer book worker request)
        → AllByRecursion Can (writes_if (row_of worker request (answer book worker request)))
    accepted_can (StoreItem facts time) e room =
        row_if_can (worker == worker) _ (λ h. (lies (Item _) h, room _ refl (lies (Item _) h)), (λ h. (lies (Category facts.category) h, known), tt)) where
          known : facts.category < opening.categories
          known =
              let none = in_range opening (StoreItem facts time) (not_by_number opening book (StoreItem facts time) e) in
              leb-false opening.categories facts.category (or_parts (nat_le opening.categories facts.category) false none.1).0
    accepted_can (StoreBid bidder item amount time) e room = row_if_can (worker == worker) _ (λ h. (lies (Item item) h, stored h, fits h), tt) where
      stored : here (Item item) ≡ true → IsSome (contents (Item item)).facts
      stored h = subst (λ (v : Value). IsSome v.facts) (sym (at_object (Item item) h)) (is_stored (facts_of book item) (enough opening book (StoreBid bidder item amount time) e).0)

      fits : here (Item item) ≡ true → (contents (Item item)).bids.bids + 1 < 2 ^ 64
      fits h = omega (arith, few, bids_at_most book item, ap (λ (v : Value). v.bids.bids) (at_object (Item item) h))
    accepted_can (StoreComment author about item given) e room =
        row_if_can (worker == worker) _ (λ h. (lies (User about) h, known, rated h, fits h), tt) where
          known : about < opening.users
          known =
              let none = in_range opening (StoreComment author about item given) (not_by_number opening book (StoreComment author about item given) e) in
              leb-false opening.users about (or_parts (nat_le opening.users about) false (or_parts (nat_le opening.users author) _ none.0).1).0

          rated : here (User about) ≡ true → FitsSigned w64 ((contents (User about)).comments.rating +ℤ given.value)
          rated h = subst (λ (v : Value). FitsSigned w64 (v.comments.rating +ℤ given.value)) (sym (at_object (User about) h))
              (rating_fits (value book (User about)).comments.rating given (length book) (rating_at_most book about) few)

          fits : here (User about) ≡ true → (contents (User about)).comments.comments + 1 < 2 ^ 64
          fits h = omega (arith, few, comments_at_most book about, ap (λ (v : Value). v.comments.comments) (at_object (User about) h))
    accepted_can (BuyNow buyer item quantity time) e room = row_if_can (worker == worker) _ (λ h. (lies (Item item) h, enough_here h), tt) where
      enough_here : here (Item item) ≡ true → HasInStock (contents (Item item)) quantity
      enough_here h =
          let is = enough opening book (BuyNow buyer item quantity time) e in
          subst (λ (v : Value). HasInStock v quantity) (sym (at_object (Item item) h)) (enough_left book item quantity is.0 is.1)
    accepted_can (ViewItem item) e room = tt
    accepted_can (ViewBids item) e room = tt
    accepted_can (ViewCategory category) e room = tt
    accepted_can (ViewUser user) e room = tt

    refused_can : (request : Request) (reason : Refusal) → AllByRecursion Can (writes_if (row_of worker request (Refused reason)))
    refused_can (StoreItem facts time) reason = tt
    refused_can request reason = tt

    writes_can : (request : Request) (refused : Option Refusal) → refusal opening book request ≡ refused → IsRoomFor (answer_unless refused (answer book worker request))
        → AllByRecursion Can (writes_if (row_of worker request (answer_unless refused (answer book worker request))))
    writes_can request None e room = accepted_can request e room
    writes_can request (Some reason) e room = refused_can request reason

  -- the row of an entry on a book that is not too long for sums
  pub row_can_in : length book < 2 ^ 59 → (entry : Entry) → IsRight opening book entry → HasRoomFor number shards rooms entry → AllByRecursion Can (writes_if (row_of_entry entry))
  row_can_in few entry right room =
      subst (λ answered. AllByRecursion Can (writes_if (row_of entry.worker entry.request answered))) (sym right)
      (writes_can few entry.worker entry.request (refusal opening book entry.request) refl (λ id e. room id (right ∙ e)))

  module _ (saw : Option (Facts × ℕ)) (entry : Entry) (right : IsRight opening book entry) (limits : IsWithinLimits (after_entry opening book entry)) (room : HasRoomFor number shards rooms entry) where
    pub row_can : AllByRecursion Can (writes_if (row_of_entry entry))
    row_can =
        row_can_in (omega (arith, limits.few, length-append book (option_to_list (row_of entry.worker entry.request (reply opening book entry.worker entry.request)))))
        entry right room

    pub each_can : (act : Event) → Contains (acts_of opening saw entry) act → is_done_on number shards hot act ≡ true → CanActOn opening number shards rooms contents act
    each_can act member = all-member Can (acts_of opening saw entry) act (at (is_some (number_refusal opening entry.request))) member where
      at : (b : Bool) → AllByRecursion Can (cond b [] (looks_of saw entry.reply entry.request ++ writes_if (row_of_entry entry)))
      at true = tt
      at false = all-append Can (looks_of saw entry.reply entry.request) (writes_if (row_of_entry entry)) (looks_can saw entry.reply entry.request) row_can

    pub turn_can : SawInTurn (CanActOn opening number shards rooms) after_act contents (acts_owed opening number shards hot saw entry)
    turn_can =
        owed_in_turn (CanActOn opening number shards rooms) (λ s. tt) (λ s id facts category listing h. h) number shards hot contents opening saw entry
        (λ e. (looks_can saw entry.reply entry.request, row_can))
