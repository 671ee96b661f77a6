-- What accepted stores write is there, in the book after them and on the shards that stand for it.
use Rattle.std.proofs.Common.{◌≡◌, ℕ, suc, ◌-◌, ◌<◌, ◌%◌, ◌&&◌, true, false, cond, List, [], ◌∷◌, ◌++◌, drop, length, find, Option, Some, None, option_map, refl, sym, ap, ◌∙◌, subst, arith}
use Rattle.std.proofs.lemmas.{Bool.{false≢true, leb-false, or_parts}, List.{length-map}}
use Rattle.std.proofs.lemmas.List.{Elements.{filter_map-append}, Folds.{find-append}}
use Rattle.std.specs.{List.{AllByRecursion, cons_option}, Option.{option_or}}
use Rattle.std.specs.Prelude.{IsSome, is_some, nat_le}
use Rattle.phase_laws.proofs.{MemberLemmas.{all-member, filter-member}, RankLemmas.{top_is_top}}
use Rattle.auction_rows.proofs.HistoryLemmas.{book_after-replays}
use Rattle.auction_rows.proofs.OrderLemmas.{heat_total, heat_same}
use Rattle.auction_rows.proofs.RefusalLemmas.{enough, in_range, not_by_number, is_stored}
use Rattle.auction_rows.proofs.RequestLemmas.{row_made}
use Rattle.auction_rows.specs.Book.{Book, as_item, same_item, item_in, item_rows, facts_of, bought}
use Rattle.auction_rows.specs.Choosing.{written_by, objects_written, heat, choose}
use Rattle.auction_rows.specs.History.{IsRight, after_entry, ReplaysFrom, book_after, rows_of}
use Rattle.auction_rows.specs.{Refusals.{refusal}, Replies.{answer, answer_unless, row_of}}
use Rattle.auction_rows.specs.Requests.{writes, is_splittable, number_of, shard_of}
use Rattle.auction_rows.specs.declared.requests.Object.TheVariants.{Item, User, Category}
use Rattle.auction_rows.specs.declared.requests.Request.TheVariants.{StoreItem, StoreBid, StoreComment}
use Rattle.auction_rows.specs.declared.{values.Opening.Opening, requests.Facts.Facts, requests.Object.Object, requests.Request.Request, replies.Refusal.Refusal, rows.ItemRow.ItemRow, rows.Entry.Entry}
use Rattle.item_shards.specs.Values.{value, stock}
use Rattle.closing_laws.specs.Phases.{value_on}
use Rattle.phase_floor.specs.States.{JoinedState, states_of, StandsFor, DoesExist, DoAllExist}
use Rattle.hot_choice.proofs.ChosenLemmas.{from_members}

-- an item that a book has, or a user or category of its opening
abbrev IsThere : Opening → Book → Object → Type 0
IsThere opening book (Item id) = IsSome (facts_of book id)
IsThere opening book (User user) = user < opening.users
IsThere opening book (Category category) = category < opening.categories

-- more rows leave it there
stays : (opening : Opening) (book rows : Book) (object : Object) → IsThere opening book object → IsThere opening (book ++ rows) object
stays opening book rows (Item id) h = subst (λ o. IsSome (option_map (λ (r : ItemRow). r.facts) o)) (sym more) (go (item_in book id) h) where
  more : item_in (book ++ rows) id ≡ option_or (item_in book id) (item_in rows id)
  more = ap (find (λ (r : ItemRow). same_item r.id id)) (filter_map-append as_item book rows)
      ∙ find-append (λ (r : ItemRow). same_item r.id id) (item_rows book) (item_rows rows)

  go : (o : Option ItemRow) → IsSome (option_map (λ (r : ItemRow). r.facts) o) → IsSome (option_map (λ (r : ItemRow). r.facts) (option_or o (item_in rows id)))
  go None none = absurd (false≢true none)
  go (Some r) some = refl
stays opening book rows (User user) h = h
stays opening book rows (Category category) h = h

-- ---- what isn't refused names what is there

module _ (opening : Opening) (book : Book) (worker : ℕ) where
  abbrev Written : Request → Option Refusal → Option Object
  Written request refused = cond (is_splittable request && is_some (row_of worker request (answer_unless refused (answer book worker request)))) (writes request) None

  -- an accepted store writes what it writes
  accepted : (request : Request) (object named : Object) → is_some (row_of worker request (answer book worker request)) ≡ true →
      cond (true && is_some (row_of worker request (answer book worker request))) (Some named) None ≡ Some object → named ≡ object
  accepted request object named made is = let same : Some named ≡ Some object = sym (ap (λ b. cond (true && b) (Some named) None) made) ∙ is in cc

  written : (request : Request) (refused : Option Refusal) → refusal opening book request ≡ refused → (object : Object) → Written request refused ≡ Some object → IsThere opening book object
  written (StoreItem facts time) None e object is =
      subst (IsThere opening book) (accepted (StoreItem facts time) object (Category facts.category) (row_made book worker (StoreItem facts time) None) is)
      (leb-false opening.categories facts.category (or_parts (nat_le opening.categories facts.category) false (in_range opening (StoreItem facts time) (not_by_number opening book (StoreItem facts time) e)).1).0)
  written (StoreBid bidder item amount time) None e object is =
      subst (IsThere opening book) (accepted (StoreBid bidder item amount time) object (Item item) (row_made book worker (StoreBid bidder item amount time) None) is)
      (is_stored (facts_of book item) (enough opening book (StoreBid bidder item amount time) e).0)
  written (StoreComment author about item stars) None e object is =
      subst (IsThere opening book) (accepted (StoreComment author about item stars) object (User about) (row_made book worker (StoreComment author about item stars) None) is)
      (leb-false opening.users about (or_parts (nat_le opening.users about) false (or_parts (nat_le opening.users author) _ (in_range opening (StoreComment author about item stars) (not_by_number opening book (StoreComment author about item stars) e)).0).1).0)
  written request refused e object is = absurd (cc)

written_there : (opening : Opening) (book : Book) (e : Entry) → IsRight opening book e → (object : Object) → written_by e ≡ Some object → IsThere opening book object
written_there opening book e right object is =
    written opening book e.worker e.request (refusal opening book e.request) refl object
    (ap (λ r. cond (is_splittable e.request && is_some (row_of e.worker e.request r)) (writes e.request) None) (sym right) ∙ is)

-- ---- in the book after a history is what its entries write

all_there : (opening : Opening) (book : Book) (es : List Entry) → ReplaysFrom opening book es → AllByRecursion (IsThere opening (book_after opening book es)) (objects_written es)
all_there opening book [] h = tt
all_there opening book (e ∷ es) h = go (written_by e) refl (all_there opening (after_entry opening book e) es h.1) where
  now : (object : Object) → written_by e ≡ Some object → IsThere opening (book_after opening (after_entry opening book e) es) object
  now object is = subst (λ b. IsThere opening b object) (sym (book_after-replays opening (after_entry opening book e) es h.1))
      (stays opening (after_entry opening book e) (rows_of es) object (stays opening book _ object (written_there opening book e h.0 object is)))

  go : (o : Option Object) → written_by e ≡ o → AllByRecursion (IsThere opening (book_after opening (after_entry opening book e) es)) (objects_written es) →
      AllByRecursion (IsThere opening (book_after opening (after_entry opening book e) es)) (cons_option o (objects_written es))
  go None is rest = rest
  go (Some object) is rest = (now object is, rest)

-- what holds of all that entries write holds of what the last of them write
rest_of : (P : Object → Type 0) (n : ℕ) (es : List Entry) → AllByRecursion P (objects_written es) → AllByRecursion P (objects_written (drop n es))
rest_of P (suc n) (e ∷ es) h = rest_of P n es (go (written_by e) h) where
  go : (o : Option Object) → AllByRecursion P (cons_option o (objects_written es)) → AllByRecursion P (objects_written es)
  go None all = all
  go (Some object) all = all.1
rest_of P n es h = h

-- and of what is chosen from them
of_chosen : (P : Object → Type 0) (es : List Entry) (threshold most : ℕ) → AllByRecursion P (objects_written es) → AllByRecursion P (choose es threshold most)
of_chosen P es threshold most all = from_members P (choose es threshold most)
    (λ object member. all-member P (objects_written es) object all
    ((filter-member (λ o. nat_le threshold (heat es o)) (objects_written es) object).0 (((top_is_top (heat_total es) (heat_same es) most _).members object).0 member).0).0)

-- ---- on shards that stand for a book is what is there

module _ (state : JoinedState) (book : Book) (some : 0 < length state.shards) (stands : StandsFor state book) where
  within : (n count : ℕ) → 0 < count → n % count < count
  within n count h = omega arith

  count : length (states_of state) ≡ length state.shards
  count = simp length-map

  shown : (object : Object) → value_on (states_of state) object ≡ value book object
  shown object = stands.shards (shard_of object (length (states_of state))) (within (number_of object) (length (states_of state)) (omega (arith, count, some))) object refl refl

  exists : (object : Object) → IsThere state.opening book object → DoesExist state.opening (states_of state) object
  exists (Item id) h = subst (λ v. IsSome (stock v)) (sym (shown (Item id))) (go (facts_of book id) h) where
    go : (o : Option Facts) → IsSome o → IsSome {T = Facts × ℕ} (option_map (λ (facts : Facts). (facts, facts.quantity - bought book id)) o)
    go None none = absurd (false≢true none)
    go (Some facts) is = refl
  exists object h = h

  pub all_exist : (objects : List Object) → AllByRecursion (IsThere state.opening book) objects → DoAllExist state.opening (states_of state) objects
  all_exist [] h = tt
  all_exist (object ∷ objects) h = (exists object h.0, all_exist objects h.1)

-- What is chosen from the last entries of a history exists on the shards after it.
pub chosen_exist : (state : JoinedState) (start : Book) (history : List Entry) (last threshold most : ℕ) → 0 < length state.shards →
    ReplaysFrom state.opening start history → StandsFor state (book_after state.opening start history) →
    DoAllExist state.opening (states_of state) (choose (drop last history) threshold most)
chosen_exist state start history last threshold most some replays stands =
    all_exist state (book_after state.opening start history) some stands (choose (drop last history) threshold most)
    (of_chosen (IsThere state.opening (book_after state.opening start history)) (drop last history) threshold most
    (rest_of (IsThere state.opening (book_after state.opening start history)) last history (all_there state.opening start history replays)))
