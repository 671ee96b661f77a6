-- Slices of an object merged are what all rows make of it.
use Rattle.std.proofs.Common.{◌≡◌, ℕ, ◌<◌, ◌==◌, Bool, true, false, cond, List, [], ◌∷◌, ◌++◌, map, fold, Option, Some, None, option_to_list, option_and_then, refl, sym, ap, ◌∙◌, append_assoc}
use Rattle.std.{proofs.lemmas.List.{append-nil}, specs.List.{list_any, AllByRecursion, cons_option}}
use Rattle.phase_laws.{proofs.MergingLemmas.{merged, map-agree}, specs.Merging.{SliceLaws}}
use Rattle.phase_laws.specs.Order.{IsOrderedBy, part}
use Rattle.split_records.proofs.Histories.{value_is_record}
use Rattle.auction_rows.specs.Book.{Book, same_item, bid_entry, item_entry, bid_entries, item_entries}
use Rattle.auction_rows.specs.History.{row_of_entry, rows_of}
use Rattle.auction_rows.specs.RowParts.{row_bid, row_listing, row_stars}
use Rattle.auction_rows.specs.declared.requests.Object.TheVariants.{Item, User, Category}
use Rattle.auction_rows.specs.declared.{requests.ItemId.ItemId, requests.Object.Object, rows.Row.Row, rows.Entry.Entry}
use Rattle.auction_rows.specs.declared.rows.Row.TheVariants as row
use Rattle.item_shards.proofs.{RowLemmas.{value_next}, StandingLemmas.{blank_of_none}}
use Rattle.item_shards.specs.Contents.{with_facts, bid_on, bought_of, comment_about, item_listed}
use Rattle.item_shards.specs.SliceLaws.{item_laws, item_values, user_laws, category_laws, category_values}
use Rattle.item_shards.specs.{Slices.{with_bids, with_comments, with_items}, Values.{Value, value}}
use Rattle.worker_journals.specs.Journals.{entry_worker}

-- A record to which at most one operation is applied.
module _ {R Op : Type 0} {IsRecord : R → Type 0} {identity : R} {apply : R → Op → R} {merge : R → R → R} (laws : SliceLaws IsRecord identity apply merge) where
  abbrev applied_if : R → Option Op → R
  applied_if a None = a
  applied_if a (Some x) = apply a x

  keeps_if : (a : R) (x : Option Op) → IsRecord a → IsRecord (applied_if a x)
  keeps_if a None is = is
  keeps_if a (Some x) is = laws.apply_keeps_record a x is

  commute_if : (a : R) (x y : Option Op) → applied_if (applied_if a x) y ≡ applied_if (applied_if a y) x
  commute_if a (Some x) (Some y) = laws.applications_commute a x y
  commute_if a x y = refl

  merge_if : (a b : R) (x : Option Op) → merge a (applied_if b x) ≡ applied_if (merge a b) x
  merge_if a b None = refl
  merge_if a b (Some x) = laws.merge_applied a b x

  if_laws : {D : Type 0} (op : D → Option Op) → SliceLaws IsRecord identity (λ a d. applied_if a (op d)) merge
  if_laws op = record {
    identity_is_record = laws.identity_is_record;
    apply_keeps_record = λ a d is. keeps_if a (op d) is;
    merge_keeps_record = laws.merge_keeps_record;
    applications_commute = λ a d e. commute_if a (op d) (op e);
    merge_associative = laws.merge_associative;
    merge_commutative = laws.merge_commutative;
    merge_identity = laws.merge_identity;
    merge_applied = λ a b d. merge_if a b (op d);
  }

  -- what rows make of one part of an object's value, each by the operation that it is on the part, if any
  module _ (object : Object) (part_of : Value → R) (op : Row → Option Op) (none : part_of (value [] object) ≡ identity)
      (next : (book : Book) (one : Row) → part_of (value (book ++ one ∷ []) object) ≡ applied_if (part_of (value book object)) (op one)) where
    abbrev of_book : Book → R
    of_book book = part_of (value book object)

    abbrev entry_op : Entry → Option Op
    entry_op entry = option_and_then op (row_of_entry entry)

    abbrev after_entry : R → Entry → R
    after_entry a entry = applied_if a (entry_op entry)

    next_if : (book : Book) (one : Option Row) → of_book (book ++ option_to_list one) ≡ applied_if (of_book book) (option_and_then op one)
    next_if book None = ap of_book (append-nil book)
    next_if book (Some one) = next book one

    rows_more : (book : Book) (one : Option Row) (rows : Book) → book ++ cons_option one rows ≡ (book ++ option_to_list one) ++ rows
    rows_more book None rows = ap (λ b. b ++ rows) (sym (append-nil book))
    rows_more book (Some one) rows = sym (append_assoc book (one ∷ []) rows)

    after_rows : (entries : List Entry) (book : Book) → of_book (book ++ rows_of entries) ≡ fold after_entry (of_book book) entries
    after_rows [] book = ap of_book (append-nil book)
    after_rows (entry ∷ entries) book =
        ap of_book (rows_more book (row_of_entry entry) (rows_of entries))
        ∙ after_rows entries (book ++ option_to_list (row_of_entry entry))
        ∙ ap (λ a. fold after_entry a entries) (next_if book (row_of_entry entry))

    pub part_merged : (book : Book) → IsRecord (of_book book) → (entries : List Entry) (workers : List ℕ) → IsOrderedBy (λ v w. v < w) workers
        → AllByRecursion (λ entry. list_any (λ w. entry_worker entry == w) workers ≡ true) entries
        → fold merge (of_book book) (map (λ w. of_book (rows_of (part entry_worker w entries))) workers) ≡ of_book (book ++ rows_of entries)
    part_merged book is entries workers ordered there =
        ap (fold merge (of_book book)) (map-agree (λ w. of_book (rows_of (part entry_worker w entries))) (λ w. fold after_entry identity (part entry_worker w entries))
        (λ w. after_rows (part entry_worker w entries) [] ∙ ap (λ a. fold after_entry a (part entry_worker w entries)) none) workers)
        ∙ merged (if_laws entry_op) entry_worker workers ordered entries (of_book book) is there
        ∙ sym (after_rows entries book)

-- The part of each kind of object.

bids_next : (id : ItemId) (book : Book) (one : Row) → (value (book ++ one ∷ []) (Item id)).bids ≡ applied_if item_laws (value book (Item id)).bids (row_bid id one)
bids_next id book (row.Item r) = ap (λ (v : Value). v.bids) (value_next book (row.Item r) (Item id)) ∙ at (same_item r.id id) where
  at : (b : Bool) → (cond b (with_facts r.facts (value book (Item id))) (value book (Item id))).bids ≡ (value book (Item id)).bids
  at true = refl
  at false = refl
bids_next id book (row.Bid r) = ap (λ (v : Value). v.bids) (value_next book (row.Bid r) (Item id)) ∙ at (same_item r.item id) where
  at : (b : Bool) → (cond b (bid_on (bid_entry r) (value book (Item id))) (value book (Item id))).bids ≡ applied_if item_laws (value book (Item id)).bids (cond b (Some (bid_entry r)) None)
  at true = refl
  at false = refl
bids_next id book (row.Comment r) = ap (λ (v : Value). v.bids) (value_next book (row.Comment r) (Item id))
bids_next id book (row.Buy r) = ap (λ (v : Value). v.bids) (value_next book (row.Buy r) (Item id)) ∙ at (same_item r.item id) where
  at : (b : Bool) → (cond b (bought_of r.quantity (value book (Item id))) (value book (Item id))).bids ≡ (value book (Item id)).bids
  at true = refl
  at false = refl

comments_next : (user : ℕ) (book : Book) (one : Row) → (value (book ++ one ∷ []) (User user)).comments ≡ applied_if user_laws (value book (User user)).comments (row_stars user one)
comments_next user book (row.Comment r) = ap (λ (v : Value). v.comments) (value_next book (row.Comment r) (User user)) ∙ at (r.about == user) where
  at : (b : Bool) → (cond b (comment_about r.stars (value book (User user))) (value book (User user))).comments ≡ applied_if user_laws (value book (User user)).comments (cond b (Some r.stars) None)
  at true = refl
  at false = refl
comments_next user book one = ap (λ (v : Value). v.comments) (value_next book one (User user))

items_next : (category : ℕ) (book : Book) (one : Row) → (value (book ++ one ∷ []) (Category category)).items ≡ applied_if category_laws (value book (Category category)).items (row_listing category one)
items_next category book (row.Item r) = ap (λ (v : Value). v.items) (value_next book (row.Item r) (Category category)) ∙ at (r.facts.category == category) where
  at : (b : Bool) → (cond b (item_listed (item_entry r) (value book (Category category))) (value book (Category category))).items
      ≡ applied_if category_laws (value book (Category category)).items (cond b (Some (item_entry r)) None)
  at true = refl
  at false = refl
items_next category book one = ap (λ (v : Value). v.items) (value_next book one (Category category))

module _ (book : Book) (entries : List Entry) (workers : List ℕ) (ordered : IsOrderedBy (λ v w. v < w) workers)
    (there : AllByRecursion (λ entry. list_any (λ w. entry_worker entry == w) workers ≡ true) entries) where
  pub bids_merged_all : (id : ItemId) → fold with_bids (value book (Item id)).bids (map (λ w. (value (rows_of (part entry_worker w entries)) (Item id)).bids) workers)
      ≡ (value (book ++ rows_of entries) (Item id)).bids
  bids_merged_all id = part_merged item_laws (Item id) (λ v. v.bids) (row_bid id) (ap (λ (v : Value). v.bids) (blank_of_none (Item id))) (bids_next id)
      book (value_is_record item_laws item_values (bid_entries book id)) entries workers ordered there

  pub comments_merged_all : (user : ℕ) → fold with_comments (value book (User user)).comments (map (λ w. (value (rows_of (part entry_worker w entries)) (User user)).comments) workers)
      ≡ (value (book ++ rows_of entries) (User user)).comments
  comments_merged_all user = part_merged user_laws (User user) (λ v. v.comments) (row_stars user) (ap (λ (v : Value). v.comments) (blank_of_none (User user))) (comments_next user)
      book tt entries workers ordered there

  pub items_merged_all : (category : ℕ) → fold with_items (value book (Category category)).items (map (λ w. (value (rows_of (part entry_worker w entries)) (Category category)).items) workers)
      ≡ (value (book ++ rows_of entries) (Category category)).items
  items_merged_all category = part_merged category_laws (Category category) (λ v. v.items) (row_listing category) (ap (λ (v : Value). v.items) (blank_of_none (Category category))) (items_next category)
      book (value_is_record category_laws category_values (item_entries book category)) entries workers ordered there
