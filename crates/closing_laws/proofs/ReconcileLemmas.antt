-- The shards into which all slices are merged stand for the book after the entries.
use Rattle.std.proofs.Common.{◌≡◌, ℕ, ◌+◌, ◌<◌, ◌==◌, Bool, true, false, List, [], ◌∷◌, ◌++◌, map, fold, length, refl, sym, ap, subst, ◌∙◌, arith}
use Rattle.std.specs.List.{list_any, AllByRecursion}
use Rattle.phase_laws.proofs.ListLemmas.{every_from}
use Rattle.phase_laws.proofs.WorkerLemmas.{up_from_ordered, up_from_has, map-up_from}
use Rattle.phase_laws.specs.Order.{part, up_from}
use Rattle.auction_rows.proofs.HistoryLemmas.{book_after-replays}
use Rattle.auction_rows.specs.{Book.{Book, facts_of, bought}, Footprint.{is_hot}}
use Rattle.auction_rows.specs.{History.{book_after, rows_of}, Requests.{shard_of}}
use Rattle.auction_rows.specs.declared.requests.Object.TheVariants.{Item, User, Category}
use Rattle.auction_rows.specs.declared.{requests.ItemId.ItemId, requests.Object.Object, rows.Entry.Entry}
use Rattle.item_shards.specs.Contents.{Contents, bids_merged, comments_merged, items_merged}
use Rattle.item_shards.specs.Slices.{with_bids, with_comments, with_items}
use Rattle.item_shards.specs.{Standing.{ContentsStandsFor}, Values.{Value, blank, value}}
use Rattle.item_shards.specs.declared.shard.slices.CategorySlice.{CategorySlice}
use Rattle.item_shards.specs.declared.shard.slices.UserSlice.{UserSlice}
use Rattle.worker_journals.specs.Journals.{entry_worker}
use Rattle.shard_boxes.specs.States.{ShardState, state_at}
use Rattle.phase_transactions.specs.{Txns.{Setting, hot_of}, Workers.{WorkerState}}
use Rattle.worker_slices.specs.Slicing.{slices_of, slice_of}
use Rattle.closing_laws.proofs.GivenLemmas.{is_known, given_alone}
use Rattle.closing_laws.proofs.MergeLemmas.{value_after_all, as_many}
use Rattle.closing_laws.proofs.PartLemmas.{bids_merged_all, comments_merged_all, items_merged_all}
use Rattle.closing_laws.proofs.{PermutedLemmas.{fold_permuted}, ReceiptLemmas.{sliced}}
use Rattle.closing_laws.proofs.ReplayLemmas.{opening_value, entries_replay, end, end_is, given_stands, items_kept, replays_and_stands}
use Rattle.closing_laws.proofs.SliceLemmas.{merge_at, merge_at-commutes, all_cold, all_hot}
use Rattle.closing_laws.proofs.WorkerLemmas.{part_is, entries_below}
use Rattle.closing_laws.specs.Merging.{merged_with, after_merge, slices_left, IsReconciled}
use Rattle.closing_laws.specs.Phases.{Phase, HasClosed, value_on, counters_of, journal_of, no_receipt}
use Rattle.closing_laws.specs.Standing.{StandFor}

-- entries of the first so many workers are of some of these
all_present : (n : ℕ) (entries : List Entry) → AllByRecursion (λ entry. entry_worker entry < n) entries
    → AllByRecursion (λ entry. list_any (λ v. entry_worker entry == v) (up_from 0 n) ≡ true) entries
all_present n [] below = tt
all_present n (entry ∷ entries) below = (up_from_has 0 n (entry_worker entry) (omega arith) (omega (arith, below.0)), all_present n entries below.1)

abbrev pub rows_by : WorkerState → Book
rows_by receipt = rows_of (journal_of receipt).entries

-- the slices of one object merged, kind by kind
items_folded : (id : ItemId) (receipts : List WorkerState) (v : Value)
    → fold (λ u receipt. merged_with (slice_of (Item id) (value (rows_by receipt) (Item id))) u) v receipts
    ≡ record v { bids = fold with_bids v.bids (map (λ receipt. (value (rows_by receipt) (Item id)).bids) receipts) }
items_folded id [] v = refl
items_folded id (receipt ∷ receipts) v = items_folded id receipts (bids_merged (value (rows_by receipt) (Item id)).bids v)

users_folded : (user : ℕ) (receipts : List WorkerState) (v : Value)
    → fold (λ u receipt. merged_with (slice_of (User user) (value (rows_by receipt) (User user))) u) v receipts
    ≡ record v { comments = fold with_comments v.comments (map (λ receipt. (value (rows_by receipt) (User user)).comments) receipts) }
users_folded user [] v = refl
users_folded user (receipt ∷ receipts) v = users_folded user receipts (comments_merged (value (rows_by receipt) (User user)).comments v)

categories_folded : (category : ℕ) (receipts : List WorkerState) (v : Value)
    → fold (λ u receipt. merged_with (slice_of (Category category) (value (rows_by receipt) (Category category))) u) v receipts
    ≡ record v { items = fold with_items v.items (map (λ receipt. (value (rows_by receipt) (Category category)).items) receipts) }
categories_folded category [] v = refl
categories_folded category (receipt ∷ receipts) v = categories_folded category receipts (items_merged (value (rows_by receipt) (Category category)).items v)

module _ (p : Phase) (closed : HasClosed p) where
  abbrev z : Setting
  z = p.setting

  abbrev workers : List ℕ
  workers = up_from 0 (length p.receipts)

  present : AllByRecursion (λ entry. list_any (λ v. entry_worker entry == v) workers ≡ true) p.entries
  present = all_present (length p.receipts) p.entries (entries_below p closed)

  pub all_sliced : AllByRecursion (λ receipt. receipt.slices ≡ slices_of z.stocks (rows_by receipt)) p.receipts
  all_sliced = every_from (λ receipt. receipt.slices ≡ slices_of z.stocks (rows_by receipt)) p.receipts no_receipt (sliced p closed)

  -- what is made of each worker's journal is what is made of its part of the entries
  by_parts : {R : Type 0} (f : Book → R) → map (λ receipt. f (rows_by receipt)) p.receipts ≡ map (λ w. f (rows_of (part entry_worker w p.entries))) workers
  by_parts f = sym (map-up_from (λ w. f (rows_of (part entry_worker w p.entries))) (λ receipt. f (rows_by receipt)) no_receipt 0 p.receipts
      (λ i less. ap (λ w. f (rows_of (part entry_worker w p.entries))) {x = 0 + i} {y = i} (omega arith) ∙ ap (λ entries. f (rows_of entries)) (part_is p closed i)))

  module _ (book : Book) (opens : StandFor p.initial p.counters book []) where
    abbrev after : Book
    after = book ++ rows_of p.entries

    left_is : end p closed book opens ≡ after
    left_is = end_is p closed book opens ∙ book_after-replays z.opening book p.entries (entries_replay p closed book opens)

    kept : (item : ItemId) → is_hot (hot_of z) (Item item) ≡ true → (facts_of after item ≡ facts_of book item) × (bought after item ≡ bought book item)
    kept item hot = subst (λ b. (facts_of b item ≡ facts_of book item) × (bought b item ≡ bought book item)) left_is (items_kept p closed book opens item hot)

    -- a hot object's value merged with the slices is its value in the end
    hot_value : (object : Object) → is_hot (hot_of z) object ≡ true
        → fold (λ u receipt. merged_with (slice_of object (value (rows_by receipt) object)) u) (value book object) p.receipts ≡ value after object
    hot_value (Item id) hot =
        let bids = ap (fold with_bids (value book (Item id)).bids) (by_parts (λ rows. (value rows (Item id)).bids))
        ∙ bids_merged_all book p.entries workers (up_from_ordered 0 (length p.receipts)) present id in
        items_folded id p.receipts (value book (Item id))
        ∙ (λ i. record blank { facts = sym (kept id hot).0 i; bought = sym (kept id hot).1 i; bids = bids i })
    hot_value (User user) hot =
        users_folded user p.receipts (value book (User user))
        ∙ ap (λ (s : UserSlice). record blank { comments = s }) (ap (fold with_comments (value book (User user)).comments) (by_parts (λ rows. (value rows (User user)).comments))
        ∙ comments_merged_all book p.entries workers (up_from_ordered 0 (length p.receipts)) present user)
    hot_value (Category category) hot =
        categories_folded category p.receipts (value book (Category category))
        ∙ ap (λ (s : CategorySlice). record blank { items = s }) (ap (fold with_items (value book (Category category)).items) (by_parts (λ rows. (value rows (Category category)).items))
        ∙ items_merged_all book p.entries workers (up_from_ordered 0 (length p.receipts)) present category)

    some : 0 < length p.given
    some = subst (λ n. 0 < n) (sym closed.boxes.0) closed.begun.some

    -- what the boxes gave back of a hot object is what the phase began with, and of another one what it has in the end
    given_hot : (object : Object) → is_hot (hot_of z) object ≡ true → value_on p.given object ≡ value book object
    given_hot object hot = given_alone p closed object hot ∙ opening_value p closed book opens object

    given_cold : (object : Object) → is_hot (hot_of z) object ≡ false → value_on p.given object ≡ value after object
    given_cold object cold =
        ap (λ n. (state_at p.given (shard_of object n)).contents object) closed.boxes.0
        ∙ given_stands p closed book opens (shard_of object (length p.initial)) (is_known p closed object) object refl cold
        ∙ ap (λ b. value b object) left_is

    all_merged : (object : Object) (b : Bool) → is_hot (hot_of z) object ≡ b → fold (merge_at object) (value_on p.given object) (slices_left p.receipts) ≡ value after object
    all_merged object true hot =
        all_hot z.stocks rows_by object p.receipts all_sliced closed.begun.distinct hot (value_on p.given object)
        ∙ ap (λ v. fold (λ u receipt. merged_with (slice_of object (value (rows_by receipt) object)) u) v p.receipts) (given_hot object hot)
        ∙ hot_value object hot
    all_merged object false cold = all_cold z.stocks rows_by object p.receipts all_sliced cold (value_on p.given object) ∙ given_cold object cold

    module _ (closing : List ShardState) (reconciled : IsReconciled p closing) where
      merged_value : (object : Object) → value_on (fold after_merge p.given reconciled.order) object ≡ value after object
      merged_value object =
          value_after_all reconciled.order p.given object some
          ∙ fold_permuted (merge_at object) (merge_at-commutes object) (slices_left p.receipts) reconciled.order reconciled.each (value_on p.given object)
          ∙ all_merged object (is_hot (hot_of z) object) refl

      closing_stands : (s : ℕ) → s < length closing → ContentsStandsFor s (length closing) (state_at closing s).contents after []
      closing_stands s known object here cold =
          ap (λ (contents : Contents). contents object) (reconciled.contents s (subst (λ n. s < n) reconciled.count known))
          ∙ ap (λ t. (state_at (fold after_merge p.given reconciled.order) t).contents object)
          (sym here ∙ ap (shard_of object) (reconciled.count ∙ sym (as_many reconciled.order p.given)))
          ∙ merged_value object

      pub reconciled_stand : StandFor closing (map counters_of p.receipts) (book_after z.opening book p.entries) []
      reconciled_stand = record {
        shards = λ s known. subst (λ b. ContentsStandsFor s (length closing) (state_at closing s).contents b []) (sym left_is ∙ end_is p closed book opens) (closing_stands s known);
        counts = (replays_and_stands p closed book opens).stand.counts;
      }

    -- where nothing is hot there is nothing to merge
    pub joined_stand : hot_of z ≡ [] → StandFor p.given (map counters_of p.receipts) (book_after z.opening book p.entries) []
    joined_stand none = subst (StandFor p.given (map counters_of p.receipts) (book_after z.opening book p.entries)) none (replays_and_stands p closed book opens).stand
