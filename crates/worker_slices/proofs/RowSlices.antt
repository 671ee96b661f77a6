-- Slices of rows: one row more is the acts that write it.
use Rattle.std.proofs.Common.{◌≡◌, ℕ, ◌++◌, ◌∷◌, [], Bool, true, false, cond, List, length, Option, refl, ap, ◌∙◌}
use Rattle.auction_rows.specs.{Book.{Book, bid_entry, item_entry}, Requests.{same_object}}
use Rattle.auction_rows.specs.declared.requests.Object.TheVariants.{Item, User, Category}
use Rattle.auction_rows.specs.declared.{requests.Facts.Facts, requests.Object.Object, rows.Row.Row}
use Rattle.auction_rows.specs.declared.rows.Row.TheVariants as row
use Rattle.item_shards.proofs.CountLemmas.{bids_at_most, comments_at_most, rating_at_most}
use Rattle.item_shards.{proofs.RowLemmas.{value_next}, specs.Values.{Value, value}}
use Rattle.item_shards.specs.{Writing.{writes_of}, declared.shard.slices.Slice.{Slice}}
use Rattle.item_shards.specs.Contents.{Contents, after_acts as acts_on_contents, changed as changed_contents, with_facts, bid_on as bid_on_value, bought_of, comment_about as comment_about_value, item_listed as item_listed_value}
use Rattle.worker_slices.specs.Slicing.{slice_of, slices_of, slice_with_bid, slice_with_comment, slice_with_item, with_slice_changed, slices_after_acts, HasAtMost, HaveAtMost}
use Rattle.worker_slices.specs.declared.slices.Hot.{Hot}

-- the slices that have the values of contents
abbrev slices_on : List (Object × Option (Facts × ℕ)) → Contents → List (Object × Hot)
slices_on stocks contents = Rattle.std.specs.Prelude.map (λ stock. (stock.0, record { stock = stock.1; slice = slice_of stock.0 (contents stock.0) })) stocks

-- a change of an object's value that its slice shows
seen_in : (b : Bool) (o : Object) (stock : Option (Facts × ℕ)) (change : Value → Value) (seen : Slice → Slice) (v : Value) → slice_of o (change v) ≡ seen (slice_of o v)
    → ◌≡◌ {A = Hot} (record { stock = stock; slice = slice_of o (cond b (change v) v) }) (cond b (record { stock = stock; slice = seen (slice_of o v) }) (record { stock = stock; slice = slice_of o v }))
seen_in true o stock change seen v is = λ i. record { stock = stock; slice = is i }
seen_in false o stock change seen v is = refl

shown : (object : Object) (change : Value → Value) (seen : Slice → Slice) → ((o : Object) (v : Value) → slice_of o (change v) ≡ seen (slice_of o v))
    → (stocks : List (Object × Option (Facts × ℕ))) (contents : Contents) → slices_on stocks (changed_contents object change contents) ≡ with_slice_changed object seen (slices_on stocks contents)
shown object change seen each [] contents = refl
shown object change seen each (stock ∷ stocks) contents = λ i.
    (stock.0, seen_in (same_object object stock.0) stock.0 stock.1 change seen (contents stock.0) (each stock.0 (contents stock.0)) i) ∷ shown object change seen each stocks contents i

-- and one that it does not show
same_if : (b : Bool) (o : Object) (change : Value → Value) (v : Value) → slice_of o (change v) ≡ slice_of o v → slice_of o (cond b (change v) v) ≡ slice_of o v
same_if true o change v is = is
same_if false o change v is = refl

not_shown : (object : Object) (change : Value → Value) → ((o : Object) (v : Value) → slice_of o (change v) ≡ slice_of o v)
    → (stocks : List (Object × Option (Facts × ℕ))) (contents : Contents) → slices_on stocks (changed_contents object change contents) ≡ slices_on stocks contents
not_shown object change each [] contents = refl
not_shown object change each (stock ∷ stocks) contents = λ i.
    (stock.0, record { stock = stock.1; slice = same_if (same_object object stock.0) stock.0 change (contents stock.0) (each stock.0 (contents stock.0)) i }) ∷ not_shown object change each stocks contents i

bids_show : (bid : _) (o : Object) (v : Value) → slice_of o (bid_on_value bid v) ≡ slice_with_bid bid (slice_of o v)
bids_show bid (Item id) v = refl
bids_show bid o v = refl

comments_show : (stars : _) (o : Object) (v : Value) → slice_of o (comment_about_value stars v) ≡ slice_with_comment stars (slice_of o v)
comments_show stars (Item id) v = refl
comments_show stars o v = refl

items_show : (item : _) (o : Object) (v : Value) → slice_of o (item_listed_value item v) ≡ slice_with_item item (slice_of o v)
items_show item (Item id) v = refl
items_show item o v = refl

facts_hide : (facts : Facts) (o : Object) (v : Value) → slice_of o (with_facts facts v) ≡ slice_of o v
facts_hide facts (Item id) v = refl
facts_hide facts o v = refl

purchases_hide : (quantity : ℕ) (o : Object) (v : Value) → slice_of o (bought_of quantity v) ≡ slice_of o v
purchases_hide quantity (Item id) v = refl
purchases_hide quantity o v = refl

written : (stocks : List (Object × Option (Facts × ℕ))) (contents : Contents) (one : Row) → slices_on stocks (acts_on_contents contents (writes_of one)) ≡ slices_after_acts (slices_on stocks contents) (writes_of one)
written stocks contents (row.Item r) =
    let stored = changed_contents (Item r.id) (with_facts r.facts) contents in
    shown (Category r.facts.category) (item_listed_value (item_entry r)) (slice_with_item (item_entry r)) (items_show (item_entry r)) stocks stored
    ∙ ap (with_slice_changed (Category r.facts.category) (slice_with_item (item_entry r))) (not_shown (Item r.id) (with_facts r.facts) (facts_hide r.facts) stocks contents)
written stocks contents (row.Bid r) = shown (Item r.item) (bid_on_value (bid_entry r)) (slice_with_bid (bid_entry r)) (bids_show (bid_entry r)) stocks contents
written stocks contents (row.Comment r) = shown (User r.about) (comment_about_value r.stars) (slice_with_comment r.stars) (comments_show r.stars) stocks contents
written stocks contents (row.Buy r) = not_shown (Item r.item) (bought_of r.quantity) (purchases_hide r.quantity) stocks contents

pub row_more : (stocks : List (Object × Option (Facts × ℕ))) (rows : Book) (one : Row) → slices_of stocks (rows ++ one ∷ []) ≡ slices_after_acts (slices_of stocks rows) (writes_of one)
row_more stocks rows one = (λ i. slices_on stocks (λ object. value_next rows one object i)) ∙ written stocks (value rows) one

-- rows make slices of at most as many operations
few_at : (o : Object) (rows : Book) → HasAtMost (length rows) (slice_of o (value rows o))
few_at (Item id) rows = bids_at_most rows id
few_at (User user) rows = (comments_at_most rows user, rating_at_most rows user)
few_at (Category category) rows = tt

pub few_rows : (stocks : List (Object × Option (Facts × ℕ))) (rows : Book) → HaveAtMost (length rows) (slices_of stocks rows)
few_rows [] rows = tt
few_rows (stock ∷ stocks) rows = (few_at stock.0 rows, few_rows stocks rows)
