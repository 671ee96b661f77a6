-- Slices of few operations.
use Rattle.std.proofs.Common.{ℕ, ◌+◌, ◌*◌, ◌≤◌, Bool, true, false, cond, List, [], ◌∷◌, arith}
use Rattle.std.{proofs.lemmas.Int.{ints}, specs.Prelude.{unsigned_abs, ℤ, ◌+ℤ◌}}
use Rattle.auction_rows.specs.Requests.{same_object}
use Rattle.auction_rows.specs.declared.{values.Stars.Stars, requests.BidEntry.BidEntry, requests.ItemEntry.ItemEntry, requests.Object.Object}
use Rattle.item_shards.specs.declared.shard.slices.Slice.{Slice}
use Rattle.item_shards.specs.declared.shard.slices.Slice.TheVariants as slice
use Rattle.worker_slices.specs.Slicing.{with_slice_changed, slice_with_bid, slice_with_comment, slice_with_item, HasAtMost, HaveAtMost}
use Rattle.worker_slices.specs.declared.slices.Hot.{Hot}

at_most_more : (n m : ℕ) (s : Slice) → n ≤ m → HasAtMost n s → HasAtMost m s
at_most_more n m (slice.Item s) le is = omega arith
at_most_more n m (slice.User s) le is = let comments = is.0 in let rating = is.1 in (omega (arith, comments), omega (arith, rating))
at_most_more n m (slice.Category s) le is = tt

-- as many fit where more do
pub few_more : (n m : ℕ) (hots : List (Object × Hot)) → n ≤ m → HaveAtMost n hots → HaveAtMost m hots
few_more n m [] le few = tt
few_more n m (hot ∷ hots) le few = (at_most_more n m hot.1.slice le few.0, few_more n m hots le few.1)

-- and after one more operation of one slice
one_changed : (n : ℕ) (b : Bool) (change : Slice → Slice) (hot : Hot) → ((s : Slice) → HasAtMost n s → HasAtMost (n + 1) (change s)) → HasAtMost n hot.slice
    → HasAtMost (n + 1) (cond b (record hot { slice = change hot.slice }) hot).slice
one_changed n true change hot each is = each hot.slice is
one_changed n false change hot each is = at_most_more n (n + 1) hot.slice (omega arith) is

pub few_changed : (n : ℕ) (object : Object) (change : Slice → Slice) (hots : List (Object × Hot)) → ((s : Slice) → HasAtMost n s → HasAtMost (n + 1) (change s)) → HaveAtMost n hots → HaveAtMost (n + 1) (with_slice_changed object change hots)
few_changed n object change [] each few = tt
few_changed n object change (hot ∷ hots) each few = (one_changed n (same_object object hot.0) change hot.1 each few.0, few_changed n object change hots each few.1)

pub few_bid : (n : ℕ) (bid : BidEntry) (s : Slice) → HasAtMost n s → HasAtMost (n + 1) (slice_with_bid bid s)
few_bid n bid (slice.Item s) is = omega arith
few_bid n bid (slice.User s) is = at_most_more n (n + 1) (slice.User s) (omega arith) is
few_bid n bid (slice.Category s) is = tt

stars_more : (stars : Stars) (rating : ℤ) (n : ℕ) → unsigned_abs rating ≤ 5 * n → unsigned_abs (rating +ℤ stars.value) ≤ 5 * (n + 1)
stars_more stars rating n h = omega (arith, ints, stars.at_least, stars.at_most)

pub few_comment : (n : ℕ) (stars : Stars) (s : Slice) → HasAtMost n s → HasAtMost (n + 1) (slice_with_comment stars s)
few_comment n stars (slice.Item s) is = at_most_more n (n + 1) (slice.Item s) (omega arith) is
few_comment n stars (slice.User s) is = (let comments = is.0 in omega (arith, comments), stars_more stars s.rating n is.1)
few_comment n stars (slice.Category s) is = tt

pub few_listed : (n : ℕ) (item : ItemEntry) (s : Slice) → HasAtMost n s → HasAtMost (n + 1) (slice_with_item item s)
few_listed n item (slice.Category s) is = tt
few_listed n item s is = at_most_more n (n + 1) s (omega arith) is
