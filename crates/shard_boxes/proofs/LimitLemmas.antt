-- How far acts raise counts and ratings.
use Rattle.std.proofs.Common.{ℕ, ◌+◌, ◌*◌, ◌<◌, ◌≤◌, ◌^◌, ℤ, ◌+ℤ◌, FitsSigned, Bool, true, false, cond, [], ◌∷◌, arith, unsigned_abs}
use Rattle.std.{proofs.lemmas.Int.{ints, fits_signed_from_abs}, specs.Int.{w64}}
use Rattle.phase_laws.specs.Replay.{SawInTurn}
use Rattle.auction_rows.specs.Requests.{same_object}
use Rattle.auction_rows.specs.declared.requests.Object.TheVariants.{Item, User, Category}
use Rattle.auction_rows.specs.declared.{values.Stars.Stars, requests.ItemId.ItemId, requests.Object.Object}
use Rattle.item_shards.specs.CommitNumbers.{last_number}
use Rattle.item_shards.specs.Contents.{Contents, changed, with_facts, bid_on, bought_of, comment_about, item_listed, after_act, after_acts}
use Rattle.item_shards.specs.Events.{Event, AddItem, ListItem, Bid, Comment, Buy, Look}
use Rattle.item_shards.specs.Values.{Value}
use Rattle.shard_boxes.specs.{Limits.{SumsFit}, Lines.{Line, after_line}}
use Rattle.shard_boxes.specs.States.{ShardState, IsWithin}
use Rattle.shard_boxes.specs.declared.limits.TheConstants.{MOST_KEPT}

-- counts of at most n, and ratings of at most r away from 0
record WithinBy (n r : ℕ) (contents : Contents) : Type 0 where
  bids : (id : ItemId) → (contents (Item id)).bids.bids ≤ n
  comments : (user : ℕ) → (contents (User user)).comments.comments ≤ n
  ratings : (user : ℕ) → unsigned_abs (contents (User user)).comments.rating ≤ r

-- a change by which a count rises by at most 1, and a rating goes at most 5 further from 0
record IsSmall (change : Value → Value) : Type 0 where
  bids : (v : Value) → (change v).bids.bids ≤ v.bids.bids + 1
  comments : (v : Value) → (change v).comments.comments ≤ v.comments.comments + 1
  rating : (v : Value) → unsigned_abs (change v).comments.rating ≤ unsigned_abs v.comments.rating + 5

changed_within : (object : Object) (change : Value → Value) (contents : Contents) (n r : ℕ) → IsSmall change → WithinBy n r contents → WithinBy (n + 1) (r + 5) (changed object change contents)
changed_within object change contents n r small h = record {
  bids = λ id. one_bids (same_object object (Item id)) (contents (Item id)) (h.bids id);
  comments = λ user. one_comments (same_object object (User user)) (contents (User user)) (h.comments user);
  ratings = λ user. one_rating (same_object object (User user)) (contents (User user)) (h.ratings user);
} where
  one_bids : (b : Bool) (v : Value) → v.bids.bids ≤ n → (cond b (change v) v).bids.bids ≤ n + 1
  one_bids true v le = omega (arith, small.bids v, le)
  one_bids false v le = omega (arith, le)

  one_comments : (b : Bool) (v : Value) → v.comments.comments ≤ n → (cond b (change v) v).comments.comments ≤ n + 1
  one_comments true v le = omega (arith, small.comments v, le)
  one_comments false v le = omega (arith, le)

  one_rating : (b : Bool) (v : Value) → unsigned_abs v.comments.rating ≤ r → unsigned_abs (cond b (change v) v).comments.rating ≤ r + 5
  one_rating true v le = omega (arith, small.rating v, le)
  one_rating false v le = omega (arith, le)

weaken : (n m r q : ℕ) (contents : Contents) → n ≤ m → r ≤ q → WithinBy n r contents → WithinBy m q contents
weaken n m r q contents a b h = record {
  bids = λ id. omega (arith, h.bids id, a);
  comments = λ user. omega (arith, h.comments user, a);
  ratings = λ user. omega (arith, h.ratings user, b);
}

further : (z : ℤ) (stars : Stars) → unsigned_abs (z +ℤ stars.value) ≤ unsigned_abs z + 5
further z stars = omega (arith, ints, stars.at_least, stars.at_most)

act_within : (act : Event) (contents : Contents) (n r : ℕ) → WithinBy n r contents → WithinBy (n + 1) (r + 5) (after_act contents act)
act_within (AddItem id facts) contents n r h = changed_within (Item id) (with_facts facts) contents n r (record { bids = λ v. omega arith; comments = λ v. omega arith; rating = λ v. omega arith }) h
act_within (ListItem category entry) contents n r h = changed_within (Category category) (item_listed entry) contents n r (record { bids = λ v. omega arith; comments = λ v. omega arith; rating = λ v. omega arith }) h
act_within (Bid id entry) contents n r h = changed_within (Item id) (bid_on entry) contents n r (record { bids = λ v. omega arith; comments = λ v. omega arith; rating = λ v. omega arith }) h
act_within (Comment user stars) contents n r h = changed_within (User user) (comment_about stars) contents n r (record { bids = λ v. omega arith; comments = λ v. omega arith; rating = λ v. further v.comments.rating stars }) h
act_within (Buy id quantity) contents n r h = changed_within (Item id) (bought_of quantity) contents n r (record { bids = λ v. omega arith; comments = λ v. omega arith; rating = λ v. omega arith }) h
act_within (Look shown) contents n r h = weaken n (n + 1) r (r + 5) contents (omega arith) (omega arith) h

two_within : (first second : Event) (contents : Contents) (n r : ℕ) → WithinBy n r contents → WithinBy (n + 1 + 1) (r + 5 + 5) (after_acts contents (first ∷ second ∷ []))
two_within first second contents n r h = act_within second (after_act contents first) (n + 1) (r + 5) (act_within first contents n r h)

-- the limits go with the clock, which each line raises
pub line_within : (state : ShardState) (line : Line) → IsWithin state → state.clock < line.number → IsWithin (after_line state line)
line_within state line h later =
    let n : ℕ = MOST_KEPT + 2 * state.clock in let r : ℕ = 5 * MOST_KEPT + 10 * state.clock in
    let after = two_within line.acts.first line.acts.second state.contents n r (record { bids = h.bids; comments = h.comments; ratings = h.ratings }) in
    record {
      bids = λ id. omega (arith, after.bids id, later);
      comments = λ user. omega (arith, after.comments user, later);
      ratings = λ user. omega (arith, after.ratings user, later);
    }

rating_fits : (z : ℤ) (stars : Stars) (r : ℕ) → unsigned_abs z ≤ r → r + 5 < 2 ^ 63 → FitsSigned w64 (z +ℤ stars.value)
rating_fits z stars r le small = fits_signed_from_abs w64 (z +ℤ stars.value) (omega (arith, further z stars, le, small))

act_fits : (act : Event) (contents : Contents) (n r : ℕ) → WithinBy n r contents → n + 1 < 2 ^ 64 → r + 5 < 2 ^ 63 → SumsFit contents act
act_fits (Bid id entry) contents n r h a b = omega (arith, h.bids id, a)
act_fits (Comment user stars) contents n r h a b =
    (rating_fits (contents (User user)).comments.rating stars r (h.ratings user) b, omega (arith, h.comments user, a))
act_fits act contents n r h a b = tt

pub two_fit : (state : ShardState) (first second : Event) → IsWithin state → state.clock < last_number
    → SawInTurn SumsFit after_act state.contents (first ∷ second ∷ [])
two_fit state first second h below =
    let n : ℕ = MOST_KEPT + 2 * state.clock in let r : ℕ = 5 * MOST_KEPT + 10 * state.clock in
    let now : WithinBy n r state.contents = record { bids = h.bids; comments = h.comments; ratings = h.ratings } in
    let then : WithinBy (n + 1) (r + 5) (after_act state.contents first) = act_within first state.contents n r now in (
      act_fits first state.contents n r now (omega (arith, below)) (omega (arith, below)),
      (act_fits second (after_act state.contents first) (n + 1) (r + 5) then (omega (arith, below)) (omega (arith, below)), tt),
    )
