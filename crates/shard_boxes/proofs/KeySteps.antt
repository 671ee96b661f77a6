-- A key after a take or a put at one box.
use Rattle.std.proofs.Common.{◌≡◌, ℕ, zero, suc, ◌<◌, false, List, [], ◌∷◌, ◌++◌, length, slice_index_or, slice_set, Option, sym, refl, ap, ◌∙◌, arith}
use Rattle.std.proofs.lemmas.List.{map-set, get_or-map, get_or-set_same, length-set}
use Rattle.shard_boxes.proofs.BoxSteps.{with_first-head}
use Rattle.shard_boxes.specs.Keys.{SeatState, KeyState, no_seat, seat_at, with_seat, put_seat, seen_at, holds_at, added, entries}
use Rattle.shard_boxes.specs.{Lines.{Line}, Passes.{GrantState}}
use Rattle.shard_boxes.specs.inner.Passing.{Speaks}
use Rattle.shard_boxes.specs.Seats.{own_of, seat_of, boxes_of, key_of}
use Rattle.shard_boxes.specs.{declared.shard_box.Knowledge.{Knowledge}, inner.Steps.{put}}

pub read : (worker : ℕ) (grants : List GrantState) (s : ℕ) (l : GrantState) (x : KeyState) → key_of worker grants ≡ x → s < length grants → l ≡ slice_index_or grants s l → seat_at x s ≡ seat_of l
read worker grants s l x is below at = ap (λ k. seat_at k s) (sym is) ∙ (get_or-map seat_of grants s l no_seat below ∙ ap seat_of (sym at))

-- the seat of a shard after a step of the grant of its box
seat_after : (worker s : ℕ) (grants : List GrantState) (l : GrantState) → s < length grants → seat_at (key_of worker (slice_set grants s l)) s ≡ seat_of l
seat_after worker s grants l below =
    let low : s < length (slice_set grants s l) = omega (arith, length-set grants s l, below) in
    read worker (slice_set grants s l) s l (key_of worker (slice_set grants s l)) refl low (sym (get_or-set_same grants s l l below))

pub seen_after : (worker s : ℕ) (grants : List GrantState) (l : GrantState) → s < length grants → seen_at (key_of worker (slice_set grants s l)) s ≡ l.knows.seen
seen_after worker s grants l below = ap (λ (t : SeatState). t.seen) (seat_after worker s grants l below)

pub holds_after : (worker s : ℕ) (grants : List GrantState) (l : GrantState) → s < length grants → holds_at (key_of worker (slice_set grants s l)) s ≡ l.knows.holds
holds_after worker s grants l below = ap (λ (t : SeatState). t.holds) (seat_after worker s grants l below)

put_own : (v : Knowledge) (line : Option Line) → length v.own ≡ 1 → own_of (put v line) ≡ own_of v ++ added line
put_own v line alone = let s : Speaks v = omega arith in with_first-head v.own (added line) s

-- the boxes that a key is for stay
pub same_places : (grants : List GrantState) (s : ℕ) (l l' : GrantState) → l ≡ slice_index_or grants s l → l'.box_id ≡ l.box_id → boxes_of (slice_set grants s l') ≡ boxes_of grants
same_places [] s l l' at same = refl
same_places (x ∷ rest) zero l l' at same = ap (λ p. p ∷ boxes_of rest) (same ∙ ap (λ (y : GrantState). y.box_id) at)
same_places (x ∷ rest) (suc s) l l' at same = ap (λ ps. x.box_id ∷ ps) (same_places rest s l l' at same)

-- the key after a step of the grant at this box
pub key_after : (f : SeatState → SeatState) (worker s : ℕ) (grants : List GrantState) (l l' : GrantState) (x : KeyState) → key_of worker grants ≡ x → s < length grants → l ≡ slice_index_or grants s l
    → l'.box_id ≡ l.box_id → seat_of l' ≡ f (seat_of l) → key_of worker (slice_set grants s l') ≡ with_seat x s (f (seat_at x s))
key_after f worker s grants l l' x is below at same new =
    let seat = read worker grants s l x is below at in
    let boxes = same_places grants s l l' at same in let seats = map-set seat_of grants s l' in
    (λ i. record { boxes = boxes i; worker = worker; seats = seats i })
    ∙ (λ i. with_seat (is i) s ((new ∙ ap f (sym seat)) i))

pub put_seat_is : (worker : ℕ) (l l' : GrantState) (line : Option Line) → l' ≡ record l { knows = put l.knows line } → l.knows.first ≡ worker → length l.knows.own ≡ 1
    → seat_of l' ≡ put_seat worker (seat_of l) line
put_seat_is worker l l' line new first alone =
    let own = put_own l.knows line alone in
    ap seat_of new ∙ (λ i. record { holds = false; lines = own i; seen = l.knows.seen ++ entries (first i) line })
