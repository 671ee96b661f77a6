-- What a key shows of each shard after it took one or put one back.
use Rattle.std.proofs.Common.{◌≡◌, ◌≢◌, ℕ, ◌<◌, ◌==◌, true, false, cond, if◌then◌else◌, List, [], ◌∷◌, ◌++◌, length, Option, refl, sym, ap, subst, ◌∙◌, ◌⊎◌, inl, inr, append-nil, append_assoc}
use Rattle.std.{proofs.lemmas.Bool.{Decides.{eqb_tells}, or_parts}, specs.List.{AllByRecursion}}
use Rattle.shard_boxes.proofs.SeatLemmas.{seat-same, seat-other, taking-same, taking-other, putting-same, putting-other, length-with_seat}
use Rattle.shard_boxes.specs.Helds.{HeldState}
use Rattle.shard_boxes.specs.Keys.{KeyState, SeatState, seat_at, with_seat, put_seat, taking, putting, lines_at, holds_at, seen_at, added}
use Rattle.shard_boxes.specs.Lines.{Line, StartsWith, IsShardHistory}
use Rattle.shard_boxes.specs.States.{ShardState, state_of}
use Rattle.phase_transactions.specs.{Putting.{KeepsSeen, HasSameLines}, Workers.{IsIdle}}
use Rattle.phase_transactions.specs.inner.{HeldShards.{IsAsTaken}, Takens.{is_one_of, numbers_of}}
use borrow.Author.Tests.{eqb-false}

-- what a key has seen goes on where it stays, and from step to step
pub seen_still : (key : KeyState) → KeepsSeen key key
seen_still key t = ([], sym (append-nil (seen_at key t)))

pub starts_on : (seen next last : List (ℕ × Line)) → StartsWith next seen → StartsWith last next → StartsWith last seen
starts_on seen next last a b = (a.0 ++ b.0, b.1 ∙ ap (λ lines. lines ++ b.0) a.1 ∙ append_assoc seen a.0 b.0)

pub seen_on : (k k1 k2 : KeyState) → KeepsSeen k k1 → KeepsSeen k1 k2 → KeepsSeen k k2
seen_on k k1 k2 first second t = starts_on (seen_at k t) (seen_at k1 t) (seen_at k2 t) (first t) (second t)

-- and so with its lines
pub lines_still : (key : KeyState) → HasSameLines key key
lines_still key = record { boxes = refl; worker = refl; seats = refl; lines = λ t. refl; seen = seen_still key }

pub lines_on : {k k1 k2 : KeyState} → HasSameLines k k1 → HasSameLines k1 k2 → HasSameLines k k2
lines_on {k} {k1} {k2} first second = record {
  boxes = second.boxes ∙ first.boxes;
  worker = second.worker ∙ first.worker;
  seats = second.seats ∙ first.seats;
  lines = λ t. second.lines t ∙ first.lines t;
  seen = seen_on k k1 k2 first.seen second.seen;
}

-- a key of which the seat of one shard has changed
module _ (key new : KeyState) (s : ℕ) (change : SeatState → SeatState) (is : new ≡ with_seat key s (change (seat_at key s))) where
  pub there : (t : ℕ) → s ≢ t → seat_at new t ≡ seat_at key t
  there t apart = ap (λ j. seat_at j t) is ∙ seat-other key s t (change (seat_at key s)) (λ e. apart (sym e))

  pub many : length new.seats ≡ length key.seats
  many = ap (λ (j : KeyState). length j.seats) is ∙ length-with_seat key s (change (seat_at key s))

  -- what it shows of each
  pub at_each : s < length key.seats → (t : ℕ) → (((s == t) ≡ true) × (s ≡ t) × (seat_at new t ≡ change (seat_at key t))) ⊎ (((s == t) ≡ false) × (s ≢ t) × (seat_at new t ≡ seat_at key t))
  at_each known t = elim (eqb_tells s t) [
    | inl h ↦ inl (h.0, h.1, subst (λ n. seat_at new n ≡ change (seat_at key n)) h.1 (ap (λ j. seat_at j s) is ∙ seat-same key s (change (seat_at key s)) known))
    | inr h ↦ inr (h.0, h.1, there t h.1)
  ]

  -- shards that are other ones are as they were taken
  pub still_taken : (initial : List ShardState) (workers : ℕ) (held : List HeldState) → is_one_of (numbers_of held) s ≡ false → AllByRecursion (IsAsTaken initial workers key) held → AllByRecursion (IsAsTaken initial workers new) held
  still_taken initial workers [] apart all = tt
  still_taken initial workers (h ∷ held) apart all =
      let not = or_parts (h.number == s) (is_one_of (numbers_of held) s) apart in (
        subst (λ (seat : SeatState). IsShardHistory initial workers h.number seat.seen (state_of h.shard)) (sym (there h.number (λ e. eqb-false h.number s not.0 (sym e)))) all.0,
        still_taken initial workers held not.1 all.1,
      )

-- a key that took a shard shows the same lines
abbrev pub held_seat : List (ℕ × Line) → SeatState → SeatState
held_seat seen seat = record seat { holds = true; seen = seen }

pub lines_taken : (key new : KeyState) (s : ℕ) → new ≡ taking key s (seen_at new s) → s < length key.seats → StartsWith (seen_at new s) (seen_at key s) → HasSameLines key new
lines_taken key new s is known later =
    let shows = at_each key new s (held_seat (seen_at new s)) is known in record {
      boxes = ap (λ (j : KeyState). j.boxes) is;
      worker = ap (λ (j : KeyState). j.worker) is;
      seats = many key new s (held_seat (seen_at new s)) is;
      lines = λ t. elim (shows t) [ inl at ↦ ap (λ (seat : SeatState). seat.lines) at.2 | inr at ↦ ap (λ (seat : SeatState). seat.lines) at.2 ];
      seen = λ t. elim (shows t) [
        | inl at ↦ subst (λ n. StartsWith (seen_at new n) (seen_at key n)) at.1 later
        | inr at ↦ ([], ap (λ (seat : SeatState). seat.seen) at.2 ∙ sym (append-nil (seen_at key t)))
      ];
    }

-- after a take and a put of one shard the key has one line more there, and no other list of it changes
module _ (key : KeyState) (s : ℕ) (seen : List (ℕ × Line)) (line : Option Line) (known : s < length key.seats) where
  put_here : seat_at (putting (taking key s seen) s line) s ≡ put_seat key.worker (record (seat_at key s) { holds = true; seen = seen }) line
  put_here =
      putting-same (taking key s seen) s line (subst (λ n. s < n) (sym (length-with_seat key s (held_seat seen (seat_at key s)))) known)
      ∙ ap (λ seat. put_seat key.worker seat line) (taking-same key s seen known)

  put_there : (t : ℕ) → t ≢ s → seat_at (putting (taking key s seen) s line) t ≡ seat_at key t
  put_there t other = putting-other (taking key s seen) s t line other ∙ taking-other key s t seen other

  pub lines_put : (t : ℕ) → lines_at (putting (taking key s seen) s line) t ≡ (if t == s then lines_at key s ++ added line else lines_at key t)
  lines_put t = elim (eqb_tells t s) [
    | inl h ↦ ap (λ n. lines_at (putting (taking key s seen) s line) n) h.1 ∙ ap (λ (seat : SeatState). seat.lines) put_here ∙ sym (ap (λ b. cond b (lines_at key s ++ added line) (lines_at key t)) h.0)
    | inr h ↦ ap (λ (seat : SeatState). seat.lines) (put_there t h.1) ∙ sym (ap (λ b. cond b (lines_at key s ++ added line) (lines_at key t)) h.0)
  ]

  pub idle_put : IsIdle key → IsIdle (putting (taking key s seen) s line)
  idle_put idle t = elim (eqb_tells t s) [
    | inl h ↦ ap (λ n. holds_at (putting (taking key s seen) s line) n) h.1 ∙ ap (λ (seat : SeatState). seat.holds) put_here
    | inr h ↦ ap (λ (seat : SeatState). seat.holds) (put_there t h.1) ∙ idle t
  ]
