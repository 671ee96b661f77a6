-- The shards of a footprint, put back one after the other, with their lines or as they were.
use Rattle.std.proofs.Common.{◌≡◌, ◌≢◌, ℕ, ◌<◌, ◌==◌, ◌||◌, Bool, true, false, if◌then◌else◌, List, [], ◌∷◌, ◌++◌, Option, Some, None, refl, sym, ap, subst, ◌∙◌, ◌⊎◌, inl, inr, append-nil}
use Rattle.std.{proofs.lemmas.Bool.{false≢true, true≢false}, specs.List.{AllByRecursion}}
use Rattle.shard_boxes.specs.Helds.{HeldState, IsPutWith, taken_at}
use Rattle.shard_boxes.specs.Keys.{BoxId, KeyState, SeatState, seat_at, put_seat, putting, lines_at, seen_at, entries}
use Rattle.shard_boxes.specs.Lines.{Line, MayFollow, StartsWith}
use Rattle.shard_boxes.specs.States.{ShardState}
use Rattle.phase_transactions.proofs.KeyLemmas.{at_each, many, still_taken, seen_still, starts_on, seen_on, lines_still, lines_on}
use Rattle.phase_transactions.specs.{Putting.{HasPut, HasPutAll, KeepsSeen}, Workers.{IsIdle}}
use Rattle.phase_transactions.specs.inner.Takens.{is_one_of, no_line, numbers_of, HasTakenAll, AreHeldAll, AreBack}

-- none
pub none_put : (initial : List ShardState) (key : KeyState) → IsIdle key → HasPutAll initial key key (is_one_of []) (λ t. no_line)
none_put initial key idle = record {
  lines = λ t. refl;
  puts = λ t took. absurd (false≢true took);
  others = λ t left. refl;
  seen = seen_still key;
  idle = idle;
  worker = refl;
  boxes = refl;
  seats = refl;
}

pub none_back : (key : KeyState) → IsIdle key → AreBack key key
none_back key idle = record { lines = lines_still key; seen = λ t. refl; others = λ t free. refl; idle = idle }

-- one more
module _ {initial : List ShardState} {workers : ℕ} {boxes : List BoxId} {key : KeyState} (next : KeyState) {h : HeldState} {held : List HeldState} (its : AreHeldAll initial workers boxes key (h ∷ held)) where
  abbrev rest : ℕ → Bool
  rest = is_one_of (numbers_of held)

  abbrev change : Option Line → SeatState → SeatState
  change line seat = put_seat key.worker seat line

  module _ (line : Option Line) (is : next ≡ putting key h.number line) where
    shows : (t : ℕ) → (((h.number == t) ≡ true) × (h.number ≡ t) × (seat_at next t ≡ change line (seat_at key t))) ⊎ (((h.number == t) ≡ false) × (h.number ≢ t) × (seat_at next t ≡ seat_at key t))
    shows = at_each key next h.number (change line) is its.known.0

    not_again : (t : ℕ) → h.number ≡ t → rest t ≡ false
    not_again t same = subst (λ n. rest n ≡ false) same its.apart.0

    seen_put : KeepsSeen key next
    seen_put t = elim (shows t) [
      | inl at ↦ (entries key.worker line, ap (λ (seat : SeatState). seat.seen) at.2)
      | inr at ↦ ([], ap (λ (seat : SeatState). seat.seen) at.2 ∙ sym (append-nil (seen_at key t)))
    ]

    -- the others are held as they were
    held_still : AreHeldAll initial workers boxes next held
    held_still = record {
      boxes_are = ap (λ (j : KeyState). j.boxes) is ∙ its.boxes_are;
      apart = its.apart.1;
      known = subst (λ n. AllByRecursion (λ (k : HeldState). k.number < n) held) (sym (many key next h.number (change line) is)) its.known.1;
      holds = λ t. elim (shows t) [
        | inl at ↦ ap (λ (seat : SeatState). seat.holds) at.2 ∙ sym (not_again t at.1)
        | inr at ↦ ap (λ (seat : SeatState). seat.holds) at.2 ∙ its.holds t ∙ ap (λ b. b || rest t) at.0
      ];
      taken = still_taken key next h.number (change line) is initial workers held its.apart.0 its.taken.1;
    }

  -- as it was
  pub back_more : {new : KeyState} → next ≡ putting key h.number None → (AreHeldAll initial workers boxes next held → AreBack next new) → AreBack key new
  back_more is rests = let back = rests (held_still None is) in record {
    lines = lines_on (record {
      boxes = ap (λ (j : KeyState). j.boxes) is;
      worker = ap (λ (j : KeyState). j.worker) is;
      seats = many key next h.number (change None) is;
      lines = λ t. elim (shows None is t) [ inl at ↦ ap (λ (seat : SeatState). seat.lines) at.2 ∙ append-nil _ | inr at ↦ ap (λ (seat : SeatState). seat.lines) at.2 ];
      seen = seen_put None is;
    }) back.lines;
    seen = λ t. elim (shows None is t) [
      | inl at ↦ back.seen t ∙ ap (λ (seat : SeatState). seat.seen) at.2 ∙ append-nil _
      | inr at ↦ back.seen t ∙ ap (λ (seat : SeatState). seat.seen) at.2
    ];
    others = λ t free. elim (shows None is t) [
      | inl at ↦ absurd (true≢false (sym (its.holds t ∙ ap (λ b. b || rest t) at.0) ∙ free))
      | inr at ↦ back.others t (ap (λ (seat : SeatState). seat.holds) at.2 ∙ free) ∙ at.2
    ];
    idle = back.idle;
  }

  -- with its line
  pub put_more : {new : KeyState} {line : Line} {owed : ℕ → Line} → IsPutWith initial key next h line → (AreHeldAll initial workers boxes next held → HasPutAll initial next new rest owed)
      → HasPutAll initial key new (is_one_of (h.number ∷ numbers_of held)) (λ t. if h.number == t then line else owed t)
  put_more {new} {line} {owed} put puts =
      let more = puts (held_still (Some line) put.put) in
      let worker : new.worker ≡ key.worker = more.worker ∙ ap (λ (j : KeyState). j.worker) put.put in
      record {
        lines = λ t. elim (shows (Some line) put.put t) [
          | inl at ↦ ap (λ (seat : SeatState). seat.lines) (more.others t (not_again (Some line) put.put t at.1) ∙ at.2)
              ∙ (λ i. if sym at.0 i || rest t then (seat_at key t).lines ++ (if sym at.0 i then line else owed t) ∷ [] else (seat_at key t).lines)
          | inr at ↦ more.lines t ∙ (λ i. if sym at.0 i || rest t then (at.2 i).lines ++ (if sym at.0 i then line else owed t) ∷ [] else (at.2 i).lines)
        ];
        puts = λ t took. elim (shows (Some line) put.put t) [
          | inl at ↦ subst (HasPut initial key new t) (sym (ap (λ b. if b then line else owed t) at.0)) (record {
            found = seen_at key t;
            later = seen_still key t;
            seen = ap (λ (seat : SeatState). seat.seen) (more.others t (not_again (Some line) put.put t at.1) ∙ at.2) ∙ (λ i. seen_at key t ++ (sym worker i, line) ∷ []);
            follows = subst (λ n. MayFollow (taken_at initial key n) line) at.1 put.follows;
          })
          | inr at ↦
              let was = more.puts t (sym (ap (λ b. b || rest t) at.0) ∙ took) in
              subst (HasPut initial key new t) (sym (ap (λ b. if b then line else owed t) at.0))
              (record { found = was.found; later = subst (λ (seat : SeatState). StartsWith was.found seat.seen) at.2 was.later; seen = was.seen; follows = was.follows })
        ];
        others = λ t left. elim (shows (Some line) put.put t) [
          | inl at ↦ absurd (true≢false (sym (ap (λ b. b || rest t) at.0) ∙ left))
          | inr at ↦ more.others t (sym (ap (λ b. b || rest t) at.0) ∙ left) ∙ at.2
        ];
        seen = seen_on key next new (seen_put (Some line) put.put) more.seen;
        idle = more.idle;
        worker = worker;
        boxes = more.boxes ∙ ap (λ (j : KeyState). j.boxes) put.put;
        seats = more.seats ∙ many key next h.number (change (Some line)) put.put;
      }

-- after they were taken
pub taken_and_put : {initial : List ShardState} {workers : ℕ} {old taken back : KeyState} {shards : List ℕ} {held : List HeldState} {owed : ℕ → Line} → HasTakenAll initial workers old taken shards held
    → HasPutAll initial taken back (is_one_of (numbers_of held)) owed → HasPutAll initial old back (is_one_of shards) owed
taken_and_put {initial} {workers} {old} {taken} {back} {shards} {held} {owed} its put = subst (λ list. HasPutAll initial old back (is_one_of list) owed) its.numbers (record {
  lines = λ t. put.lines t ∙ (λ i. if is_one_of (numbers_of held) t then its.lines.lines t i ++ owed t ∷ [] else its.lines.lines t i);
  puts = λ t took.
      let was = put.puts t took in
      record { found = was.found; later = starts_on (seen_at old t) (seen_at taken t) was.found (its.lines.seen t) was.later; seen = was.seen; follows = was.follows };
  others = λ t left. put.others t left ∙ its.others t (sym (ap (λ list. is_one_of list t) its.numbers) ∙ left);
  seen = seen_on old taken back its.lines.seen put.seen;
  idle = put.idle;
  worker = put.worker ∙ its.lines.worker;
  boxes = put.boxes ∙ its.lines.boxes;
  seats = put.seats ∙ its.lines.seats;
})

-- in other words for what was taken, and for what was owed there
line_as : (b : Bool) (lines : List Line) (x y : Line) → (b ≡ true → x ≡ y) → (if b then lines ++ x ∷ [] else lines) ≡ (if b then lines ++ y ∷ [] else lines)
line_as true lines x y same = ap (λ line. lines ++ line ∷ []) (same refl)
line_as false lines x y same = refl

pub put_owed : {initial : List ShardState} {old new : KeyState} {took takes : ℕ → Bool} {owed owes : ℕ → Line} → ((t : ℕ) → takes t ≡ took t) → ((t : ℕ) → took t ≡ true → owed t ≡ owes t)
    → HasPutAll initial old new took owed → HasPutAll initial old new takes owes
put_owed {initial} {old} {new} {took} {takes} {owed} {owes} same is put = record {
  lines = λ t. put.lines t ∙ line_as (took t) (lines_at old t) (owed t) (owes t) (is t) ∙ ap (λ b. if b then lines_at old t ++ owes t ∷ [] else lines_at old t) (sym (same t));
  puts = λ t took. let here = sym (same t) ∙ took in subst (HasPut initial old new t) (is t here) (put.puts t here);
  others = λ t left. put.others t (sym (same t) ∙ left);
  seen = put.seen;
  idle = put.idle;
  worker = put.worker;
  boxes = put.boxes;
  seats = put.seats;
}
