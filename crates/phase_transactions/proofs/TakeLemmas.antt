-- The shards of a footprint, taken one after the other before anything is read.
use Rattle.std.proofs.Common.{◌≡◌, ◌≢◌, ℕ, ◌<◌, ◌==◌, ◌||◌, Bool, true, false, if◌then◌else◌, List, [], ◌∷◌, length, Option, Some, None, refl, sym, ap, subst, ◌∙◌, inl, inr}
use Rattle.std.proofs.lemmas.Bool.{true≢false, eq-eqb, ne_eqb, or_from}
use Rattle.std.specs.List.{AllByRecursion}
use Rattle.shard_boxes.specs.{Helds.{HeldState}, Keys.{BoxId, KeyState, SeatState, taking, seen_at}}
use Rattle.shard_boxes.specs.{Lines.{IsShardHistory, StartsWith}, States.{ShardState, state_of}}
use Rattle.phase_transactions.proofs.KeyLemmas.{at_each, many, still_taken, held_seat, lines_still, lines_on, lines_taken}
use Rattle.phase_transactions.specs.Workers.{IsIdle}
use Rattle.phase_transactions.specs.inner.Takens.{each_once, is_one_of, AreApart, AreHeldAll, HasTakenAll}

-- none
pub taken_none : (initial : List ShardState) (workers : ℕ) (key : KeyState) → IsIdle key → HasTakenAll initial workers key key [] []
taken_none initial workers key idle = record { numbers = refl; known = tt; taken = tt; holds = idle; others = λ t left. refl; lines = lines_still key }

-- one more
pub taken_more : {initial : List ShardState} {workers : ℕ} {old key new : KeyState} {shards : List ℕ} {held : List HeldState} (s : ℕ) (h : HeldState) → HasTakenAll initial workers old key shards held
    → is_one_of shards s ≡ false → length key.seats ≡ length initial → new ≡ taking key s (seen_at new s) → StartsWith (seen_at new s) (seen_at key s) → h.number ≡ s
    → IsShardHistory initial workers s (seen_at new s) (state_of h.shard) → HasTakenAll initial workers old new (s ∷ shards) (h ∷ held)
taken_more {initial} {workers} {old} {key} {new} {shards} {held} s h its apart seats is later number history =
    let known : s < length key.seats = subst (λ n. s < n) (sym seats) history.known in
    let shows = at_each key new s (held_seat (seen_at new s)) is known in record {
      numbers = λ i. number i ∷ its.numbers i;
      known = subst (λ n. AllByRecursion (λ (k : HeldState). k.number < n) (h ∷ held)) (sym (many key new s (held_seat (seen_at new s)) is)) (subst (λ n. n < length key.seats) (sym number) known, its.known);
      taken = (
        subst (λ n. IsShardHistory initial workers n (seen_at new n) (state_of h.shard)) (sym number) history,
        still_taken key new s (held_seat (seen_at new s)) is initial workers held (ap (λ ns. is_one_of ns s) its.numbers ∙ apart) its.taken,
      );
      holds = λ t. elim (shows t) [
        | inl at ↦ ap (λ (seat : SeatState). seat.holds) at.2 ∙ sym (ap (λ b. b || is_one_of shards t) at.0)
        | inr at ↦ ap (λ (seat : SeatState). seat.holds) at.2 ∙ its.holds t ∙ sym (ap (λ b. b || is_one_of shards t) at.0)
      ];
      others = λ t left. elim (shows t) [
        | inl at ↦ absurd (true≢false (sym (ap (λ b. b || is_one_of shards t) at.0) ∙ left))
        | inr at ↦ at.2 ∙ its.others t (sym (ap (λ b. b || is_one_of shards t) at.0) ∙ left)
      ];
      lines = lines_on its.lines (lines_taken key new s is known later);
    }

-- two, in whichever order
either : (a b : Bool) → (a || (b || false)) ≡ (b || (a || false))
either true true = refl
either a b = refl

pub taken_turned : {initial : List ShardState} {workers : ℕ} {old new : KeyState} {a b : ℕ} {h k : HeldState} → HasTakenAll initial workers old new (a ∷ b ∷ []) (h ∷ k ∷ []) → HasTakenAll initial workers old new (b ∷ a ∷ []) (k ∷ h ∷ [])
taken_turned {a = a} {b = b} its = record {
  numbers = cc its.numbers;
  known = (its.known.1.0, (its.known.0, tt));
  taken = (its.taken.1.0, (its.taken.0, tt));
  holds = λ t. its.holds t ∙ either (a == t) (b == t);
  others = λ t left. its.others t (either (a == t) (b == t) ∙ left);
  lines = its.lines;
}

-- each shard of a footprint is named once
apart_if : (a b : ℕ) (same : Bool) → (a == b) ≡ same → AreApart (if same then a ∷ [] else a ∷ b ∷ [])
apart_if a b true is = (refl, tt)
apart_if a b false is =
    let other : b ≢ a = λ e. true≢false (sym (eq-eqb a b (sym e)) ∙ is) in
    (or_from _ _ (ne_eqb b a other) refl, (refl, tt))

once_apart : (a b : Option ℕ) → AreApart (each_once a b)
once_apart None None = tt
once_apart None (Some b) = (refl, tt)
once_apart (Some a) None = (refl, tt)
once_apart (Some a) (Some b) = apart_if a b (a == b) refl

-- so its shards can go back
pub taken_held : {initial : List ShardState} {workers : ℕ} {boxes : List BoxId} {old key : KeyState} {held : List HeldState} (a b : Option ℕ)
    → HasTakenAll initial workers old key (each_once a b) held → old.boxes ≡ boxes → AreHeldAll initial workers boxes key held
taken_held a b its its_boxes = record {
  boxes_are = its.lines.boxes ∙ its_boxes;
  apart = subst AreApart (sym its.numbers) (once_apart a b);
  known = its.known;
  holds = λ t. its.holds t ∙ ap (λ shards. is_one_of shards t) (sym its.numbers);
  taken = its.taken;
}
