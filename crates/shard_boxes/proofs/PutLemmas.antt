-- A shard that is put back after the line of what was done on it.
use Rattle.std.proofs.Common.{◌≡◌, ℕ, List, Option, Some, None, length, refl, sym, ap, subst, ◌∙◌}
use Rattle.auction_rows.specs.declared.{requests.ItemId.ItemId, requests.BidEntry.BidEntry, replies.Refusal.Refusal}
use Rattle.item_shards.specs.{Contents.{Contents, after_acts, bid_unless}, Looking.{events_of}}
use Rattle.item_shards.specs.ShardContents.{IsSameShard, clock, contents}
use Rattle.item_shards.specs.declared.shard.{Shard.{Shard}, acts.Act.{Act}}
use Rattle.shard_boxes.proofs.EventLemmas.{line_done, line_follows}
use Rattle.shard_boxes.specs.Helds.{HeldState, IsHeldFor, IsPutWith, taken_at}
use Rattle.shard_boxes.specs.inner.Passing.{MayPut}
use Rattle.shard_boxes.specs.Keys.{KeyState, putting}
use Rattle.shard_boxes.specs.Lines.{Line, MayFollow, after_line, bid_acts, line_of}
use Rattle.shard_boxes.specs.States.{ShardState, state_of}

-- a bid that is refused or stored is its two acts
pub bid_done : (shown : Contents) (item : ItemId) (bid : BidEntry) (refused : Option Refusal) → bid_unless refused item bid shown ≡ after_acts shown (events_of shown (bid_acts item bid refused))
bid_done shown item bid None = refl
bid_done shown item bid (Some reason) = refl

-- two acts were done on a shard that is held, at this number: it can go back with their line
module _ {initial : List ShardState} {key : KeyState} {held : HeldState} {number : ℕ} (its : IsHeldFor initial key held number) (index : ℕ) (acts : List Act) (two : length acts ≡ 2) (new : Shard)
    (same : IsSameShard held.shard new) (done : contents new ≡ after_acts (contents held.shard) (events_of (contents held.shard) acts)) (clocked : clock new ≡ number) where
  abbrev owed : Line
  owed = line_of number index acts held.shard

  follows : MayFollow (taken_at initial key held.number) owed
  follows = subst (λ (t : ShardState). MayFollow t owed) its.taken (line_follows held.shard number index acts owed refl its.later)

  pub acted_may : (n : ℕ) → n ≡ held.number → (line : Option Line) → line ≡ Some owed → MayPut (taken_at initial key n) (state_of new) line
  acted_may n is line named =
      subst (λ (at : ℕ × Option Line). MayPut (taken_at initial key at.0) (state_of new) at.1) (λ i. (sym is i, sym named i))
      (follows, line_done held.shard number index acts owed refl new two same done clocked ∙ ap (λ (t : ShardState). after_line t owed) its.taken)

  pub acted_put : (n : ℕ) → n ≡ held.number → (line : Option Line) → line ≡ Some owed → (after : KeyState) → after ≡ putting key n line → IsPutWith initial key after held owed
  acted_put n is line named after put = record { put = put ∙ (λ i. putting key (is i) (named i)); follows = follows }
