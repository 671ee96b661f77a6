-- A shard that is held.
use Rattle.std.specs.Coded.{Coded, code_by, coded×, coded_ℕ}
use Rattle.std.specs.Prelude.{◌≡◌, ◌+◌, ◌<◌, ◌≤◌, ◌^◌, ℕ, true, List, Option, Some, None, refl}
use Rattle.auction_rows.specs.declared.requests.Object.TheVariants.{Item}
use Rattle.item_shards.specs.CommitNumbers.{last_number}
use Rattle.item_shards.specs.ShardContents.{clock, contents, LiesIn}
use Rattle.item_shards.specs.declared.shard.Shard.{Shard}
use Rattle.item_shards.specs.contracts.shard.Shard.{the_row as shard_row}
use Rattle.shard_boxes.specs.Keys.{KeyState, holds_at, putting, seen_at}
use Rattle.shard_boxes.specs.Lines.{Line, after_lines, after_line, seen_line, MayFollow}
use Rattle.shard_boxes.specs.States.{ShardState, state_at, state_of}
use Rattle.shard_boxes.specs.declared.line.{ItemBid.{ItemBid}, Line.{Line as MadeLine}}

-- what a held shard shows
pub record HeldState : Type 0 where
  -- the shard's number
  pub number : ℕ
  -- the shard as it is
  pub shard : Shard

-- a held shard is stored as the pair of its number and the shard
abbrev pub held_code : Coded HeldState
held_code =
    code_by (ℕ × Shard) (coded× coded_ℕ shard_row.coded)
    (λ h. (h.number, h.shard)) (λ p. record { number = p.0; shard = p.1 }) (λ _. refl)

-- the shard as the key took it: the one with which the phase opened, after the lines that the key
-- has seen
abbrev pub taken_at : List ShardState → KeyState → ℕ → ShardState
taken_at initial key s = after_lines (state_at initial s) (seen_at key s)

-- a shard may go back as it was taken, or after a line that the caller made: it tells the clock as
-- taken, and a greater number
abbrev pub MayGoBack : ShardState → ShardState → Option MadeLine → Type 0
MayGoBack taken now None = now ≡ taken
MayGoBack taken now (Some line) =
    (line.before ≡ taken.clock) × (taken.clock < line.number)
    × (now ≡ after_line taken (seen_line taken line))

-- a shard that can go back with a line at this number
pub record IsHeldFor (initial : List ShardState) (key : KeyState) (held : HeldState)
    (number : ℕ) : Type 0 where
  -- the key holds it
  pub holder : holds_at key held.number ≡ true
  -- it is as it was taken
  pub taken : state_of held.shard ≡ taken_at initial key held.number
  -- the number follows its clock
  pub later : clock held.shard < number
  -- and is not past the last one
  pub within : number ≤ last_number

-- a bid can be done on a shard
pub record CanBid (shard : Shard) (bid : ItemBid) : Type 0 where
  -- its item lies there
  pub here : LiesIn shard (Item bid.item)
  -- and can count one bid more
  pub count : (contents shard (Item bid.item)).bids.bids + 1 < 2 ^ 64

-- a shard that the key holds was put back with a line
pub record IsPutWith (initial : List ShardState) (old new : KeyState) (held : HeldState)
    (line : Line) : Type 0 where
  -- the key's worker put the line
  pub put : new ≡ putting old held.number (Some line)
  -- it may follow the shard as it was taken
  pub follows : MayFollow (taken_at initial old held.number) line
