-- For whom a pass speaks, and when its shard may go back.
use Rattle.std.specs.Prelude.{◌≡◌, ◌<◌, true, length, Option, Some, None}
use Rattle.shard_boxes.specs.Lines.{Line, after_line, MayFollow}
use Rattle.shard_boxes.specs.{States.{ShardState}, declared.shard_box.Knowledge.{Knowledge}}

-- the pass speaks for some worker
abbrev pub Speaks : Knowledge → Type 0
Speaks v = 0 < length v.own

-- the pass speaks for all workers of its phase
pub record SpeaksForAll (v : Knowledge) : Type 0 where
  -- its first worker is the first of all
  pub from : v.first ≡ 0
  -- its workers are all of them
  pub all : length v.own ≡ v.workers
  -- it speaks for some worker
  pub some : Speaks v

-- the pass has the shard, and speaks for all workers: with another shard it can open a phase
abbrev pub IsSpare : Knowledge → Type 0
IsSpare v = SpeaksForAll v × (v.holds ≡ true)

-- a shard may be put back after a line that may follow, or as it was taken
abbrev pub MayPut : ShardState → ShardState → Option Line → Type 0
MayPut taken now None = now ≡ taken
MayPut taken now (Some line) = MayFollow taken line × (now ≡ after_line taken line)
