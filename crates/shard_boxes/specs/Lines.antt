-- The lines that transactions leave with a shard, and the shard that they make.
use Rattle.std.specs.List.{AllByRecursion}
use Rattle.std.specs.Prelude.{◌≡◌, ℕ, ◌<◌, List, [], ◌∷◌, ◌++◌, length, map, Option, Some, None}
use Rattle.phase_laws.specs.{Numbers.{IsLinkedFrom}, Order.{IsAscendingByNumber, part}}
use Rattle.phase_laws.specs.Replay.{SawInTurn}
use Rattle.auction_rows.specs.declared.requests.Object.TheVariants.{Item}
use Rattle.auction_rows.specs.declared.{requests.ItemId.ItemId, requests.BidEntry.BidEntry, replies.Refusal.Refusal}
use Rattle.item_shards.specs.{Answering.{bid_request, refusal_with}, Values.{stock}}
use Rattle.item_shards.specs.{Contents.{Contents, after_act, after_acts}, Events.{Event}}
use Rattle.item_shards.specs.{Looking.{IsTrueAct, events_of}, Writing.{first_act, second_act}}
use Rattle.item_shards.specs.declared.shard.{Shard.{Shard}, acts.Act.{TheVariants.{Bid, Look}, Act}}
use Rattle.item_shards.specs.declared.shard.acts.Look.TheVariants as look
use Rattle.item_shards.specs.ShardContents.{clock as clock_of, contents as contents_of}
use Rattle.shard_boxes.specs.States.{ShardState, state_at, IsWithin}
use Rattle.shard_boxes.specs.declared.line.{ItemBid.{ItemBid}, Line.{Line as MadeLine}}

-- the two acts of a line, as they were done: a place that is left has a look at nothing
pub record Acts : Type 0 where
  -- what was done first
  pub first : Event
  -- and then
  pub second : Event

-- what one transaction did on one shard
pub record Line : Type 0 where
  -- the number of the commit
  pub number : ℕ
  -- the shard's clock as it was found
  pub before : ℕ
  -- the index of the request in its worker's script
  pub index : ℕ
  -- what was done, in order
  pub acts : Acts

-- the two acts of a line, in order
abbrev pub acts_in : Acts → List Event
acts_in acts = acts.first ∷ acts.second ∷ []

-- the first two of some acts, with looks at nothing in the places that are left
abbrev pub first_two : List Event → Acts
first_two acts = record { first = first_act acts; second = second_act acts }

-- the line of these acts on a shard as it was taken, at this number, of the request of this index
abbrev pub line_of : ℕ → ℕ → List Act → Shard → Line
line_of number index acts taken = record {
  number = number;
  before = clock_of taken;
  index = index;
  acts = first_two (events_of (contents_of taken) acts);
}

-- a line that a caller made, with what its looks showed of the shard as it was taken
abbrev pub seen_line : ShardState → MadeLine → Line
seen_line taken line = record {
  number = line.number;
  before = line.before;
  index = line.index;
  acts = first_two (events_of taken.contents line.acts);
}

-- the second act of a bid: the bid, unless it is refused
abbrev pub bid_act : ItemId → BidEntry → Option Refusal → Act
bid_act item bid None = Bid item bid
bid_act item bid (Some reason) = Look look.Nothing

-- the acts of a bid: a look at what is left of its item, and the bid, unless it is refused
abbrev pub bid_acts : ItemId → BidEntry → Option Refusal → List Act
bid_acts item bid refused = Look (look.Left item) ∷ bid_act item bid refused ∷ []

-- the first reason for which its item refuses a bid, by what the shard has of the item
abbrev pub bid_refusal_on : Shard → ItemBid → Option Refusal
bid_refusal_on shard bid =
    refusal_with (stock (contents_of shard (Item bid.item))) (bid_request bid.item bid.entry)

-- the line of a bid on a shard as it was taken
abbrev pub line_of_bid : ℕ → ℕ → ItemBid → Shard → Line
line_of_bid number index bid taken =
    line_of number index (bid_acts bid.item bid.entry (bid_refusal_on taken bid)) taken

-- the shard after a line: its acts are done, and its number is the clock
abbrev pub after_line : ShardState → Line → ShardState
after_line state line = record state {
  clock = line.number;
  contents = after_acts state.contents (acts_in line.acts);
}

-- the worker who put the line
abbrev pub put_by : ℕ × Line → ℕ
put_by entry = entry.0

-- the line that the worker put
abbrev pub line_put : ℕ × Line → Line
line_put entry = entry.1

-- the shard after a line that was put
abbrev pub after_put : ShardState → ℕ × Line → ShardState
after_put found entry = after_line found (line_put entry)

-- the shard after the lines of all workers, in order
abbrev pub after_lines : ShardState → List (ℕ × Line) → ShardState
after_lines state [] = state
after_lines state (entry ∷ lines) = after_lines (after_put state entry) lines

-- the lines of one worker
abbrev pub lines_of : ℕ → List (ℕ × Line) → List Line
lines_of worker lines = map line_put (part put_by worker lines)

-- the list begins with the lines that were seen
abbrev pub StartsWith : List (ℕ × Line) → List (ℕ × Line) → Type 0
StartsWith lines seen = (more : List (ℕ × Line)) × (lines ≡ seen ++ more)

-- each look carries what the contents shows of its object, after the acts before it
abbrev pub AreTrueOf : Contents → List Event → Type 0
AreTrueOf contents acts = SawInTurn IsTrueAct after_act contents acts

-- the line may be the next one of the shard
pub record MayFollow (state : ShardState) (line : Line) : Type 0 where
  -- the line tells the clock of the shard
  pub found : line.before ≡ state.clock
  -- the line's number is greater than the clock
  pub later : state.clock < line.number
  -- the line's looks show what the shard has
  pub looks : AreTrueOf state.contents (acts_in line.acts)

-- the number of a line that was put
abbrev pub number_put : ℕ × Line → ℕ
number_put entry = (line_put entry).number

-- the clock that a line found when it was put
abbrev pub before_put : ℕ × Line → ℕ
before_put entry = (line_put entry).before

-- the looks of a line that was put are true of the shard as the line found it
abbrev pub LooksTrue : ShardState → ℕ × Line → Type 0
LooksTrue found entry = AreTrueOf found.contents (acts_in (line_put entry).acts)

-- the shard of this number is the one with which the phase opened, after these lines
pub record IsShardHistory (initial : List ShardState) (workers number : ℕ) (lines : List (ℕ × Line))
    (state : ShardState) : Type 0 where
  -- there is a shard of this number
  pub known : number < length initial
  -- the shard is the initial one after the lines
  pub state_is : state ≡ after_lines (state_at initial number) lines
  -- each line is of a worker below the number of workers
  pub workers_are : AllByRecursion (λ entry. put_by entry < workers) lines
  -- the lines ascend in number
  pub ascending : IsAscendingByNumber number_put lines
  -- each `before` is the number of the line before, 0 at first
  pub linked : IsLinkedFrom number_put before_put 0 lines
  -- what each line shows was there
  pub looks : SawInTurn LooksTrue after_put (state_at initial number) lines
  -- the shard has this number
  pub number_is : state.number ≡ number
  -- the shard is one of as many
  pub shards_is : state.shards ≡ length initial
  -- the shard has the users and categories with which it opened
  pub opening_is : state.opening ≡ (state_at initial number).opening
  -- the shard's counts and ratings fit
  pub within : IsWithin state
