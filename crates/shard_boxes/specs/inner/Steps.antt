-- What a pass knows at first, and after each of its steps.
use Rattle.std.specs.Prelude.{◌≡◌, ℕ, ◌+◌, ltb, cond, true, false, List, [], ◌∷◌, ◌++◌, replicate, Option, Some, None}
use Rattle.item_shards.specs.declared.shard.Shard.{Shard}
use Rattle.shard_boxes.specs.{Keys.{added, entries}, Lines.{Line, after_lines, StartsWith}}
use Rattle.shard_boxes.specs.{Passes.{start_of}, States.{ShardState, state_of}}
use Rattle.shard_boxes.specs.declared.shard_box.Knowledge.{Knowledge}
use Rattle.shard_boxes.specs.inner.Rule.{IsLawfulList, HasParts}

-- the maker of a box is as after a phase of one worker, who did nothing
abbrev pub maker : Knowledge
maker = record { start = None; workers = 1; first = 0; own = [] ∷ []; seen = []; holds = true }

-- for so many workers of a phase, from this one on, who have done nothing
abbrev pub ready : Option Shard → ℕ → ℕ → ℕ → Knowledge
ready start workers first count = record {
  start = start;
  workers = workers;
  first = first;
  own = replicate count [];
  seen = [];
  holds = false;
}

-- a phase of so many workers has opened with this shard
abbrev pub opened : ℕ → Shard → Knowledge
opened workers shard = ready (Some shard) workers 0 workers

-- a pass with view v takes the shard, and then has view w
pub record TakenBy (v : Knowledge) (shard : Shard) (w : Knowledge) : Type 0 where
  -- the pass has the shard, and may have seen more lines
  pub view : w ≡ record v { seen = w.seen; holds = true }
  -- the lines that the pass has seen are lawful
  pub kept : IsLawfulList (start_of v) v.workers w.seen
  -- the shard is the one with which the phase opened, after these lines
  pub state : state_of shard ≡ after_lines (start_of v) w.seen
  -- these lines begin with those that the pass had seen before
  pub later : StartsWith w.seen v.seen
  -- the pass knew its own workers' lines
  pub own : HasParts v w.seen

-- each worker's lines, those of the first with more
abbrev pub with_first : List (List Line) → List Line → List (List Line)
with_first [] more = []
with_first (l ∷ rest) more = (l ++ more) ∷ rest

-- the first worker for whom the pass speaks has put the shard back
abbrev pub put : Knowledge → Option Line → Knowledge
put v line = record v {
  own = with_first v.own (added line);
  seen = v.seen ++ entries v.first line;
  holds = false;
}

-- the lines of the first worker only
abbrev pub head_of : List (List Line) → List (List Line)
head_of [] = []
head_of (l ∷ rest) = l ∷ []

-- the lines of all workers but the first
abbrev pub tail_of : List (List Line) → List (List Line)
tail_of [] = []
tail_of (l ∷ rest) = rest

-- the pass speaks for the first worker only
abbrev pub first_of : Knowledge → Knowledge
first_of v = record v { own = head_of v.own }

-- the pass speaks for all its workers but the first
abbrev pub rest_of : Knowledge → Knowledge
rest_of v = record v { first = v.first + 1; own = tail_of v.own }

-- the one of two lists after which the clock of the shard is greater
abbrev pub later_of : ShardState → List (ℕ × Line) → List (ℕ × Line) → List (ℕ × Line)
later_of start a b = cond (ltb (after_lines start a).clock (after_lines start b).clock) b a

-- the pass speaks for the workers of both, and has seen what either has
abbrev pub joined : Knowledge → Knowledge → Knowledge
joined v w = record v { own = v.own ++ w.own; seen = later_of (start_of v) v.seen w.seen }

-- a pass that speaks for nobody
abbrev pub spent : Knowledge
spent = ready None 0 0 0
