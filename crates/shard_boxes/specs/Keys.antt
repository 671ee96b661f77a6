-- What a key shows.
use Rattle.std.specs.Prelude.{◌≡◌, ℕ, ◌<◌, ◌≤◌, Bool, true, false, List, [], ◌∷◌, ◌++◌, length, slice_index_or, slice_set, Option, Some, None}
use Rattle.atomic_table.specs.Seated.{TableId}
use Rattle.shard_boxes.specs.Lines.{Line}

-- what tells one box from another
abbrev pub BoxId : Type 0
BoxId = TableId

-- what a key shows of one shard
pub record SeatState : Type 0 where
  -- whether the key has the shard
  pub holds : Bool
  -- the lines that the key's worker put
  pub lines : List Line
  -- the lines of all workers that the key has seen
  pub seen : List (ℕ × Line)

-- what a key shows
pub record KeyState : Type 0 where
  -- the boxes that the key is for
  pub boxes : List BoxId
  -- the worker whose key it is
  pub worker : ℕ
  -- what the key shows of each shard
  pub seats : List SeatState

-- the seat of a shard that the key does not know
abbrev pub no_seat : SeatState
no_seat = record { holds = false; lines = []; seen = [] }

-- what the key shows of the shard of this number
abbrev pub seat_at : KeyState → ℕ → SeatState
seat_at key s = slice_index_or key.seats s no_seat

-- whether the key holds the shard
abbrev pub holds_at : KeyState → ℕ → Bool
holds_at key s = (seat_at key s).holds

-- the lines that were put by the key
abbrev pub lines_at : KeyState → ℕ → List Line
lines_at key s = (seat_at key s).lines

-- the list of all workers' lines that the key has seen of the shard
abbrev pub seen_at : KeyState → ℕ → List (ℕ × Line)
seen_at key s = (seat_at key s).seen

-- the key with another seat at this shard
abbrev pub with_seat : KeyState → ℕ → SeatState → KeyState
with_seat key s seat = record key { seats = slice_set key.seats s seat }

-- the key that has taken a shard, under this list
abbrev pub taking : KeyState → ℕ → List (ℕ × Line) → KeyState
taking key s lines = with_seat key s (record (seat_at key s) { holds = true; seen = lines })

-- what a put adds to the key's lines
abbrev pub added : Option Line → List Line
added None = []
added (Some line) = line ∷ []

-- what a worker's put adds to the shard's list
abbrev pub entries : ℕ → Option Line → List (ℕ × Line)
entries worker None = []
entries worker (Some line) = (worker, line) ∷ []

-- what a worker's key shows of a shard that it has put back
abbrev pub put_seat : ℕ → SeatState → Option Line → SeatState
put_seat worker seat line = record {
  holds = false;
  lines = seat.lines ++ added line;
  seen = seat.seen ++ entries worker line;
}

-- the key that has put a shard back
abbrev pub putting : KeyState → ℕ → Option Line → KeyState
putting key s line = with_seat key s (put_seat key.worker (seat_at key s) line)

-- the key holds no shard with this number or a greater one
abbrev pub HoldsNoneFrom : KeyState → ℕ → Type 0
HoldsNoneFrom key s = (t : ℕ) → s ≤ t → holds_at key t ≡ false

-- a key to no boxes
abbrev pub no_key : KeyState
no_key = record { boxes = []; worker = 0; seats = [] }

-- the key of the worker with this number
abbrev pub key_at : List KeyState → ℕ → KeyState
key_at keys w = slice_index_or keys w no_key

-- a key of this worker to these boxes that has taken and put nothing
pub record IsNewKey (boxes : List BoxId) (worker : ℕ) (key : KeyState) : Type 0 where
  -- the key is to these boxes
  pub boxes_are : key.boxes ≡ boxes
  -- the key is this worker's
  pub worker_is : key.worker ≡ worker
  -- the key has a seat for each box
  pub seats_are : length key.seats ≡ length boxes
  -- nothing was taken or put by it
  pub unused : (s : ℕ) → seat_at key s ≡ no_seat

-- a new key for each worker, in order
abbrev pub AreNewKeys : List BoxId → ℕ → List KeyState → Type 0
AreNewKeys boxes workers keys =
    (length keys ≡ workers) × ((w : ℕ) → w < workers → IsNewKey boxes w (key_at keys w))
