-- The shards that a transaction takes, each once.
use Rattle.std.specs.List.{AllByRecursion, list_any}
use Rattle.std.specs.Prelude.{◌≡◌, ℕ, ◌<◌, ◌==◌, if◌then◌else◌, Bool, false, List, [], ◌∷◌, map, length, Option, Some, None, ⊤}
use Rattle.phase_laws.specs.Numbers.{greatest_by}
use Rattle.item_shards.specs.{Acting.{CanDo}, ShardContents.{clock}, declared.shard.acts.Act.{Act}}
use Rattle.shard_boxes.specs.{Helds.{HeldState}, Keys.{BoxId, KeyState, seat_at, seen_at, holds_at}}
use Rattle.shard_boxes.specs.{Lines.{Line, first_two, line_of}, States.{ShardState}}
use Rattle.worker_slices.specs.{Homes.{shard_at}, declared.homes.Homes.{Homes}}
use Rattle.phase_transactions.specs.{Putting.{HasSameLines}, Workers.{IsIdle}}
use Rattle.phase_transactions.specs.declared.taken.Taken.{Taken}
use Rattle.phase_transactions.specs.inner.HeldShards.{alone_in, IsAsTaken}
use Rattle.phase_transactions.specs.declared.taken.Taken.TheVariants as taken

-- two shards, each once
abbrev pub each_once : Option ℕ → Option ℕ → List ℕ
each_once None None = []
each_once None (Some other) = other ∷ []
each_once (Some item) None = item ∷ []
each_once (Some item) (Some other) = if item == other then item ∷ [] else item ∷ other ∷ []

-- the footprint of a request whose objects are found so: each shard once, the item's first
abbrev pub footprint_of : Homes → List ℕ
footprint_of homes = each_once (shard_at homes.item) (shard_at homes.other)

-- the shards that were taken, in that order
abbrev pub held_in : {N : Type 0} → Taken N → List HeldState
held_in taken.Nothing = []
held_in (taken.One one) = one ∷ []
held_in (taken.Two item other) = item ∷ other ∷ []

-- the greatest of their clocks, 0 where there is none
abbrev pub greatest_held : List HeldState → ℕ
greatest_held held = greatest_by (λ h. clock h.shard) held

-- whether a shard is one of these
abbrev pub is_one_of : List ℕ → ℕ → Bool
is_one_of shards t = list_any (λ s. s == t) shards

-- a key for these boxes, which holds no shard
pub record IsReady (boxes : List BoxId) (key : KeyState) : Type 0 where
  pub boxes_are : key.boxes ≡ boxes
  pub idle : IsIdle key

-- The key has taken these shards, each once, and holds no other.
pub record HasTakenAll (initial : List ShardState) (workers : ℕ) (old new : KeyState)
    (shards : List ℕ) (held : List HeldState) : Type 0 where
  -- what is held are these shards
  pub numbers : map (λ h. h.number) held ≡ shards
  -- the key has a seat for each
  pub known : AllByRecursion (λ h. h.number < length new.seats) held
  -- each is as the key took it
  pub taken : AllByRecursion (IsAsTaken initial workers new) held
  -- the key holds them and no other
  pub holds : (t : ℕ) → holds_at new t ≡ is_one_of shards t
  -- no other seat of the key has changed
  pub others : (t : ℕ) → is_one_of shards t ≡ false → seat_at new t ≡ seat_at old t
  -- no line was put, and what the key has seen goes on
  pub lines : HasSameLines old new

-- no number stands twice
abbrev pub AreApart : List ℕ → Type 0
AreApart [] = ⊤
AreApart (shard ∷ shards) = (is_one_of shards shard ≡ false) × AreApart shards

-- the numbers of these shards
abbrev pub numbers_of : List HeldState → List ℕ
numbers_of held = map (λ h. h.number) held

-- Shards that the key holds, and no other, each as it was taken: they can go back to these boxes.
pub record AreHeldAll (initial : List ShardState) (workers : ℕ) (boxes : List BoxId)
    (key : KeyState) (held : List HeldState) : Type 0 where
  -- the key is for these boxes
  pub boxes_are : key.boxes ≡ boxes
  -- each stands once
  pub apart : AreApart (numbers_of held)
  -- there is a seat for each
  pub known : AllByRecursion (λ h. h.number < length key.seats) held
  -- the key holds them and no other
  pub holds : (t : ℕ) → holds_at key t ≡ is_one_of (numbers_of held) t
  -- each is as the key took it
  pub taken : AllByRecursion (IsAsTaken initial workers key) held

-- The shards that were held went back as they were: only the key's holding them has changed.
pub record AreBack (old new : KeyState) : Type 0 where
  pub lines : HasSameLines old new
  pub seen : (t : ℕ) → seen_at new t ≡ seen_at old t
  pub others : (t : ℕ) → holds_at old t ≡ false → seat_at new t ≡ seat_at old t
  pub idle : IsIdle new

abbrev pub no_line : Line
no_line = record { number = 0; before = 0; index = 0; acts = first_two [] }

-- the line of its acts on each of some shards
abbrev pub line_among : ℕ → ℕ → List HeldState → List (List Act) → ℕ → Line
line_among number index [] acts t = no_line
line_among number index (h ∷ held) [] t = no_line
line_among number index (h ∷ held) (a ∷ acts) t =
    if h.number == t then line_of number index a h.shard else line_among number index held acts t

-- two acts on the shards that were taken: both on the one, or one on each of two
abbrev pub dealt : {N : Type 0} → Taken N → List Act → List (List Act)
dealt taken.Nothing acts = []
dealt (taken.One one) acts = acts ∷ []
dealt (taken.Two item other) acts = map alone_in acts

-- these acts can be done on a shard at a number
pub record CanBeDoneOn (number : ℕ) (held : HeldState) (acts : List Act) : Type 0 where
  pub later : clock held.shard < number
  pub can : CanDo held.shard acts

-- these acts can be done on each of some shards
abbrev pub CanBeDoneOnAll : ℕ → List HeldState → List (List Act) → Type 0
CanBeDoneOnAll number [] acts = ⊤
CanBeDoneOnAll number (h ∷ held) [] = ⊥
CanBeDoneOnAll number (h ∷ held) (a ∷ acts) =
    CanBeDoneOn number h a × CanBeDoneOnAll number held acts
