-- One thread: what a request is answered, and what it leaves.
use Rattle.std.specs.List.{zip, AllByRecursion}
use Rattle.std.specs.Prelude.{◌≡◌, ℕ, ◌<◌, List, slice_index_or, slice_set, map, fold}
use Rattle.phase_laws.specs.Replay.{Replays}
use Rattle.split_engine.specs.{Rules.{Rules, looks_in}, declared.entry.Decision.{Decision}}
use Rattle.split_engine.specs.declared.entry.Entry.{Entry}

module _ {Record Slice Look Request Reply Act : Type 0}
    (rules : Rules Record Slice Look Request Reply Act) where
  -- the record at a key
  abbrev pub record_at : List Record → ℕ → Record
  record_at table key = slice_index_or table key rules.blank

  -- the table after an act on the record at a key
  abbrev pub after_act : List Record → ℕ → Act → List Record
  after_act table key x = slice_set table key (rules.applied (record_at table key) x)

  -- the table after acts, each at a key
  abbrev pub after_acts : List Record → List (ℕ × Act) → List Record
  after_acts = fold (λ table act. after_act table act.0 act.1)

  -- what is seen at keys
  abbrev pub looks_at : List Record → List ℕ → List Look
  looks_at table keys = map (λ key. rules.look (record_at table key)) keys

  -- what a request decides
  abbrev pub decision : List Record → Request → Decision Reply Act
  decision table q = rules.decide q (looks_in rules (looks_at table (rules.keys q)))

  -- what it then does, and at which keys
  abbrev pub acts_at : List Record → Request → List (ℕ × Act)
  acts_at table q = zip (rules.keys q) (decision table q).acts

  -- what a request is answered
  abbrev pub reply : List Record → Request → Reply
  reply table q = (decision table q).reply

  -- the table after a request
  abbrev pub next : List Record → Request → List Record
  next table q = after_acts table (acts_at table q)

  -- a commit's reply is the one that the table gives
  abbrev pub IsRight : List Record → Entry Request Reply → Type 0
  IsRight table e = e.reply ≡ reply table e.request

  -- the table after a commit
  abbrev pub after_entry : List Record → Entry Request Reply → List Record
  after_entry table e = next table e.request

  -- a history replays from a table: each reply is the one that the table before it gives
  abbrev pub ReplaysFrom : List Record → List (Entry Request Reply) → Type 0
  ReplaysFrom = Replays IsRight after_entry

  -- the table after a history
  abbrev pub table_after : List Record → List (Entry Request Reply) → List Record
  table_after = fold after_entry

  -- a request names keys of a table of this length
  abbrev pub IsWithin : ℕ → Request → Type 0
  IsWithin len q = AllByRecursion (λ key. key < len) (rules.keys q)
