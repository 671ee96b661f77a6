-- The entries that a journal's heads say.
use Rattle.std.specs.{List.{AllByRecursion}, Prelude.{◌≡◌, ℕ, ◌+◌, ◌-◌, ◌≤◌, List, map, length}}
use Rattle.auction_rows.specs.declared.rows.Entry.{Entry}
use Rattle.worker_journals.specs.Journals.{JournalView, seen, IsLawfulJournal}
use Rattle.worker_journals.specs.{declared.heads.Head.{Head}, inner.HeadLists.{AskedHead}}
use Rattle.worker_journals.specs.inner.Sides.{SideLists, reply_from, HasReply, SaysReply}

-- the entry that a head of a worker's journal of a phase says, with the journal's side lists
abbrev pub entry_from : ℕ → ℕ → SideLists → AskedHead → Entry
entry_from phase worker sides asked = record {
  phase = phase;
  number = asked.head.number;
  worker = worker;
  index = asked.head.index;
  request = asked.request;
  reply = reply_from sides.lists asked.head.reply;
}

-- the place of a head's reply lies within the side lists
abbrev pub HasHead : SideLists → AskedHead → Type 0
HasHead sides asked = HasReply sides.lists asked.head.reply

-- a head says an entry of its journal, with the journal's side lists
pub record SaysEntry (sides : SideLists) (head : Head) (entry : Entry) : Type 0 where
  pub number : head.number ≡ entry.number
  pub index : head.index ≡ entry.index
  pub reply : SaysReply sides.lists head.reply entry.reply

-- a journal by its heads and side lists
abbrev pub shown : ℕ → ℕ → List AskedHead → SideLists → JournalView
shown phase worker heads sides =
    seen phase worker (length heads + sides.left) (map (entry_from phase worker sides) heads)

-- what heads of such a capacity and side lists keep
pub record IsKept (phase worker : ℕ) (heads : List AskedHead) (capacity : ℕ)
    (sides : SideLists) : Type 0 where
  -- the journal that the heads say is lawful
  pub lawful : IsLawfulJournal (shown phase worker heads sides)
  -- the place of each head's reply lies within the side lists
  pub within : AllByRecursion (HasHead sides) heads
  -- there is room for as many heads more
  pub room : sides.left ≤ capacity - length heads
