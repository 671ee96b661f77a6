-- What a worker is given of a split phase, and what it has done.
use Rattle.std.specs.List.{AllByRecursion}
use Rattle.std.specs.Prelude.{◌≡◌, ℕ, suc, Bool, List, [], ◌∷◌, ◌++◌, ◌<◌, ◌≤◌, ◌+◌, ◌-◌, ◌*◌, length}
use Rattle.split_engine.specs.{Rules.{Rules, most_acts, index_end}, Serial.{IsWithin}}
use Rattle.split_engine.specs.{Serving.{calls_before}, Splitting.{slices_of, all_merged}}
use Rattle.split_engine.specs.declared.{entry.Entry.{Entry}, few.TheConstants.{MOST_KEYS}}
use Rattle.split_engine.specs.{declared.state.Cursor.{Cursor}, inner.Commits.{joined}}
use Rattle.split_engine.specs.inner.Phases.{IsUnused, HasPerformedOnSlices}

-- the table as the phase opened, its hot keys, and a worker, its script, its quota and where it
-- stands
pub record Assignment (Record Request : Type 0) : Type 0 where
  pub table : List Record
  pub hot : List Bool
  pub worker : ℕ
  pub script : List Request
  pub quota : ℕ
  pub cursor : Cursor Request

abbrev pub assignment : {Record Request : Type 0} → List Record → List Bool → ℕ → List Request →
    ℕ → Cursor Request → Assignment Record Request
assignment table hot worker script quota cursor = record {
  table = table;
  hot = hot;
  worker = worker;
  script = script;
  quota = quota;
  cursor = cursor;
}

-- the assignments of all workers, from this one on
abbrev pub assignments : {Record Request : Type 0} → List Record → List Bool → ℕ → ℕ →
    List (List Request) → List (Cursor Request) → List (Assignment Record Request)
assignments table hot quota worker [] cursors = []
assignments table hot quota worker (s ∷ ss) [] = []
assignments table hot quota worker (s ∷ ss) (d ∷ ds) =
    assignment table hot worker s quota d ∷ assignments table hot quota (suc worker) ss ds

-- how many requests are left of a worker's script
abbrev pub left_of : {Record Request : Type 0} → Assignment Record Request → ℕ
left_of a = length a.script - a.cursor.next

-- how many are left of all scripts
abbrev pub all_left : {Record Request : Type 0} → List (Assignment Record Request) → ℕ
all_left [] = 0
all_left (a ∷ more) = left_of a + all_left more

module _ {Record Slice Look Request Reply Act : Type 0}
    (rules : Rules Record Slice Look Request Reply Act) where
  -- What a worker has to be given, and what it begins with.
  pub record CanDo (a : Assignment Record Request) (journal : List (Entry Request Reply))
      (slices : List Slice) : Type 0 where
    pub within : AllByRecursion (IsWithin rules (length a.table)) a.script
    pub hot_len : length a.hot ≡ length a.table
    pub short : length a.script < index_end
    pub few : MOST_KEYS * a.quota < most_acts
    pub next_in : a.cursor.next ≤ length a.script
    pub start : IsUnused rules (length a.table) journal slices

  -- What a worker leaves that did its part.
  pub record HasDone (IsSmall : Act → Type 0) (a : Assignment Record Request)
      (cursor : Cursor Request) (journal : List (Entry Request Reply))
      (slices : List Slice) : Type 0 where
    pub all : List (ℕ × Request)
    pub follows : calls_before a.script cursor.next ≡ calls_before a.script a.cursor.next ++ all
    pub done : HasPerformedOnSlices rules IsSmall a.hot a.table a.worker all journal slices
        a.cursor.stash.items cursor.stash.items
    pub next_in : cursor.next ≤ length a.script

  -- the same of all workers, whose slices are those of their commits
  abbrev pub HaveDone : (Act → Type 0) → List (Assignment Record Request) →
      List (Cursor Request) → List (List (Entry Request Reply)) → Type 0
  HaveDone IsSmall [] cursors journals = (cursors ≡ []) × (journals ≡ [])
  HaveDone IsSmall (a ∷ more) [] journals = ⊥
  HaveDone IsSmall (a ∷ more) (d ∷ ds) [] = ⊥
  HaveDone IsSmall (a ∷ more) (d ∷ ds) (j ∷ js) =
      HasDone IsSmall a d j (slices_of rules a.table j) × HaveDone IsSmall more ds js

  -- All workers' parts of a split phase are taken in.
  pub record HasClosed (IsSmall : Act → Type 0) (Fits : ℕ → Record → Type 0)
      (given : List (Assignment Record Request))
      (table : List Record) (history : List (Entry Request Reply))
      (after : List Record) (later : List (Entry Request Reply))
      (cursors : List (Cursor Request)) : Type 0 where
    pub journals : List (List (Entry Request Reply))
    pub worked : HaveDone IsSmall given cursors journals
    pub merged : after ≡ all_merged rules table table journals
    pub size_is : length after ≡ length table
    pub history_is : later ≡ history ++ joined journals
    pub few : length later ≤ length history + all_left given
    pub fits : (n : ℕ) → AllByRecursion (Fits (n + MOST_KEYS * length history)) table →
        AllByRecursion (Fits (n + MOST_KEYS * length later)) after
