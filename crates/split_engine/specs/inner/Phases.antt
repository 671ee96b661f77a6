-- What phases make of the state of a run.
use Rattle.std.specs.List.{filter, list_all, AllByRecursion}
use Rattle.std.specs.Prelude.{◌≡◌, ℕ, suc, Bool, true, false, not, ◌&&◌, List, [], ◌∷◌, ◌++◌, ◌<◌, ◌≤◌, ◌+◌, ◌*◌, map, length, replicate, slice_index_or, ⊤, ◌⊎◌}
use Rattle.phase_laws.specs.Order.{IsOrderedBy}
use Rattle.split_engine.specs.Rules.{Rules, most_before}
use Rattle.split_engine.specs.Serial.{ReplaysFrom, table_after, IsWithin}
use Rattle.split_engine.specs.Serving.{calls_before, call_of, calls_of, entries_of, count, total, IsInTurn, IsOutcome, IsScript}
use Rattle.split_engine.specs.{Splitting.{IsSplitEntry, slices_of}, declared.entry.Entry.{Entry}}
use Rattle.split_engine.specs.declared.{few.TheConstants.{MOST_KEYS}, state.Cursor.{Cursor}}

-- whether a key is hot
abbrev pub is_hot : List Bool → ℕ → Bool
is_hot hot key = slice_index_or hot key false

-- more of a script is in the stash
pub record HasStashed {Request : Type 0} (script : List Request)
    (old new : Cursor Request) : Type 0 where
  pub all : List (ℕ × Request)
  pub follows : calls_before script new.next ≡ calls_before script old.next ++ all
  pub stash_is : new.stash.items ≡ old.stash.items ++ all
  pub next_in : new.next ≤ length script

-- cursors at the beginning of scripts
abbrev pub AreFresh : {Request : Type 0} → List (Cursor Request) → Type 0
AreFresh cursors = AllByRecursion (λ cursor. (cursor.next ≡ 0) × (cursor.stash.items ≡ [])) cursors

-- cursors at the end of these scripts, with nothing put off
abbrev pub AllFinished : {Request : Type 0} → List (List Request) → List (Cursor Request) → Type 0
AllFinished [] [] = ⊤
AllFinished [] (d ∷ ds) = ⊥
AllFinished (s ∷ ss) [] = ⊥
AllFinished (s ∷ ss) (d ∷ ds) = ((d.next ≡ length s) × (d.stash.items ≡ [])) × AllFinished ss ds

module _ {Record Slice Look Request Reply Act : Type 0}
    (rules : Rules Record Slice Look Request Reply Act) where
  -- whether a request is performed in a split phase with these keys hot: if not, it is put off
  abbrev pub is_taken : List Bool → Request → Bool
  is_taken hot q = rules.splits q && list_all (is_hot hot) (rules.keys q)

  -- of some calls those that a split phase performs, and those that it puts off
  abbrev pub split_calls : List Bool → List (ℕ × Request) → List (ℕ × Request)
  split_calls hot all = filter (λ call. is_taken hot call.1) all

  abbrev pub put_off : List Bool → List (ℕ × Request) → List (ℕ × Request)
  put_off hot all = filter (λ call. not (is_taken hot call.1)) all

  -- What a worker begins a split phase with, over so many records.
  pub record IsUnused (size : ℕ) (journal : List (Entry Request Reply))
      (slices : List Slice) : Type 0 where
    pub no_entry : journal ≡ []
    pub unused : slices ≡ replicate size rules.empty

  -- What a worker leaves of a split phase that opened with this table, of these calls.
  pub record HasPerformedOnSlices (IsSmall : Act → Type 0) (hot : List Bool)
      (table : List Record) (worker : ℕ) (all : List (ℕ × Request))
      (journal : List (Entry Request Reply)) (slices : List Slice)
      (before stash : List (ℕ × Request)) : Type 0 where
    -- each commit is one of the phase, and the worker's
    pub split : AllByRecursion (IsSplitEntry rules IsSmall table) journal
    pub own : AllByRecursion (λ e. e.worker ≡ worker) journal
    -- they are the calls that the phase performs, and the others are put off
    pub performed : map call_of journal ≡ split_calls hot all
    pub stash_is : stash ≡ before ++ put_off hot all
    -- its slices are those of its commits
    pub slices_are : slices ≡ slices_of rules table journal

  -- What a worker's calls in a joined phase leave: more commits.
  pub record HasPerformed (worker : ℕ) (all : List (ℕ × Request)) (old new : List Record)
      (more : List (Entry Request Reply)) : Type 0 where
    pub replays : ReplaysFrom rules old more
    pub table_is : new ≡ table_after rules old more
    pub own : AllByRecursion (λ e. e.worker ≡ worker) more
    pub performed : map call_of more ≡ all

  -- Where a worker's commits stand to its calls that are still to come.
  pub record InOrder (worker : ℕ) (cursor : Cursor Request)
      (history : List (Entry Request Reply)) : Type 0 where
    pub in_turn : IsOrderedBy (IsInTurn rules) (entries_of worker history)
    pub before_stash : AllByRecursion (λ d. AllByRecursion (λ call.
        (d.index < call.0) ⊎ (rules.splits d.request ≡ true)) cursor.stash.items)
        (entries_of worker history)
    pub before_next : AllByRecursion (λ d. d.index < cursor.next) (entries_of worker history)
    pub stash_rises : IsOrderedBy (λ c e. c.0 < e.0) cursor.stash.items
    pub stash_before : AllByRecursion (λ call. call.0 < cursor.next) cursor.stash.items

  -- Where a worker stands: what of its script up to a place is not committed is put off.
  pub record HasServed (size : ℕ) (worker : ℕ) (script : List Request) (cursor : Cursor Request)
      (history : List (Entry Request Reply)) : Type 0 where
    pub counts : (p : ℕ × Request → Bool) →
        count p (calls_of worker history) + count p cursor.stash.items
        ≡ count p (calls_before script cursor.next)
    pub within : AllByRecursion (λ call. IsWithin rules size call.1) cursor.stash.items
    pub next_in : cursor.next ≤ length script
    pub order : InOrder worker cursor history

  -- What a worker's turn in a joined phase leaves.
  pub record HasTurned (Fits : ℕ → Record → Type 0) (worker : ℕ) (script : List Request)
      (table : List Record) (history : List (Entry Request Reply))
      (after : List Record) (later : List (Entry Request Reply))
      (cursor : Cursor Request) : Type 0 where
    pub more : List (Entry Request Reply)
    pub history_is : later ≡ history ++ more
    pub replays : ReplaysFrom rules table more
    pub table_is : after ≡ table_after rules table more
    pub size_is : length after ≡ length table
    pub own : AllByRecursion (λ e. e.worker ≡ worker) more
    pub fits : (n : ℕ) → AllByRecursion (Fits (n + MOST_KEYS * length history)) table →
        AllByRecursion (Fits (n + MOST_KEYS * length later)) after
    pub served : HasServed (length table) worker script cursor later

  -- the same of all workers, from this one on
  abbrev pub HaveServed : ℕ → ℕ → List (List Request) → List (Cursor Request) →
      List (Entry Request Reply) → Type 0
  HaveServed size worker [] [] history = ⊤
  HaveServed size worker [] (d ∷ ds) history = ⊥
  HaveServed size worker (s ∷ ss) [] history = ⊥
  HaveServed size worker (s ∷ ss) (d ∷ ds) history =
      HasServed size worker s d history × HaveServed size (suc worker) ss ds history

  -- Where a run stands between two phases.
  pub record IsRunState (Fits : ℕ → Record → Type 0) (n : ℕ) (opened : List Record)
      (scripts : List (List Request)) (table : List Record)
      (history : List (Entry Request Reply)) (cursors : List (Cursor Request)) : Type 0 where
    pub replays : ReplaysFrom rules opened history
    pub leaves : table ≡ table_after rules opened history
    pub size_is : length table ≡ length opened
    pub fits : AllByRecursion (Fits (n + MOST_KEYS * length history)) table
    pub served : HaveServed (length opened) 0 scripts cursors history
    pub no_others : AllByRecursion (λ e. e.worker < length scripts) history

  -- a run of these scripts stands so: its records had few acts before it, and its scripts name keys
  -- of the table with which it opened
  abbrev pub StandsSo : (ℕ → Record → Type 0) → List (List Request) → List Record →
      List (Entry Request Reply) → List (Cursor Request) → Type 0
  StandsSo Fits scripts table history cursors =
      (n : ℕ) × (opened : List Record) × (n < most_before)
      × AllByRecursion (IsScript rules (length opened)) scripts
      × IsRunState Fits n opened scripts table history cursors

  -- a run of these scripts that stood so has come to where it stands now
  abbrev pub HasGoneOn : (ℕ → Record → Type 0) → List (List Request) →
      List Record → List (Entry Request Reply) → List (Cursor Request) →
      List Record → List (Entry Request Reply) → List (Cursor Request) → Type 0
  HasGoneOn Fits scripts table history cursors after later moved =
      (n : ℕ) (opened : List Record) → n < most_before →
      AllByRecursion (IsScript rules (length opened)) scripts →
      IsRunState Fits n opened scripts table history cursors →
      IsRunState Fits n opened scripts after later moved

  -- What a run leaves that has come to the end of its scripts.
  pub record HasEnded (Fits : ℕ → Record → Type 0) (n : ℕ) (opened : List Record)
      (scripts : List (List Request)) (history : List (Entry Request Reply))
      (left : List Record) : Type 0 where
    pub outcome : IsOutcome rules opened scripts history left
    pub fits : AllByRecursion (Fits (n + MOST_KEYS * length history)) left
    pub as_many : length history ≡ total scripts
    pub size_is : length left ≡ length opened
