-- What a run makes of workers' scripts.
use Rattle.std.specs.{List.{filter, AllByRecursion}, Option.{option_map, option_to_list}}
use Rattle.std.specs.Prelude.{◌≡◌, ℕ, zero, suc, ◌+◌, Bool, true, List, [], ◌∷◌, ◌++◌, ◌<◌, ◌≤◌, map, length, Option, slice_get, unwrap_or, Vec, ⊤, ◌⊎◌}
use Rattle.std.specs.declared.alloc.Global.{Global}
use Rattle.phase_laws.specs.Order.{part, IsOrderedBy}
use Rattle.split_engine.specs.Rules.{Rules, index_end}
use Rattle.split_engine.specs.Serial.{ReplaysFrom, table_after, IsWithin}
use Rattle.split_engine.specs.declared.{entry.Entry.{Entry}, state.TheConstants.{MOST_COMMITS}}

-- the lists in a list of vectors
abbrev pub lists : {X : Type 0} → List (Vec X Global) → List (List X)
lists vectors = map (λ v. v.items) vectors

-- the first so many requests of a script, each with its index
abbrev pub calls_before : {Q : Type 0} → List Q → ℕ → List (ℕ × Q)
calls_before script zero = []
calls_before script (suc n) =
    calls_before script n ++ option_to_list (option_map (λ q. (n, q)) (slice_get script n))

-- the request with this index of a worker's script
abbrev pub request_at : {Q : Type 0} → List (List Q) → ℕ → ℕ → Option Q
request_at scripts worker index = slice_get (unwrap_or (slice_get scripts worker) []) index

-- how many requests scripts have together
abbrev pub total : {Q : Type 0} → List (List Q) → ℕ
total [] = 0
total (script ∷ scripts) = length script + total scripts

-- all requests of a script, each with its index
abbrev pub calls : {Q : Type 0} → List Q → List (ℕ × Q)
calls script = calls_before script (length script)

-- an entry's call
abbrev pub call_of : {Q R : Type 0} → Entry Q R → ℕ × Q
call_of e = (e.index, e.request)

-- a worker's entries in a history
abbrev pub entries_of : {Q R : Type 0} → ℕ → List (Entry Q R) → List (Entry Q R)
entries_of worker history = part (λ e. e.worker) worker history

-- a worker's calls in a history
abbrev pub calls_of : {Q R : Type 0} → ℕ → List (Entry Q R) → List (ℕ × Q)
calls_of worker history = map call_of (entries_of worker history)

-- how many of some calls pass a test
abbrev pub count : {X : Type 0} → (X → Bool) → List X → ℕ
count p xs = length (filter p xs)

module _ {Record Slice Look Request Reply Act : Type 0}
    (rules : Rules Record Slice Look Request Reply Act) where
  -- a script's requests name keys of a table of this size, and a u32 has their indexes
  abbrev pub IsScript : ℕ → List Request → Type 0
  IsScript size script = AllByRecursion (IsWithin rules size) script × (length script < index_end)

  -- Scripts can be run over so many records: each request names keys of theirs, and there are not
  -- too many.
  pub record AreScripts (size : ℕ) (scripts : List (List Request)) : Type 0 where
    pub few : length scripts + total scripts ≤ MOST_COMMITS
    pub keys : AllByRecursion (AllByRecursion (IsWithin rules size)) scripts

  -- a worker's commits are its script's requests, each with its index, each once
  abbrev pub Serves : ℕ → List Request → List (Entry Request Reply) → Type 0
  Serves worker script history =
      (p : ℕ × Request → Bool) → count p (calls_of worker history) ≡ count p (calls script)

  -- of two commits of one worker the first is first in the script too, or it is splittable: it
  -- overtook one that was put off
  abbrev pub IsInTurn : Entry Request Reply → Entry Request Reply → Type 0
  IsInTurn d e = (d.index < e.index) ⊎ (rules.splits d.request ≡ true)

  -- the same of each worker, from this one on
  abbrev pub AllServe : ℕ → List (List Request) → List (Entry Request Reply) → Type 0
  AllServe worker [] history = ⊤
  AllServe worker (script ∷ scripts) history =
      (Serves worker script history × IsOrderedBy IsInTurn (entries_of worker history))
      × AllServe (suc worker) scripts history

  -- What a run of workers' scripts gives, from a table.
  pub record IsOutcome (table : List Record) (scripts : List (List Request))
      (history : List (Entry Request Reply)) (left : List Record) : Type 0 where
    -- its history replays on one thread
    pub replays : ReplaysFrom rules table history
    -- and leaves the table that is left
    pub leaves : left ≡ table_after rules table history
    -- it has each request of each script once, in turn
    pub served : AllServe 0 scripts history
    -- and no other
    pub no_others : AllByRecursion (λ e. e.worker < length scripts) history
