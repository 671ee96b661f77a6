-- A split phase: workers act on slices of their own, which are merged.
use Rattle.std.specs.List.{AllByRecursion}
use Rattle.std.specs.Prelude.{◌≡◌, ◌≤◌, ℕ, List, [], ◌∷◌, true, length, replicate, slice_index_or, slice_set, fold}
use Rattle.split_engine.specs.{Rules.{Rules}, Serial.{decision, acts_at, reply, IsWithin}}
use Rattle.split_engine.specs.declared.{entry.Entry.{Entry}, few.TheConstants.{MOST_KEYS}}

-- the third list has the elements of two others, those of each in order
pub data Interleaves {X : Type 0} : List X → List X → List X → Type 0 where
  Neither : Interleaves [] [] []
  First : {xs ys zs : List X} (x : X) → Interleaves xs ys zs → Interleaves (x ∷ xs) ys (x ∷ zs)
  Second : {xs ys zs : List X} (y : X) → Interleaves xs ys zs → Interleaves xs (y ∷ ys) (y ∷ zs)

module _ {Record Slice Look Request Reply Act : Type 0}
    (rules : Rules Record Slice Look Request Reply Act) where
  -- a commit of a split phase that opened with this table, by which its request is decided
  pub record IsSplitEntry (IsSmall : Act → Type 0) (table : List Record)
      (e : Entry Request Reply) : Type 0 where
    pub splits : rules.splits e.request ≡ true
    pub within : IsWithin rules (length table) e.request
    pub reply : e.reply ≡ reply rules table e.request
    pub few : length (decision rules table e.request).acts ≤ MOST_KEYS
    pub small : AllByRecursion IsSmall (decision rules table e.request).acts

  -- slices after an act on the one at a key
  abbrev pub after_slice_act : List Slice → ℕ → Act → List Slice
  after_slice_act slices key x =
      slice_set slices key (rules.sliced (slice_index_or slices key rules.empty) x)

  -- slices after acts, each on the one at a key
  abbrev pub after_slice_acts : List Slice → List (ℕ × Act) → List Slice
  after_slice_acts = fold (λ slices act. after_slice_act slices act.0 act.1)

  -- slices after a commit
  abbrev pub after_split : List Record → List Slice → Entry Request Reply → List Slice
  after_split table slices e = after_slice_acts slices (acts_at rules table e.request)

  -- the slices that a worker's commits make
  abbrev pub slices_of : List Record → List (Entry Request Reply) → List Slice
  slices_of table entries = fold (after_split table) (replicate (length table) rules.empty) entries

  -- a table into which slices are merged, one into each record
  abbrev pub merged_all : List Record → List Slice → List Record
  merged_all [] slices = []
  merged_all (r ∷ rs) [] = r ∷ rs
  merged_all (r ∷ rs) (s ∷ ss) = rules.merged r s ∷ merged_all rs ss

  -- a table into which the slices of several workers' commits are merged, worker after worker
  abbrev pub all_merged : List Record → List Record → List (List (Entry Request Reply)) →
      List Record
  all_merged opened table [] = table
  all_merged opened table (journal ∷ journals) =
      all_merged opened (merged_all table (slices_of opened journal)) journals

-- a list has the elements of several others, those of each in order
abbrev pub InterleavesAll : {X : Type 0} → List (List X) → List X → Type 0
InterleavesAll [] all = all ≡ []
InterleavesAll {X} (journal ∷ journals) all =
    (rest : List X) × InterleavesAll journals rest × Interleaves journal rest all
