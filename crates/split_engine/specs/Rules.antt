-- What an application says of its records and requests, and what its user proves of that.
use Rattle.std.specs.List.{AllByRecursion}
use Rattle.std.specs.Prelude.{◌≡◌, ℕ, suc, ◌+◌, ◌≤◌, Bool, true, List, slice_index_or}
use Rattle.split_engine.specs.declared.entry.Decision.{Decision}

-- The model of an application.
pub record Rules (Record Slice Look Request Reply Act : Type 0) : Type 0 where
  -- the keys of the records that a request names: one may stand there twice
  pub keys : Request → List ℕ
  -- whether a request can be performed on slices
  pub splits : Request → Bool
  -- what is read at a key that is none of the table's
  pub blank : Record
  -- what a request sees of a record
  pub look : Record → Look
  -- what of that does not change while the record is split, the rest being blank
  pub fixed : Look → Look
  -- what a request is answered and does, by what it sees at each place of its keys
  pub decide : Request → (ℕ → Look) → Decision Reply Act
  -- a record after an act
  pub applied : Record → Act → Record
  -- whether an act can be done on a slice
  pub is_splittable : Act → Bool
  -- a slice to which nothing was done
  pub empty : Slice
  -- a slice after an act
  pub sliced : Slice → Act → Slice
  -- a record into which a slice is merged
  pub merged : Record → Slice → Record

module _ {Record Slice Look Request Reply Act : Type 0}
    (rules : Rules Record Slice Look Request Reply Act) where
  -- the look at a place, of some looks
  abbrev pub looks_in : List Look → ℕ → Look
  looks_in looks place = slice_index_or looks place (rules.look rules.blank)

  -- What a user proves. `Fits n` holds of what at most n acts can make, `IsSmall` of the acts that
  -- requests decide.
  pub record SplitLaws (Fits : ℕ → Record → Type 0) (SliceFits : ℕ → Slice → Type 0)
      (IsSmall : Act → Type 0) : Type 0 where
    -- a slice to which nothing was done changes nothing
    pub merge_nothing : (n : ℕ) (r : Record) → Fits n r → rules.merged r rules.empty ≡ r
    -- an act on the slice is the same act on the record after merging
    pub merge_one_more : (r : Record) (s : Slice) (x : Act) → rules.is_splittable x ≡ true →
        rules.merged r (rules.sliced s x) ≡ rules.applied (rules.merged r s) x
    -- acts on slices commute
    pub commute : (r : Record) (x y : Act) →
        rules.is_splittable x ≡ true → rules.is_splittable y ≡ true →
        rules.applied (rules.applied r x) y ≡ rules.applied (rules.applied r y) x
    -- and leave what is fixed
    pub keeps_fixed : (r : Record) (x : Act) → rules.is_splittable x ≡ true →
        rules.fixed (rules.look (rules.applied r x)) ≡ rules.fixed (rules.look r)
    -- a request on slices is decided by what is fixed
    pub by_fixed : (q : Request) (looks : ℕ → Look) → rules.splits q ≡ true →
        rules.decide q (λ place. rules.fixed (looks place)) ≡ rules.decide q looks
    -- and does such acts
    pub acts_split : (q : Request) (looks : ℕ → Look) → rules.splits q ≡ true →
        AllByRecursion (λ x. rules.is_splittable x ≡ true) (rules.decide q looks).acts
    -- the bound on acts may be raised
    pub fits_more : (n m : ℕ) (r : Record) → n ≤ m → Fits n r → Fits m r
    -- an act raises it by one
    pub fits_after : (n : ℕ) (r : Record) (x : Act) → IsSmall x → Fits n r →
        Fits (suc n) (rules.applied r x)
    -- a merge adds the slice's bound
    pub fits_merged : (n m : ℕ) (r : Record) (s : Slice) → Fits n r → SliceFits m s →
        Fits (n + m) (rules.merged r s)
    -- the same of slices
    pub slice_fits_none : SliceFits 0 rules.empty
    pub slice_fits_more : (n m : ℕ) (s : Slice) → n ≤ m → SliceFits n s → SliceFits m s
    pub slice_fits_after : (n : ℕ) (s : Slice) (x : Act) → IsSmall x → SliceFits n s →
        SliceFits (suc n) (rules.sliced s x)

-- how many acts a record may have
abbrev pub most_acts : ℕ
most_acts = 4294967296

-- how many of them it may have before a run
abbrev pub most_before : ℕ
most_before = 2147483648

-- the first number that is no u32: of a script's indexes, and of workers
abbrev pub index_end : ℕ
index_end = 4294967296
