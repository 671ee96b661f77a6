-- Published parts of a history, and what windows show of them.
use Rattle.std.specs.List.{AllByRecursion}
use Rattle.std.specs.Prelude.{◌≡◌, ℕ, ◌-◌, ◌/◌, ◌<◌, Bool, true, false, List, [], ◌∷◌, ◌++◌, length, fold}
use Rattle.split_engine.specs.{Rules.{Rules, most_acts}, Serial.{IsWithin, table_after}}
use Rattle.split_engine.specs.declared.{entry.Entry.{Entry}, few.TheConstants.{MOST_KEYS}}
use Rattle.application_window.specs.declared.publisher.PublishFault.{PublishFault}
use Rattle.application_window.specs.declared.publisher.PublishFault.TheVariants.{NoSuchKey, Full, Memory}

-- what a publisher has published
pub record Published (Commit : Type 0) : Type 0 where
  -- the parts that windows read
  pub parts : List (List Commit)
  -- how many commits more there can be
  pub room : ℕ
  -- whether it was refused memory: then it publishes no more
  pub failed : Bool

-- what was published, and one part more
abbrev pub with_part : {Commit : Type 0} → Published Commit → List Commit → Published Commit
with_part before part = record {
  parts = before.parts ++ part ∷ [];
  room = before.room - length part;
  failed = false;
}

-- what was published, after a refusal of memory
abbrev pub with_failure : {Commit : Type 0} → Published Commit → Published Commit
with_failure before = record { parts = before.parts; room = before.room; failed = true }

-- how many commits there can be after so many acts on a record: each may do one at each of its keys
abbrev pub room_after : ℕ → ℕ
room_after acts = (most_acts - acts) / MOST_KEYS

module _ {Record Slice Look Request Reply Act : Type 0}
    (rules : Rules Record Slice Look Request Reply Act) where
  -- the table after these parts of a history, one after the other
  abbrev pub table_of : List Record → List (List (Entry Request Reply)) → List Record
  table_of opened parts = fold (table_after rules) opened parts

  -- the commits of a part name keys of a table of so many records
  abbrev pub AreWithin : ℕ → List (Entry Request Reply) → Type 0
  AreWithin records part = AllByRecursion (λ e. IsWithin rules records e.request) part

  -- why a part is not published, by what was published before the call and after it
  abbrev pub IsRefused : ℕ → List (Entry Request Reply) → Published (Entry Request Reply) →
      Published (Entry Request Reply) → PublishFault → Type 0
  IsRefused records part before after NoSuchKey =
      (after ≡ before) × (AreWithin records part → ⊥)
  IsRefused records part before after Full =
      (after ≡ before) × (before.room < length part)
  IsRefused records part before after Memory =
      after ≡ with_failure before
