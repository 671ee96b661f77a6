-- The shard in which an object lies, of those that are numbered.
use Rattle.std.proofs.Common.{◌≡◌, ℕ, ◌<◌, List, length, map, get_or, sym, ap, ◌∙◌, arith}
use Rattle.std.proofs.lemmas.List.{length-map, get_or-map}
use Rattle.auction_rows.specs.Requests.{shard_of}
use Rattle.auction_rows.specs.declared.{values.Opening.Opening, requests.Object.Object}
use Rattle.item_shards.specs.ShardContents.{LiesIn, contents, opening, shard_count, shard_number}
use Rattle.item_shards.specs.declared.shard.Shard.{Shard}
use Rattle.shard_boxes.specs.States.{ShardState, state_of, state_at, no_shard}
use Rattle.auction_shards.specs.Shards.{AreNumbered, value_on}

-- what a shard shows that is read from a list of them
pub seen : (shards : List Shard) (place : ℕ) → place < length shards → (shard : Shard) → shard ≡ get_or shards place shard → state_of shard ≡ state_at (map state_of shards) place
seen shards place low shard is = ap state_of is ∙ sym (get_or-map state_of shards place shard no_shard low)

module _ (shards : List Shard) (numbered : AreNumbered (map state_of shards)) (object : Object) (place : ℕ) (low : place < length shards) (lies : shard_of object (length shards) ≡ place)
    (shard : Shard) (is : shard ≡ get_or shards place shard) where
  many : length (map state_of shards) ≡ length shards
  many = length-map shards state_of

  below : place < length (map state_of shards)
  below = omega (arith, low, many)

  pub number_there : shard_number shard ≡ place
  number_there = ap (λ (state : ShardState). state.number) (seen shards place low shard is) ∙ (numbered place below).0

  pub count_there : shard_count shard ≡ length shards
  count_there = ap (λ (state : ShardState). state.shards) (seen shards place low shard is) ∙ (numbered place below).1 ∙ many

  pub lies_there : LiesIn shard object
  lies_there = ap (shard_of object) count_there ∙ lies ∙ sym number_there

  pub opening_there : (start : Opening) → ((s : ℕ) → s < length (map state_of shards) → (state_at (map state_of shards) s).opening ≡ start) → opening shard ≡ start
  opening_there start have = ap (λ (state : ShardState). state.opening) (seen shards place low shard is) ∙ have place below

  pub value_there : contents shard object ≡ value_on (map state_of shards) object
  value_there =
      ap (λ (state : ShardState). state.contents object) (seen shards place low shard is)
      ∙ ap (λ s. (state_at (map state_of shards) s).contents object) (sym (ap (shard_of object) many ∙ lies))
