-- One act on the shard in which its object lies.
use Rattle.std.specs.Prelude.{◌≡◌, List, length, slice_index_or, Some}
use Rattle.auction_rows.specs.Requests.{shard_of}
use Rattle.auction_rows.specs.declared.{requests.Object.Object, requests.ItemId.ItemId}
use Rattle.auction_rows.specs.declared.requests.Object.TheVariants as object
use Rattle.item_shards.specs.{Acting.{CanAct}, Contents.{target}, Looking.{event_at}}
use Rattle.item_shards.specs.{ShardContents.{contents, HasItemRoom}, declared.shard.Shard.{Shard}}
use Rattle.item_shards.specs.declared.shard.acts.Act.{Act}

-- the shard of these in which an object lies
abbrev pub IsShardOf : List Shard → Object → Shard → Type 0
IsShardOf shards object shard =
    shard ≡ slice_index_or shards (shard_of object (length shards)) shard

-- the act can be done on the shard in which its object lies, if it has one
abbrev pub CanActIn : List Shard → Act → Type 0
CanActIn shards act = (object : Object) (shard : Shard) →
    target (event_at (contents shard) act) ≡ Some object → IsShardOf shards object shard →
    CanAct shard act

-- there is room for the item in the shard in which it lies
abbrev pub HasRoomIn : List Shard → ItemId → Type 0
HasRoomIn shards id = (shard : Shard) → IsShardOf shards (object.Item id) shard →
    HasItemRoom shard id
