-- A shard that was prepared for an item shows what it showed, and has room for it.
use Rattle.std.proofs.Common.{◌≡◌, Bool, ◌||◌, refl, sym, ap, subst, ◌∙◌}
use Rattle.std.specs.Prelude.{IsTrue, Result, Ok, Err, OnOk, IfOk}
use Rattle.auction_rows.proofs.RequestLemmas.{same_objects}
use Rattle.auction_rows.specs.declared.requests.{ItemId.{ItemId}, Object.TheVariants.{Item}}
use Rattle.item_shards.specs.ShardContents.{HasItemRoom, IsSameShard, clock, contents, rooms, with_room}
use Rattle.item_shards.specs.declared.shard.Shard.{Shard}
use Rattle.shard_boxes.specs.States.{state_of}

pub same_state : (old lent new : Shard) → lent ≡ old → IsSameShard lent new → contents new ≡ contents lent → clock new ≡ clock lent → state_of new ≡ state_of old
same_state old lent new is same shown clocked = (λ i. record { number = same.number i; shards = same.shards i; opening = same.opening i; clock = clocked i; contents = shown i }) ∙ ap state_of is

room_made : (id : ItemId) (had : ItemId → Bool) → IsTrue (with_room id had id)
room_made id had = ap (λ b. b || had id) ((same_objects (Item id) (Item id)).1 refl)

pub has_room : {E : Type 0} (result : Result Unit E) (lent new : Shard) (id : ItemId) → OnOk result (rooms new ≡ with_room id (rooms lent)) → IfOk result (λ _. HasItemRoom new id)
has_room (Ok done) lent new id granted = subst (λ (had : ItemId → Bool). IsTrue (had id)) (sym granted) (room_made id (rooms lent))
has_room (Err fault) lent new id granted = granted
