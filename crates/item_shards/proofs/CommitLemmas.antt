-- Two acts in turn.
use Rattle.std.proofs.Common.{◌≡◌, ℕ, Bool, List, [], ◌∷◌, length, get_or, refl, sym, subst, ◌∙◌, arith}
use Rattle.auction_rows.specs.declared.{values.Opening.Opening, requests.ItemId.ItemId}
use Rattle.item_shards.specs.{Acting.{CanActOn, CanActIn}, Contents.{Contents, after_act}}
use Rattle.item_shards.specs.Events.{Event}
use Rattle.item_shards.specs.ShardContents.{shard_number, shard_count, contents, opening, rooms, IsSameShard}
use Rattle.item_shards.specs.declared.shard.{Shard.{Shard}, acts.Act.{Act}}

-- a list of two is its two elements
pub two_of : (acts : List Act) (a b : Act) → length acts ≡ 2 → acts ≡ get_or acts 0 a ∷ get_or acts 1 b ∷ []
two_of (x ∷ y ∷ []) a b is = refl
two_of (x ∷ y ∷ z ∷ acts) a b is = absurd (omega arith)
two_of acts a b is = absurd (cc)

-- what can be done after the first act can be done on the shard that it leaves
pub can_next : (old new : Shard) (first second : Event) → IsSameShard old new → rooms new ≡ rooms old → contents new ≡ after_act (contents old) first
    → CanActOn (opening old) (shard_number old) (shard_count old) (rooms old) (after_act (contents old) first) second → CanActIn new (rooms new) (contents new) second
can_next old new first second same room shown can =
    subst (λ (start : Opening). CanActOn start (shard_number new) (shard_count new) (rooms new) (contents new) second) (sym same.opening)
    (subst (λ (number : ℕ). CanActOn (opening old) number (shard_count new) (rooms new) (contents new) second) (sym same.number)
    (subst (λ (shards : ℕ). CanActOn (opening old) (shard_number old) shards (rooms new) (contents new) second) (sym same.shards)
    (subst (λ (has : ItemId → Bool). CanActOn (opening old) (shard_number old) (shard_count old) has (contents new) second) (sym room)
    (subst (λ (s : Contents). CanActOn (opening old) (shard_number old) (shard_count old) (rooms old) s second) (sym shown) can))))

-- a shard that is the same one twice is the same one
pub same_on : {first second third : Shard} → IsSameShard first second → IsSameShard second third → IsSameShard first third
same_on one two = record { number = two.number ∙ one.number; shards = two.shards ∙ one.shards; opening = two.opening ∙ one.opening }
