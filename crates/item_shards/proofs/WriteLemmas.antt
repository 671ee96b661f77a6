-- The two acts that write a row: room for them, where they can be done, and what they do.
use Rattle.std.proofs.Common.{◌≡◌, ℕ, Bool, true, ◌&&◌, ◌||◌, refl, sym, ap, subst, ◌∙◌}
use Rattle.std.{proofs.lemmas.Bool.{eq-eqb}, specs.List.{AllByRecursion}}
use Rattle.auction_rows.specs.{History.{commit_of}, Requests.{shard_of}}
use Rattle.auction_rows.specs.declared.replies.Reply.TheVariants.{ItemStored, BidStored, CommentStored, Bought}
use Rattle.auction_rows.specs.declared.requests.Object.TheVariants.{Item}
use Rattle.auction_rows.specs.declared.{values.Opening.Opening, requests.ItemId.ItemId, rows.ItemRow.ItemRow, rows.Row.Row}
use Rattle.auction_rows.specs.declared.rows.Row.TheVariants as row
use Rattle.item_shards.specs.Acting.{CanActOn, CanActIn, CanWrite, HasRoomFor}
use Rattle.item_shards.specs.Contents.{Contents, after_act, after_acts}
use Rattle.item_shards.specs.Writing.{writes_of, first_act, second_act}
use Rattle.item_shards.specs.declared.shard.Shard.{Shard}
use Rattle.item_shards.specs.ShardContents.{contents as contents_of, opening, rooms as rooms_of, shard_count, shard_number, with_room, IsSameShard}

-- ---- room

pub has_own_room : (id : ItemId) (others : ItemId → Bool) → with_room id others id ≡ true
has_own_room id others = (λ i. ((eq-eqb id.worker id.worker refl i) && (eq-eqb id.serial id.serial refl i)) || others id)

-- only the row of an item is stored by an item's id
pub row_of_item : (any : Row) (id : ItemId) → (commit_of any).reply ≡ ItemStored id → (r : ItemRow) × (any ≡ row.Item r)
row_of_item (row.Item r) id e = (r, refl)
row_of_item (row.Bid r) id e = let stored : BidStored r.id ≡ ItemStored id = e in absurd (cc stored)
row_of_item (row.Comment r) id e = let stored : CommentStored r.id ≡ ItemStored id = e in absurd (cc stored)
row_of_item (row.Buy r) id e = let stored : Bought r.id ≡ ItemStored id = e in absurd (cc stored)

module _ (number shards : ℕ) (rooms : ItemId → Bool) where
  -- room for one item more is room for the row that stores it
  pub room_for_item : (others : ItemId → Bool) (any : Row) (r : ItemRow) → any ≡ row.Item r → rooms ≡ with_room r.id others → HasRoomFor number shards rooms (commit_of any)
  room_for_item others any r is granted = subst (λ one. HasRoomFor number shards rooms (commit_of one)) (sym is) own where
    own : (id : ItemId) → ItemStored r.id ≡ ItemStored id → shard_of (Item id) shards ≡ number → rooms id ≡ true
    own id stored here =
        let same : r.id ≡ id = cc stored in
        ap rooms (sym same) ∙ ap (λ (has : ItemId → Bool). has r.id) granted ∙ has_own_room r.id others

  -- no other row needs room
  pub room_for_other : (any : Row) → ((r : ItemRow) → any ≡ row.Item r → ⊥) → HasRoomFor number shards rooms (commit_of any)
  room_for_other any other = λ id e here. let found = row_of_item any id e in absurd (other found.0 found.1)

-- ---- where they can be done

-- the acts of a row can be done on a shard that was prepared for it
pub can_once_prepared : (old new : Shard) (r : Row) → IsSameShard old new → contents_of new ≡ contents_of old → CanWrite old r
    → HasRoomFor (shard_number old) (shard_count old) (rooms_of new) (commit_of r) → AllByRecursion (CanActIn new (rooms_of new) (contents_of new)) (writes_of r)
can_once_prepared old new r same shown can room =
    let has = rooms_of new in
    subst (λ (start : Opening). AllByRecursion (CanActOn start (shard_number new) (shard_count new) has (contents_of new)) (writes_of r)) (sym same.opening)
    (subst (λ (number : ℕ). AllByRecursion (CanActOn (opening old) number (shard_count new) has (contents_of new)) (writes_of r)) (sym same.number)
    (subst (λ (shards : ℕ). AllByRecursion (CanActOn (opening old) (shard_number old) shards has (contents_of new)) (writes_of r)) (sym same.shards)
    (subst (λ (now : Contents). AllByRecursion (CanActOn (opening old) (shard_number old) (shard_count old) has now) (writes_of r)) (sym shown) (can has room))))

module _ (start : Opening) (number shards : ℕ) (rooms : ItemId → Bool) (contents : Contents) where
  pub first_can : (r : Row) → AllByRecursion (CanActOn start number shards rooms contents) (writes_of r) → CanActOn start number shards rooms contents (first_act (writes_of r))
  first_can (row.Item r) can = can.0
  first_can r can = can.0

  -- the second can be done whatever is there then
  pub second_can : (r : Row) → AllByRecursion (CanActOn start number shards rooms contents) (writes_of r) → (after : Contents) → CanActOn start number shards rooms after (second_act (writes_of r))
  second_can (row.Item r) can after = can.1.0
  second_can r can after = tt

-- ---- what they do

pub both_done : (contents : Contents) (r : Row) → after_act (after_act contents (first_act (writes_of r))) (second_act (writes_of r)) ≡ after_acts contents (writes_of r)
both_done contents (row.Item r) = refl
both_done contents r = refl
