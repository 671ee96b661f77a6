-- The shard in which an object lies, and what it shows.
use Rattle.std.proofs.Common.{◌≡◌, ℕ, ◌<◌, List, [], length, map, refl, sym, ap, ◌∙◌, arith}
use Rattle.std.proofs.lemmas.{List.{length-map}, Nat.{mod_below}}
use Rattle.auction_rows.specs.{Book.{Book}, Replies.{reply}, Requests.{number_of, shard_of}}
use Rattle.auction_rows.specs.declared.{values.Opening.Opening, requests.Object.Object, requests.Request.Request, replies.Reply.Reply}
use Rattle.item_shards.specs.ShardContents.{LiesIn, opening, contents, ForEachBook, ShardStandsFor}
use Rattle.item_shards.specs.declared.shard.Shard.{Shard}
use Rattle.shard_boxes.specs.States.{ShardState, state_of}
use Rattle.auction_shards.proofs.Placed.{seen, number_there, count_there, lies_there, opening_there, value_there}
use Rattle.auction_shards.specs.Shards.{AreOfOne, ShardsStandFor, opening_in, value_on}
use Rattle.auction_shards.specs.inner.Acting.{IsShardOf}

module _ (shards : List Shard) (one : AreOfOne (map state_of shards)) (object : Object) (shard : Shard) (is : IsShardOf shards object shard) where
  abbrev place : ℕ
  place = shard_of object (length shards)

  same : length (map state_of shards) ≡ length shards
  same = length-map shards state_of

  low : place < length shards
  low = mod_below (number_of object) (length shards) (omega (arith, same, one.some))

  pub lies : LiesIn shard object
  lies = lies_there shards one.numbered object place low refl shard is

  pub opening_is : opening shard ≡ opening_in (map state_of shards)
  opening_is = opening_there shards one.numbered object place low refl shard is (opening_in (map state_of shards)) one.opening_is

  pub value_is : contents shard object ≡ value_on (map state_of shards) object
  value_is = value_there shards one.numbered object place low refl shard is

  pub stands : (book : Book) → ShardsStandFor (map state_of shards) book [] → ShardStandsFor shard book []
  stands book h other here cold =
      let number = number_there shards one.numbered object place low refl shard is in let count = count_there shards one.numbered object place low refl shard is in
      ap (λ (s : ShardState). s.contents other) (seen shards place low shard is)
      ∙ h place (omega (arith, low, same)) other (ap (shard_of other) (same ∙ sym count) ∙ here ∙ number) cold

-- the reply of a view of an object that is not hot
pub replies : (shard : Shard) (object : Object) (start : Opening) (answer : Reply) (request : Request) → opening shard ≡ start
    → ForEachBook shard object (λ book. (worker : ℕ) → answer ≡ reply (opening shard) book worker request)
    → (book : Book) → ShardStandsFor shard book [] → (worker : ℕ) → answer ≡ reply start book worker request
replies shard object start answer request openings each book stands worker =
    each book [] stands refl worker ∙ ap (λ o. reply o book worker request) openings
