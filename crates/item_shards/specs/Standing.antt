-- What contents stand for.
use Rattle.std.specs.Prelude.{ℕ, ◌≡◌, false, List}
use Rattle.auction_rows.specs.{Book.{Book}, Footprint.{is_hot}, Requests.{shard_of}}
use Rattle.auction_rows.specs.declared.requests.Object.{Object}
use Rattle.item_shards.specs.{Contents.{Contents}, Values.{value}}

-- each object of the shard of this number that is not hot has the value that the book gives it
abbrev pub ContentsStandsFor : ℕ → ℕ → Contents → Book → List Object → Type 0
ContentsStandsFor number shards contents book hot =
    (object : Object) → shard_of object shards ≡ number → is_hot hot object ≡ false →
    contents object ≡ value book object
