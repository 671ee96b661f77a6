-- What a view shows.
use Rattle.std.specs.Prelude.{◌≡◌, ℕ, None}
use Rattle.auction_rows.specs.declared.{requests.Request.Request, replies.Reply.Reply}
use Rattle.item_shards.specs.{Looking.{IsTrueOf}, ShardContents.{contents}}
use Rattle.item_shards.specs.declared.shard.{Shard.{Shard}, acts.Look.{Look}}
use Rattle.worker_slices.specs.declared.counters.Counters.{Counters}
use Rattle.phase_transactions.specs.{Txns.{IsReplyTo}, inner.{Begun.{look_for}, Deeds.{shown_with}}}

-- the shard that was taken shows a reply to a view
pub record IsShownBy (shard : Shard) (request : Request) (look : Look)
    (reply : Reply) : Type 0 where
  -- it is what the request looks at
  pub asked : look ≡ look_for request
  -- the reply answers the request, and is true of the shard
  pub answers : (counters : Counters) (worker : ℕ) → IsReplyTo counters worker request reply
  pub holds : IsTrueOf (contents shard) (shown_with None reply look)
