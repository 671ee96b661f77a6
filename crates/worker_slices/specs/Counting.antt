-- What a worker counts.
use Rattle.std.specs.Prelude.{◌≡◌, ℕ, ◌+◌, ◌≤◌, ⊤}
use Rattle.auction_rows.specs.declared.replies.Reply.{Reply}
use Rattle.auction_rows.specs.declared.replies.Reply.TheVariants.{ItemStored, BidStored, CommentStored, Bought, ItemSeen, BidsSeen, CategorySeen, UserSeen, Refused}
use Rattle.worker_slices.specs.declared.counters.Counters.{Counters}

-- no more stores of a kind than commits
pub record AreCounted (counters : Counters) : Type 0 where
  pub items : counters.items ≤ counters.commits
  pub bids : counters.bids ≤ counters.commits
  pub comments : counters.comments ≤ counters.commits
  pub buys : counters.buys ≤ counters.commits

-- a reply with an id has one of this worker
abbrev pub IsOwn : ℕ → Reply → Type 0
IsOwn worker (ItemStored id) = id.worker ≡ worker
IsOwn worker (BidStored id) = id.worker ≡ worker
IsOwn worker (CommentStored id) = id.worker ≡ worker
IsOwn worker (Bought id) = id.worker ≡ worker
IsOwn worker reply = ⊤

-- the counters after a commit with this reply
abbrev pub counters_after : Counters → Reply → Counters
counters_after counters (ItemStored id) =
    record counters { items = counters.items + 1; commits = counters.commits + 1 }
counters_after counters (BidStored id) =
    record counters { bids = counters.bids + 1; commits = counters.commits + 1 }
counters_after counters (CommentStored id) =
    record counters { comments = counters.comments + 1; commits = counters.commits + 1 }
counters_after counters (Bought id) =
    record counters { buys = counters.buys + 1; commits = counters.commits + 1 }
counters_after counters (ItemSeen seller category name start closes highest bidder bids left) =
    record counters { commits = counters.commits + 1 }
counters_after counters (BidsSeen bids) = record counters { commits = counters.commits + 1 }
counters_after counters (CategorySeen items) = record counters { commits = counters.commits + 1 }
counters_after counters (UserSeen rating comments) =
    record counters { commits = counters.commits + 1 }
counters_after counters (Refused reason) = record counters { commits = counters.commits + 1 }
