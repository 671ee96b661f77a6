-- What options say of an auction and of its run.
use Rattle.std.specs.Prelude.{ℕ, ◌≡◌, ◌≤◌, List, length, if◌then◌else◌}
use Rattle.auction_rows.specs.Book.{Book}
use Rattle.auction_rows.specs.declared.limits.TheConstants.{MOST_HOT, MOST_SHARDS, MOST_WORKERS}
use Rattle.auction_rows.specs.declared.{limits.Policy.Policy, values.Opening.Opening, rows.Entry.Entry}
use Rattle.auction_text.specs.{Replies.{history_text, replies_text}, RowLines.{rows_text}}
use Rattle.phase_floor.specs.States.{JoinedState}
use Rattle.program_options.specs.declared.options.TheConstants.{MOST_ASKED}
use Rattle.shard_boxes.specs.declared.limits.TheConstants.{MOST_COMMITS}
use Rattle.program_opening.specs.declared.options.Options.{Options}

-- the users and categories
abbrev pub opening_asked : Options → Opening
opening_asked options = record { users = options.users; categories = options.categories }

-- how the run is divided
abbrev pub policy_of : Options → Policy
policy_of options = record {
  shards = options.shards;
  joined_quota = options.joined;
  split_quota = options.split;
  threshold = options.threshold;
  hot_max = options.hot;
}

-- Each number lies in its option's range.
pub record AreInRange (options : Options) : Type 0 where
  pub some_workers : 1 ≤ options.workers
  pub workers : options.workers ≤ MOST_WORKERS
  pub some_shards : 1 ≤ options.shards
  pub shards : options.shards ≤ MOST_SHARDS
  pub some_joined : 1 ≤ options.joined
  pub joined : options.joined ≤ MOST_ASKED
  pub some_split : 1 ≤ options.split
  pub split : options.split ≤ MOST_ASKED
  pub some_threshold : 1 ≤ options.threshold
  pub threshold : options.threshold ≤ MOST_ASKED
  pub hot : options.hot ≤ MOST_HOT
  pub users : options.users ≤ MOST_ASKED
  pub categories : options.categories ≤ MOST_ASKED
  pub live : options.live ≤ MOST_ASKED

-- An auction is of the options' users and categories, workers and shards, and lasts.
pub record FitsOptions (options : Options) (auction : JoinedState) : Type 0 where
  pub opening : auction.opening ≡ opening_asked options
  pub limit : auction.limit ≡ MOST_COMMITS
  pub workers : length auction.counters ≡ options.workers
  pub shards : length auction.shards ≡ options.shards

-- what the options ask for: the rows, or else the history, or else the replies
abbrev pub commits_text : Options → Book → List Entry → List ℕ
commits_text options book history =
    if options.rows then rows_text book history
    else if options.history then history_text history
    else replies_text history
