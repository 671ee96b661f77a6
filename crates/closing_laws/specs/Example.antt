-- A phase that closes: a user is hot, and the one worker comments on a stored item about that user.
use Rattle.std.specs.Prelude.{false, [], ◌∷◌, Some, None}
use Rattle.auction_rows.specs.{Book.{Book}, History.{rows_of}, Stars.{five}}
use Rattle.auction_rows.specs.declared.replies.Reply.TheVariants.{CommentStored}
use Rattle.auction_rows.specs.declared.requests.Object.TheVariants.{Item, User}
use Rattle.auction_rows.specs.declared.requests.Request.TheVariants.{StoreComment}
use Rattle.auction_rows.specs.declared.{requests.ItemId.ItemId, requests.Facts.Facts, rows.Entry.Entry}
use Rattle.auction_rows.specs.declared.rows.Row.TheVariants as row
use Rattle.item_shards.specs.Values.{stock, value}
use Rattle.shard_boxes.specs.{Keys.{KeyState}, Lines.{Line, after_line}, States.{ShardState}}
use Rattle.worker_slices.specs.{Slicing.{slices_of}, declared.counters.Counters.{Counters}}
use Rattle.phase_transactions.specs.{Txns.{Setting, Txn, line_on, after_txn}, Workers.{WorkerState}}
use Rattle.closing_laws.specs.Phases.{Phase}

-- the item that is stored
abbrev pub first_item : ItemId
first_item = record { worker = 0; serial = 0 }

-- there is one shard, and a user is hot
abbrev pub setting : Setting
setting = record {
  opening = record { users = 1; categories = 1 };
  shards = 1;
  stocks = (User 0, None) ∷ [];
}

-- the worker has stored an item before
abbrev pub counters : Counters
counters = record { items = 1; bids = 0; comments = 0; buys = 0; commits = 1 }

-- the worker's comment
abbrev pub entry : Entry
entry = record {
  phase = 1;
  number = 1;
  worker = 0;
  index = 0;
  request = StoreComment 0 0 first_item five;
  reply = CommentStored (record { worker = 0; serial = 0 });
}

module _ (facts : Facts) where
  -- the book of the phase's opening
  abbrev pub example_book : Book
  example_book = row.Item (record { id = first_item; facts = facts; time = 0 }) ∷ []

  -- the shard with which the phase opens
  abbrev pub opened : ShardState
  opened = record {
    number = 0;
    shards = 1;
    opening = setting.opening;
    clock = 0;
    contents = value example_book;
  }

  -- the transaction of the comment
  abbrev pub txn : Txn
  txn = (
    entry,
    record {
      stock = stock (value example_book (Item first_item));
      clocks = Some (0, 0) ∷ None ∷ [];
    },
  )

  -- the line of the transaction
  abbrev pub line : Line
  line = line_on setting 0 txn

  -- the worker's key after the transaction
  abbrev pub key : KeyState
  key = record {
    boxes = [];
    worker = 0;
    seats = record { holds = false; lines = line ∷ []; seen = (0, line) ∷ [] } ∷ [];
  }

  -- the worker's receipt
  abbrev pub receipt : WorkerState
  receipt = record {
    key = key;
    opening = setting.opening;
    begun = (counters, 0);
    counters = after_txn counters txn;
    journal = record { phase = 1; worker = 0; room = 1; entries = entry ∷ [] };
    stash = record { requests = []; done = []; room = 0 };
    slices = slices_of setting.stocks (rows_of (entry ∷ []));
    left = 0;
    tries = 1;
    clock = 1;
  }

  -- the phase that has closed
  abbrev pub example_phase : Phase
  example_phase = record {
    setting = setting;
    initial = opened ∷ [];
    counters = counters ∷ [];
    receipts = receipt ∷ [];
    given = after_line opened line ∷ [];
    entries = entry ∷ [];
  }
