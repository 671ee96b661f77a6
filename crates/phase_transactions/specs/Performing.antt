-- What becomes of a request.
use Rattle.std.specs.Prelude.{◌≡◌, ℕ, suc, max, ◌<◌, ◌≤◌, Bool, false, List, length, None, Result, Ok, Err, ⊤}
use Rattle.phase_laws.specs.Numbers.{greatest_by}
use Rattle.auction_rows.specs.{Footprint.{footprint, takes_shard}, Refusals.{number_refusal}}
use Rattle.auction_rows.specs.declared.replies.Reply.TheVariants.{ItemStored}
use Rattle.auction_rows.specs.declared.requests.Request.TheVariants.{StoreItem, StoreComment}
use Rattle.auction_rows.specs.declared.{values.Opening.Opening, requests.Request.Request, replies.Reply.Reply, rows.Entry.Entry}
use Rattle.item_shards.specs.CommitNumbers.{last_number}
use Rattle.shard_boxes.specs.{Keys.{BoxId, KeyState, seat_at}, States.{ShardState, state_at}}
use Rattle.phase_transactions.specs.Putting.{HasPutAll, clock_seen, HasSameLines}
use Rattle.phase_transactions.specs.Txns.{Setting, Txn, hot_of, txn_number, takes, line_on, greatest_clock, is_put_off, IsAnswered, ReadSet}
use Rattle.phase_transactions.specs.Workers.{WorkerState, setting_of, next_entry, next_item, txn_of, hot_txn, after_commit, IsIdle}
use Rattle.phase_transactions.specs.declared.asked.HotStore.{TheVariants.{Bid, Comment}, HotStore}
use Rattle.phase_transactions.specs.declared.fault.PermitFault.{PermitFault}
use Rattle.phase_transactions.specs.declared.fault.PermitFault.TheVariants.{Memory, NumberFull}
use Rattle.request_scripts.specs.Scripts.{request_of}
use Rattle.worker_slices.specs.Slicing.{hot_objects}

-- the shards of a phase are those of an auction with as many users and categories
abbrev pub HaveOpening : List ShardState → Opening → Type 0
HaveOpening initial start = (s : ℕ) → s < length initial → (state_at initial s).opening ≡ start

-- With this a worker can perform a request of its quota, which is not put off.
pub record CanTransact (initial : List ShardState) (boxes : List BoxId) (w : WorkerState)
    (request : Request) : Type 0 where
  -- its key is for these boxes, and holds no shard
  pub of : w.key.boxes ≡ boxes
  pub idle : IsIdle w.key
  -- the shards are of an auction with its users and categories
  pub opened : HaveOpening initial w.opening
  -- the request is not put off
  pub goes : is_put_off (hot_objects w.slices) request ≡ false
  -- one of the quota is left
  pub left : 0 < w.left

-- A worker has done a transaction over the shards of its footprint.
pub record HasTransacted (z : Setting) (txn : Txn) (initial : List ShardState)
    (old new : WorkerState) : Type 0 where
  -- its number is 1 + the greatest of the worker's clock and the clocks found
  pub numbered : txn_number txn ≡ suc (max old.clock (greatest_clock z txn))
  pub within : txn_number txn ≤ last_number
  -- each shard of the footprint was taken and put back with the line owed there, and no other one
  pub put : HasPutAll initial old.key new.key (λ s. takes z s txn) (λ s. line_on z s txn)
  -- its reply is the answer by what it saw and by the counters
  pub answered : IsAnswered z old.counters txn

-- A request of the quota is committed with this reply.
pub record HasCommitted (initial : List ShardState) (old new : WorkerState) (request : Request)
    (index : ℕ) (answer : Reply) : Type 0 where
  -- its number, and what its transaction found
  pub number : ℕ
  pub found : ReadSet
  pub transacted : HasTransacted (setting_of old (length initial))
      (txn_of old number request index answer found) initial old new
  -- one of the quota is used, the journal gains the entry, and the slice of what it writes the
  -- operation
  pub worker : new ≡ record (after_commit old number index request answer) { key = new.key }

-- a request of the quota is committed with some reply
abbrev pub HasCommittedSome : List ShardState → WorkerState → WorkerState → Request → ℕ → Type 0
HasCommittedSome initial old new request index =
    (answer : Reply) × HasCommitted initial old new request index answer

-- A commit with an empty footprint, of a store on hot objects alone or of a request that the
-- opening refuses, however many shards there are: its number is 1 + the clock, the slice of what it
-- writes has its operation, and its reply is the answer by what is fixed and by the counters.
pub record HasStored (old new : WorkerState) (request : Request) (index : ℕ)
    (answer : Reply) : Type 0 where
  pub worker : new ≡ after_commit old (suc old.clock) index request answer
  pub answered : (shards : ℕ) →
      IsAnswered (setting_of old shards) old.counters (hot_txn old request index answer)

-- a request that takes no shard is committed with some reply
abbrev pub HasStoredSome : WorkerState → WorkerState → Request → ℕ → Type 0
HasStoredSome old new request index = (answer : Reply) × HasStored old new request index answer

-- a store on hot objects, as a request
abbrev pub hot_request : HotStore → Request
hot_request (Bid bid) = request_of bid
hot_request (Comment author about item stars) = StoreComment author about item stars

-- the entry of a request, of which the objects are looked at alone: an item to be stored has the
-- worker's next id
abbrev pub entry_asked : WorkerState → Request → Entry
entry_asked w request = next_entry w 0 0 request (ItemStored (next_item w))

-- the footprint of a request in a phase with so many shards
abbrev pub shards_asked : ℕ → WorkerState → Request → List ℕ
shards_asked shards w request =
    footprint w.opening shards (hot_of (setting_of w shards)) (entry_asked w request)

-- whether a shard is in the footprint of a request
abbrev pub asks : ℕ → WorkerState → Request → ℕ → Bool
asks shards w request shard =
    takes_shard w.opening shards (hot_of (setting_of w shards)) (entry_asked w request) shard

-- the greatest of the worker's clock and of those that the key has last seen on the shards of a
-- request's footprint
abbrev pub greatest_seen : List ShardState → WorkerState → KeyState → Request → ℕ
greatest_seen initial w key request =
    max w.clock (greatest_by (clock_seen initial key) (shards_asked (length initial) w request))

-- whether a request stores an item
abbrev pub StoresItem : Request → Type 0
StoresItem (StoreItem facts time) = ⊤
StoresItem request = ⊥

-- NumberFull exactly where the greatest clock is at the end of numbers, and Memory of an accepted
-- store of an item alone
abbrev pub IsCause : List ShardState → WorkerState → KeyState → Request → PermitFault → Type 0
IsCause initial w key request Memory =
    (greatest_seen initial w key request < last_number) × StoresItem request
    × (number_refusal w.opening request ≡ None)
IsCause initial w key request NumberFull = last_number ≤ greatest_seen initial w key request

-- The request was not performed, for its cause, and was not to be put off: nothing has changed but
-- what the key has seen of the shards of the footprint.
pub record HasFailed (initial : List ShardState) (old new : WorkerState) (request : Request)
    (fault : PermitFault) : Type 0 where
  -- all but the key is as before
  pub worker : new ≡ record old { key = new.key }
  -- the key's lines are as before, and what it has seen goes on
  pub lines : HasSameLines old.key new.key
  pub others : (shard : ℕ) → asks (length initial) old request shard ≡ false →
      seat_at new.key shard ≡ seat_at old.key shard
  pub idle : IsIdle new.key
  pub not_put_off : is_put_off (hot_objects old.slices) request ≡ false
  pub cause : IsCause initial old new.key request fault

-- what became of a request that is not put off
abbrev pub HasPerformed : List ShardState → WorkerState → WorkerState → Request → ℕ →
    Result Unit PermitFault → Type 0
HasPerformed initial old new request index (Ok done) =
    HasCommittedSome initial old new request index
HasPerformed initial old new request index (Err fault) = HasFailed initial old new request fault
