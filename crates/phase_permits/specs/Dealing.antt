-- What a permit did with a request.
use Rattle.std.specs.Prelude.{◌≡◌, ℕ, Bool, true, false, List, [], Some, slice_get}
use Rattle.auction_rows.specs.declared.{requests.Request.Request, replies.Reply.Reply}
use Rattle.shard_boxes.specs.States.{ShardState}
use Rattle.phase_permits.specs.declared.done.Done.{TheVariants.{Committed, Stashed}, Done}
use Rattle.phase_transactions.specs.Performing.{HasCommitted, HasCommittedSome, HasFailed, shards_asked}
use Rattle.phase_transactions.specs.{Txns.{is_put_off}, declared.fault.PermitFault.{PermitFault}}
use Rattle.phase_transactions.specs.Workers.{WorkerState, after_putting_off, with_first_unstashed}
use Rattle.worker_slices.specs.Slicing.{hot_objects}

-- The request waits for the next joined phase.
pub record HasPutOff (old new : WorkerState) (request : Request) (index : ℕ) : Type 0 where
  -- it is stashable, and touches what is hot
  pub put_off : is_put_off (hot_objects old.slices) request ≡ true
  -- it waits in the stash, and one of the quota is used
  pub worker : new ≡ after_putting_off old index request

-- what a split permit did with a request
abbrev pub HasDealtWith : List ShardState → WorkerState → WorkerState → Request → ℕ → Done → Type 0
HasDealtWith initial old new request index (Committed reply) =
    HasCommitted initial old new request index reply
HasDealtWith initial old new request index Stashed = HasPutOff old new request index

-- what a split permit did with a request whose reply is left in the journal
abbrev pub HasDealt : List ShardState → WorkerState → WorkerState → Request → ℕ → Bool → Type 0
HasDealt initial old new request index true = HasCommittedSome initial old new request index
HasDealt initial old new request index false = HasPutOff old new request index

-- a request that takes no shard leaves the key
abbrev pub IsUntouched : ℕ → WorkerState → WorkerState → Request → Type 0
IsUntouched shards old new request = shards_asked shards old request ≡ [] → new.key ≡ old.key

-- the first stashed request was committed as one of the quota, into which it was taken
pub record HasPerformedFirst (initial : List ShardState) (old new : WorkerState)
    (answer : Reply) : Type 0 where
  pub index : ℕ
  pub request : Request
  pub first : slice_get old.stash.requests 0 ≡ Some (index, request)
  pub committed : HasCommitted initial (with_first_unstashed old) new request index answer

-- the first stashed request was not performed, for its cause: it waits as before
pub record HasFailedFirst (initial : List ShardState) (old new : WorkerState)
    (fault : PermitFault) : Type 0 where
  pub index : ℕ
  pub request : Request
  pub first : slice_get old.stash.requests 0 ≡ Some (index, request)
  pub failed : HasFailed initial old new request fault

-- the first stashed request was committed with some reply
abbrev pub HasPerformedFirstSome : List ShardState → WorkerState → WorkerState → Type 0
HasPerformedFirstSome initial old new = (answer : Reply) × HasPerformedFirst initial old new answer
