-- A request that takes no shard leaves the key as it was.
use Rattle.std.proofs.Common.{◌≡◌, ℕ, ◌==◌, not, cond, List, [], length, map, filter, Option, Some, None, is_some, MatchOption, Result, Ok, Err, refl, ap, ◌∙◌}
use Rattle.std.{proofs.lemmas.List.{ext_get_or}, specs.{List.{list_any}, Option.{option_or}}}
use Rattle.auction_rows.specs.{Footprint.{is_hot, objects_of, footprint}, Refusals.{number_refusal}}
use Rattle.auction_rows.specs.{Requests.{shard_of}, declared.replies.Reply.TheVariants.{Refused}}
use Rattle.auction_rows.specs.declared.requests.Request.TheVariants.{StoreItem}
use Rattle.auction_rows.specs.declared.{requests.Request.Request, replies.Refusal.Refusal, replies.Reply.Reply}
use Rattle.shard_boxes.specs.{Keys.{KeyState, no_seat, seat_at}, States.{ShardState}}
use Rattle.phase_transactions.specs.Performing.{HasCommitted, HasFailed, HasPerformed, shards_asked}
use Rattle.phase_permits.specs.Dealing.{IsUntouched}
use Rattle.phase_transactions.specs.Txns.{hot_of, IsAnswered, ReadSet}
use Rattle.phase_transactions.specs.Workers.{WorkerState, setting_of, txn_of}
use Rattle.phase_transactions.specs.declared.fault.PermitFault.{PermitFault}

-- a commit with an empty footprint leaves the key, and so does a failure
same_key : (old new : KeyState) → new.boxes ≡ old.boxes → new.worker ≡ old.worker → length new.seats ≡ length old.seats → ((shard : ℕ) → seat_at new shard ≡ seat_at old shard) → new ≡ old
same_key old new boxes worker many seats =
    let same = ext_get_or no_seat new.seats old.seats many (λ shard known. seats shard) in
    λ i. record { boxes = boxes i; worker = worker i; seats = same i }

pub commit_leaves : (initial : List ShardState) (old new : WorkerState) (request : Request) (index : ℕ) (given : Reply) (done : HasCommitted initial old new request index given)
    → (let z = setting_of old (length initial) in footprint z.opening z.shards (hot_of z) (txn_of old done.number request index given done.found).0 ≡ [])
    → new.key ≡ old.key
commit_leaves initial old new request index given done empty =
    same_key old.key new.key done.transacted.put.boxes done.transacted.put.worker done.transacted.put.seats (λ shard. done.transacted.put.others shard (ap (list_any (λ taken. taken == shard)) empty))

pub failure_leaves : (initial : List ShardState) (old new : WorkerState) (request : Request) (fault : PermitFault) → HasFailed initial old new request fault
    → shards_asked (length initial) old request ≡ [] → new.key ≡ old.key
failure_leaves initial old new request fault failed empty =
    same_key old.key new.key failed.lines.boxes failed.lines.worker failed.lines.seats (λ shard. failed.others shard (ap (list_any (λ taken. taken == shard)) empty))

-- what the reply to an item that is not refused tells is known before
told_before : {A : Type 0} (refused : Option Refusal) (given stored : Reply) (told : Reply → List A) → MatchOption (option_or refused None) (given ≡ stored) (λ reason. given ≡ Refused reason)
    → cond (is_some refused) [] (told given) ≡ cond (is_some refused) [] (told stored)
told_before None given stored told is = ap told is
told_before (Some reason) given stored told is = refl

-- a commit took the shards that its request asked for
pub took_asked : (w : WorkerState) (shards number index : ℕ) (request : Request) (given : Reply) (found : ReadSet) → IsAnswered (setting_of w shards) w.counters (txn_of w number request index given found)
    → (let z = setting_of w shards in footprint z.opening z.shards (hot_of z) (txn_of w number request index given found).0) ≡ shards_asked shards w request
took_asked w shards number index (StoreItem facts time) given found is =
    ap (map (λ object. shard_of object shards))
    (told_before (number_refusal w.opening (StoreItem facts time)) given _ (λ reply. filter (λ object. not (is_hot (hot_of (setting_of w shards)) object)) (objects_of (StoreItem facts time) reply)) is.answered)
took_asked w shards number index request given found is = refl

pub leaves_untouched : (initial : List ShardState) (old new : WorkerState) (request : Request) (index : ℕ) (result : Result Unit PermitFault) → HasPerformed initial old new request index result
    → IsUntouched (length initial) old new request
leaves_untouched initial old new request index (Ok done) (given, committed) none =
    commit_leaves initial old new request index given committed (took_asked old (length initial) committed.number index request given committed.found committed.transacted.answered ∙ none)
leaves_untouched initial old new request index (Err fault) failed none = failure_leaves initial old new request fault failed none
