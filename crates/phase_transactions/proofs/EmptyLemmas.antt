-- A request that takes no shard: performed it is a commit, and at the end of numbers it failed.
use Rattle.std.proofs.Common.{◌≡◌, ℕ, suc, max, ◌<◌, ◌≤◌, ◌==◌, not, Bool, true, false, cond, if◌then◌else◌, List, [], ◌∷◌, length, map, filter, Option, Some, None, Result, Ok, Err, is_some, refl, sym, ap, subst, ◌∙◌, ◌↔◌, arith}
use Rattle.std.proofs.{Math.Nat.{lt_of_not-le}, lemmas.Bool.{false≢true, true≢false}}
use Rattle.std.specs.{List.{AllByRecursion, list_any}, Prelude.{IsNone, IfSome}}
use Rattle.auction_rows.specs.{Refusals.{number_refusal}, Requests.{shard_of}}
use Rattle.auction_rows.specs.declared.requests.Object.TheVariants.{Item, User}
use Rattle.auction_rows.specs.declared.requests.Request.TheVariants.{StoreBid, StoreComment}
use Rattle.auction_rows.specs.declared.{requests.Object.Object, requests.Request.Request, replies.Refusal.Refusal, replies.Reply.Reply}
use Rattle.auction_rows.specs.Footprint.{is_hot, objects_of as objects_named}
use Rattle.item_shards.specs.CommitNumbers.{last_number}
use Rattle.shard_boxes.specs.States.{ShardState}
use Rattle.phase_transactions.proofs.{AnswerLemmas.{in_setting}, BegunLemmas.{same_named}}
use Rattle.phase_transactions.proofs.{KeyLemmas.{lines_still}, PutAllLemmas.{none_put, put_owed}}
use Rattle.phase_transactions.proofs.WrittenLemmas.{greatest_same}
use Rattle.phase_transactions.specs.Performing.{HasCommitted, HasCommittedSome, HasFailed, HasPerformed, HasStored, HasStoredSome, asks}
use Rattle.phase_transactions.specs.Putting.{HasPutAll}
use Rattle.phase_transactions.specs.Txns.{clock_found, hot_of, takes, greatest_clock, is_put_off}
use Rattle.phase_transactions.specs.Workers.{WorkerState, IsIdle, setting_of, hot_txn, nothing, after_commit}
use Rattle.phase_transactions.specs.declared.fault.PermitFault.{PermitFault}
use Rattle.phase_transactions.specs.declared.fault.PermitFault.TheVariants.{Memory, NumberFull}
use Rattle.phase_transactions.specs.inner.Storing.{HasStoredOrIsFull}
use Rattle.phase_transactions.specs.inner.Takens.{each_once, footprint_of, is_one_of, no_line}
use Rattle.worker_slices.specs.{Homes.{IsHotStore, shard_at}, Slicing.{hot_objects, stocks_of}}
use Rattle.worker_slices.specs.declared.homes.Homes.{Homes}

module _ (initial : List ShardState) (old new : WorkerState) (request : Request) (index : ℕ) (idle : IsIdle old.key) where
  abbrev Untaken : Reply → Type 0
  Untaken answer = (t : ℕ) → takes (setting_of old (length initial)) t (hot_txn old request index answer) ≡ false

  stored_commits : (answer : Reply) → HasStored old new request index answer → old.clock < last_number → Untaken answer → HasCommitted initial old new request index answer
  stored_commits answer stored below untaken =
      let key_is : new.key ≡ old.key = ap (λ (w : WorkerState). w.key) stored.worker in
      let zero : greatest_clock (setting_of old (length initial)) (hot_txn old request index answer) ≡ 0 = greatest_same (λ s. clock_found s (hot_txn old request index answer)) _ [] untaken in
      let numbered : suc old.clock ≡ suc (max old.clock (greatest_clock (setting_of old (length initial)) (hot_txn old request index answer))) = omega (arith, zero) in
      let within : suc old.clock ≤ last_number = omega (arith, below) in record {
        number = suc old.clock;
        found = nothing;
        transacted = record {
          numbered = numbered;
          within = within;
          put = put_owed untaken (λ t took. absurd (false≢true took)) (subst (λ key. HasPutAll initial old.key key (is_one_of []) (λ t. no_line)) (sym key_is) (none_put initial old.key idle));
          answered = stored.answered (length initial);
        };
        worker = stored.worker ∙ (λ i. record (after_commit old (suc old.clock) index request answer) { key = sym key_is i });
      }

  full_fails : new ≡ old → last_number ≤ old.clock → is_put_off (hot_objects old.slices) request ≡ false → HasFailed initial old new request NumberFull
  full_fails same full goes =
      let key_is : new.key ≡ old.key = ap (λ (w : WorkerState). w.key) same in
      subst (λ (w : WorkerState). HasFailed initial old w request NumberFull) (sym same) record {
        worker = refl;
        lines = lines_still old.key;
        others = λ t left. refl;
        idle = idle;
        not_put_off = goes;
        cause = omega (arith, full);
      }

  -- what comes of it
  pub stored_performed : (result : Result Unit PermitFault) → HasStoredOrIsFull old new request index result
      → ((answer : Reply) → HasStored old new request index answer → Untaken answer) → is_put_off (hot_objects old.slices) request ≡ false → HasPerformed initial old new request index result
  stored_performed (Ok done) stored untaken goes = (stored.1.0, stored_commits stored.1.0 stored.1.1 stored.0 (untaken stored.1.0 stored.1.1))
  stored_performed (Err Memory) stored untaken goes = absurd stored
  stored_performed (Err NumberFull) stored untaken goes = full_fails stored.1 stored.0 goes

-- a request that the opening refuses takes none
pub refused_untaken : (w : WorkerState) (shards index : ℕ) (request : Request) (reason : Refusal) (answer : Reply) → number_refusal w.opening request ≡ Some reason → (t : ℕ) → takes (setting_of w shards) t (hot_txn w request index answer) ≡ false
refused_untaken w shards index request reason answer refused t =
    ap (λ refusal. list_any (λ taken. taken == t) (map (λ object. shard_of object shards) (if is_some refusal then [] else filter (λ object. not (is_hot (hot_of (setting_of w shards)) object)) (objects_named request answer)))) refused

-- nor does one of which no object lies in a shard
pub hot_untaken : (w new : WorkerState) (shards index : ℕ) (request : Request) (homes : Homes) (answer : Reply) → number_refusal w.opening request ≡ None → HasStored w new request index answer
    → ((t : ℕ) → asks shards w request t ≡ is_one_of (footprint_of homes) t) → shard_at homes.item ≡ None → shard_at homes.other ≡ None → (t : ℕ) → takes (setting_of w shards) t (hot_txn w request index answer) ≡ false
hot_untaken w new shards index request homes answer allowed stored asked item other t =
    ap (λ objects. list_any (λ taken. taken == t) (map (λ object. shard_of object shards)
    (if is_some (number_refusal w.opening request) then [] else filter (λ object. not (is_hot (hot_of (setting_of w shards)) object)) objects))) (same_named w shards (suc w.clock) index request answer nothing allowed (stored.answered shards))
    ∙ asked t ∙ (λ i. is_one_of (each_once (item i) (other i)) t)

-- nor does a store on hot objects alone
none_cold : (hot objects : List Object) → AllByRecursion (λ object. is_hot hot object ≡ true) objects → filter (λ object. not (is_hot hot object)) objects ≡ []
none_cold hot [] all = refl
none_cold hot (object ∷ objects) all = ap (λ b. cond (not b) (object ∷ filter (λ other. not (is_hot hot other)) objects) (filter (λ other. not (is_hot hot other)) objects)) all.0 ∙ none_cold hot objects all.1

none_if : (b : Bool) (objects : List Object) → objects ≡ [] → cond b [] objects ≡ []
none_if true objects is = refl
none_if false objects is = is

all_hot : (w : WorkerState) (request : Request) (reply : Reply) → IsHotStore w.slices request → AllByRecursion (λ object. is_hot (hot_objects (stocks_of w.slices)) object ≡ true) (objects_named request reply)
all_hot w (StoreBid bidder item amount time) reply hot = (in_setting w.slices (Item item) hot, tt)
all_hot w (StoreComment author about item stars) reply hot = (in_setting w.slices (Item item) hot.0, (in_setting w.slices (User about) hot.1, tt))
all_hot w request reply hot = absurd hot

hot_store_untaken : (w : WorkerState) (shards index : ℕ) (request : Request) (answer : Reply) → IsHotStore w.slices request → (t : ℕ) → takes (setting_of w shards) t (hot_txn w request index answer) ≡ false
hot_store_untaken w shards index request answer hot t =
    ap (λ objects. list_any (λ taken. taken == t) (map (λ object. shard_of object shards) objects))
    (none_if (is_some (number_refusal w.opening request)) (filter (λ object. not (is_hot (hot_objects (stocks_of w.slices)) object)) (objects_named request answer)) (none_cold (hot_objects (stocks_of w.slices)) (objects_named request answer) (all_hot w request answer hot)))

-- so it is a commit
pub hot_commits : (initial : List ShardState) (old new : WorkerState) (request : Request) (index : ℕ) → IsIdle old.key → IsHotStore old.slices request → (done : Option Unit) → (IsNone done ↔ (last_number ≤ old.clock)) → is_some done ≡ true
    → IfSome done (λ _. HasStoredSome old new request index) → HasCommittedSome initial old new request index
hot_commits initial old new request index idle hot None none some stored = absurd (false≢true some)
hot_commits initial old new request index idle hot (Some done) none some stored =
    (stored.0, stored_commits initial old new request index idle stored.0 stored.1 (lt_of_not-le (λ full. true≢false (none.1 full))) (hot_store_untaken old (length initial) index request stored.0 hot))
