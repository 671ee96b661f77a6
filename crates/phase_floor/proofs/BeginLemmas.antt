-- What a phase begins with.
use Rattle.std.proofs.Common.{◌≡◌, ◌+◌, ◌<◌, ◌≤◌, ℕ, suc, Bool, true, false, IsTrue, Option, List, [], ◌∷◌, map, length, get_or, drop, refl, sym, ap, ◌∙◌, subst, arith}
use Rattle.std.{proofs.lemmas.{Bool.{false≢true}, List.{get_or-map}}, specs.Global.{Vec}}
use Rattle.auction_rows.specs.{Footprint.{is_hot}, declared.requests.Object.TheVariants.{Item}}
use Rattle.auction_rows.specs.declared.{values.Opening.Opening, requests.Facts.Facts, requests.Object.Object}
use Rattle.shard_boxes.proofs.Each.{at_head}
use Rattle.shard_boxes.specs.Keys.{KeyState, SeatState, no_key, IsNewKey, AreNewKeys}
use Rattle.shard_boxes.specs.{States.{ShardState}, declared.limits.TheConstants.{MOST_COMMITS}}
use Rattle.worker_slices.{proofs.Places.{stocks_of_rows}, specs.Slicing.{slices_of}}
use Rattle.worker_slices.specs.{Stashes.{StashState}, declared.counters.Counters.{Counters}}
use Rattle.worker_slices.specs.declared.slices.Hot.{Hot}
use Rattle.phase_transactions.specs.Workers.{CanStart, HasStashRoom, WorkerState, new_worker}
use Rattle.phase_permits.specs.Kinds.{IsEmptyIf}
use Rattle.closing_laws.specs.Standing.{counters_at}
use Rattle.phase_floor.proofs.HotItems.{objects_of_slices, hot_is_stored}
use Rattle.phase_floor.proofs.StoredItems.{stored_before}
use Rattle.phase_floor.specs.Begins.{IsTooLong, asked_in_all, empty_stash, HasRefusedJoined, HasRefusedSplit}
use Rattle.phase_floor.specs.Floors.{FloorState, IsOpen, IsNewPermit, no_stash, stash_at}
use Rattle.phase_floor.specs.States.{JoinedState, DoAllExist, states_of}
use Rattle.phase_floor.specs.declared.floor.BeginFault.TheVariants.{UnknownHot, TooLong, Memory}
use Rattle.phase_floor.specs.{declared.start.Kit.{Kit}, inner.Kits.{IsKit, AreKits, HaveStashRoom}}

-- what is made of the next key, kit and stash is begun
pub begun_next : (floor : FloorState) (workers w : ℕ) (quotas : List ℕ) (keys keys_left : List KeyState) (kits kits_left : List Kit) (stashes stashes_left : List StashState)
    → AreNewKeys floor.boxes workers keys → AreKits floor.phase floor.stocks stashes quotas workers kits → w < workers
    → (key : KeyState) (kit : Kit) (stash : StashState) → key ∷ keys_left ≡ drop w keys → kit ∷ kits_left ≡ drop w kits → stash ∷ stashes_left ≡ drop w stashes
    → (counters_at floor.counters w).commits + length (stash_at stashes w).requests + get_or quotas w 0 ≤ floor.limit
    → (opening : Opening) (counters : Counters) → opening ≡ floor.opening → counters ≡ counters_at floor.counters w
    → IsNewPermit floor w (get_or quotas w 0) (stash_at stashes w) (new_worker key opening counters kit.journal stash kit.slices (get_or quotas w 0) 0)
begun_next floor workers w quotas keys keys_left kits kits_left stashes stashes_left new made below key kit stash next_key next_kit next_stash fits opening counters openings counts =
    let quota = get_or quotas w 0 in
    let kit_is = subst (IsKit floor.phase floor.stocks w (length (stash_at stashes w).requests + quota)) (at_head kits w kit kits_left kit next_kit) (made w kit below) in
    let stash_is = sym (at_head stashes w stash stashes_left no_stash next_stash) in record {
      new = λ i. new_worker key (openings i) (counts i) (kit_is.journal i) (stash_is i) (kit_is.slices i) quota 0;
      key = subst (IsNewKey floor.boxes w) (at_head keys w key keys_left no_key next_key) (new.1 w below);
      fits = fits;
    }

-- the causes for which a phase does not begin are told apart
unknown_not_long : ¬ (UnknownHot ≡ TooLong)
unknown_not_long same = absurd cc

long_not_unknown : ¬ (TooLong ≡ UnknownHot)
long_not_unknown same = absurd cc

memory_not_unknown : ¬ (Memory ≡ UnknownHot)
memory_not_unknown same = absurd cc

memory_not_long : ¬ (Memory ≡ TooLong)
memory_not_long same = absurd cc

-- a joined phase that does not begin, by its fault
module _ (old : JoinedState) (held : Vec StashState) (given : List ℕ) (back : JoinedState) (kept : Vec StashState) (state_is : back ≡ old) (stashes_are : kept ≡ held) where
  pub joined_too_long : IsTooLong old.limit old.counters held.items given → HasRefusedJoined old held given back kept TooLong
  joined_too_long long = record { state = state_is; stashes = stashes_are; too_long = ((λ same. long), λ yes. refl); known = long_not_unknown }

  pub joined_memory : ¬ IsTooLong old.limit old.counters held.items given → HasRefusedJoined old held given back kept Memory
  joined_memory short = record {
    state = state_is;
    stashes = stashes_are;
    too_long = ((λ same. absurd (memory_not_long same)), λ long. absurd (short long));
    known = memory_not_unknown;
  }

-- a split phase that does not begin, by its fault
module _ (old : JoinedState) (given : List ℕ) (objects : List Object) (back : JoinedState) (state_is : back ≡ old) where
  pub split_unknown : ¬ DoAllExist old.opening (states_of old) objects → HasRefusedSplit old given objects back UnknownHot
  split_unknown none = record {
    state = state_is;
    unknown = ((λ same. none), λ no. refl);
    too_long = ((λ same. absurd (unknown_not_long same)), λ both. absurd (none both.0));
  }

  pub split_too_long : DoAllExist old.opening (states_of old) objects → IsTooLong old.limit old.counters [] given → HasRefusedSplit old given objects back TooLong
  split_too_long exist long = record {
    state = state_is;
    unknown = ((λ same. absurd (long_not_unknown same)), λ none. absurd (none exist));
    too_long = ((λ same. (exist, long)), λ both. refl);
  }

  pub split_memory : DoAllExist old.opening (states_of old) objects → ¬ IsTooLong old.limit old.counters [] given → HasRefusedSplit old given objects back Memory
  split_memory exist short = record {
    state = state_is;
    unknown = ((λ same. absurd (memory_not_unknown same)), λ none. absurd (none exist));
    too_long = ((λ same. absurd (memory_not_long same)), λ both. absurd (short both.1));
  }

-- what the test says of these, of the same as it was given
module _ (test : Bool) (limit given_limit : ℕ) (counters given_counters : List Counters) (stashes given_stashes : List StashState) (quotas : List ℕ) (same_limit : given_limit ≡ limit)
    (same_counters : given_counters ≡ counters) (same_stashes : given_stashes ≡ stashes) where
  pub too_long : (IsTrue test → IsTooLong given_limit given_counters given_stashes quotas) → test ≡ true → IsTooLong limit counters stashes quotas
  too_long tested passes =
      subst (λ n. IsTooLong n counters stashes quotas) same_limit
      (subst (λ (cs : List Counters). IsTooLong given_limit cs stashes quotas) same_counters
      (subst (λ (ss : List StashState). IsTooLong given_limit given_counters ss quotas) same_stashes (tested passes)))

  pub fits : (IsTooLong given_limit given_counters given_stashes quotas → IsTrue test) → test ≡ false → ¬ IsTooLong limit counters stashes quotas
  fits tested fails long =
      false≢true (sym fails ∙ tested (subst (λ n. IsTooLong n given_counters given_stashes quotas) (sym same_limit)
      (subst (λ (cs : List Counters). IsTooLong limit cs given_stashes quotas) (sym same_counters)
      (subst (λ (ss : List StashState). IsTooLong limit counters ss quotas) (sym same_stashes) long))))

-- what each worker is asked for, where it is not too much
pub within : (limit : ℕ) (counters : List Counters) (stashes : List StashState) (quotas : List ℕ) → ¬ IsTooLong limit counters stashes quotas → (w : ℕ) → w < length counters
    → asked_in_all counters stashes quotas w ≤ limit
within limit counters stashes quotas short w low =
    let not_over : ¬ (limit < asked_in_all counters stashes quotas w) = λ more. short (w, low, more) in omega (arith, not_over)

-- what waits for a worker and its quota, too
pub waiting_within : (limit : ℕ) (counters : List Counters) (stashes : List StashState) (quotas : List ℕ) → limit ≤ MOST_COMMITS → ¬ IsTooLong limit counters stashes quotas
    → (w : ℕ) → w < length counters → length (stash_at stashes w).requests + get_or quotas w 0 ≤ MOST_COMMITS
waiting_within limit counters stashes quotas last short w low = let all = within limit counters stashes quotas short w low in omega (arith, all, last)

-- a worker can start with what is begun
pub can_start : (initial : List ShardState) (workers : ℕ) (floor : FloorState) → IsOpen initial workers floor → (w quota : ℕ) (stash : StashState) (start : WorkerState) → w < workers
    → HasStashRoom (slices_of floor.stocks []) quota stash.room → IsNewPermit floor w quota stash start → CanStart start
can_start initial workers floor is_open w quota stash start below room begun =
    let low : w < length floor.counters = omega (arith, below, is_open.workers_are) in
    let most = is_open.kept.most w low in
    subst CanStart (sym begun.new) (record {
      key = λ s. (ap (λ (seat : SeatState). seat.holds) (begun.key.unused s), ap (λ (seat : SeatState). seat.lines) (begun.key.unused s));
      worker = sym begun.key.worker_is;
      empty = refl;
      identities = sym (ap (λ s. slices_of s []) (stocks_of_rows floor.stocks []));
      room = omega arith;
      stash_room = room;
      limit = omega (arith, begun.fits, is_open.kept.last);
      counted = record { items = omega (arith, most.stored); bids = omega (arith, most.stored); comments = omega (arith, most.stored); buys = omega (arith, most.stored) };
      stored = λ item hot own.
          let some = hot_is_stored initial floor.stocks is_open.stocks_are.stocked is_open.stocks_are.read item
          (sym (ap (λ os. is_hot os (Item item)) (objects_of_slices floor.stocks [])) ∙ hot) in
          let before = stored_before floor.opening floor.limit initial floor.counters is_open.kept item some (omega (arith, own, low)) in
          omega (arith, before, ap (λ v. (counters_at floor.counters v).items) own);
    })

-- where nothing is hot no worker has slices
none_sliced : (joined : Bool) (stocks : List (Object × Option (Facts × ℕ))) → IsEmptyIf joined stocks → IsEmptyIf joined (slices_of stocks [])
none_sliced true stocks cold = ap (λ s. slices_of s []) cold
none_sliced false stocks cold = tt

pub kit_cold : (joined : Bool) (floor : FloorState) (w room : ℕ) (given kit : Kit) → given ≡ kit → IsKit floor.phase floor.stocks w room given → IsEmptyIf joined floor.stocks → IsEmptyIf joined kit.slices
kit_cold joined floor w room given kit same is cold = subst (λ (k : Kit). IsEmptyIf joined k.slices) same (subst (IsEmptyIf joined) (sym is.slices) (none_sliced joined floor.stocks cold))

-- in empty stashes nothing waits
nothing_waits : (quotas : List ℕ) (w : ℕ) → length (stash_at (map empty_stash quotas) w).requests ≡ 0
nothing_waits (quota ∷ quotas) (suc w) = nothing_waits quotas w
nothing_waits quotas w = refl

pub not_too_long : (limit : ℕ) (counters : List Counters) (quotas : List ℕ) → ¬ IsTooLong limit counters [] quotas → ¬ IsTooLong limit counters (map empty_stash quotas) quotas
not_too_long limit counters quotas short (w, low, more) =
    let none : length (stash_at [] w).requests ≡ 0 = refl in
    short (w, low, omega (arith, more, nothing_waits quotas w, none))

-- an empty stash for each quota has room for it, whatever is hot
pub room_for_all : (hots : List (Object × Hot)) (left room : ℕ) → left ≤ room → HasStashRoom hots left room
room_for_all [] left room is = tt
room_for_all (hot ∷ hots) left room is = is

pub own_stashes : (stocks : List (Object × Option (Facts × ℕ))) (quotas : List ℕ) → HaveStashRoom stocks (map empty_stash quotas) quotas
own_stashes stocks quotas w low =
    room_for_all (slices_of stocks []) (get_or quotas w 0) (stash_at (map empty_stash quotas) w).room
    (omega (arith, ap (λ (s : StashState). s.room) (get_or-map empty_stash quotas w 0 no_stash low)))

-- and where nothing is hot none is needed
pub no_stashes : (stocks : List (Object × Option (Facts × ℕ))) (stashes : List StashState) (quotas : List ℕ) → stocks ≡ [] → HaveStashRoom stocks stashes quotas
no_stashes stocks stashes quotas cold = subst (λ (s : List (Object × Option (Facts × ℕ))). HaveStashRoom s stashes quotas) (sym cold) (λ w low. tt)
