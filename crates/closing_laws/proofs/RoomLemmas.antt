-- The shards that the boxes gave back leave room for the slices of 16 workers.
use Rattle.std.proofs.Common.{◌≡◌, ℕ, ◌<◌, ◌≤◌, true, List, length, Option, Some, None, IsSome, option_map, refl, sym, subst, arith}
use Rattle.std.specs.{List.{Sorted.{IsPermutation}, AllByRecursion}, Prelude.{◌-◌}}
use Rattle.phase_laws.specs.Replay.{SawInTurn}
use Rattle.auction_rows.specs.{Footprint.{is_hot}, Requests.{shard_of}}
use Rattle.auction_rows.specs.declared.requests.Object.TheVariants.{Item, User, Category}
use Rattle.auction_rows.specs.declared.requests.{ItemId.ItemId, Facts.Facts, Object.Object}
use Rattle.item_shards.specs.{Values.{Value, stock}, declared.shard.slices.Slice.{Slice}}
use Rattle.shard_boxes.specs.States.{state_at, IsInitial, AreInitial}
use Rattle.shard_boxes.specs.declared.limits.TheConstants.{MOST_COMMITS}
use Rattle.phase_transactions.specs.Txns.{hot_of}
use Rattle.worker_slices.specs.Slicing.{HaveAtMost}
use Rattle.closing_laws.proofs.FitLemmas.{HasRoomFor, how_many, all_once, all_good, all_in_turn}
use Rattle.closing_laws.proofs.GivenLemmas.{is_known, given_alone}
use Rattle.closing_laws.proofs.HotLemmas.{stocked_of, read_of}
use Rattle.closing_laws.proofs.ReconcileLemmas.{rows_by, all_sliced}
use Rattle.closing_laws.specs.Merging.{after_merge, slices_left, CanMerge}
use Rattle.closing_laws.specs.Phases.{Phase, HasClosed, value_on}

stored_by : (v : Value) → IsSome (stock v) → IsSome v.facts
stored_by v some = at v.facts some where
  at : (facts : Option Facts) → IsSome (option_map {U = Facts × ℕ} (λ f. (f, f.quantity - v.bought)) facts) → IsSome facts
  at None some = some
  at (Some facts) some = refl

module _ (p : Phase) (closed : HasClosed p) (opened : AreInitial p.initial) where
  home_opened : (object : Object) → IsInitial (length p.initial) (shard_of object (length p.initial)) (state_at p.initial (shard_of object (length p.initial)))
  home_opened object = opened (shard_of object (length p.initial)) (is_known p closed object)

  item_stored : (item : ItemId) → is_hot (hot_of p.setting) (Item item) ≡ true → IsSome (value_on p.initial (Item item)).facts
  item_stored item hot =
      stored_by (value_on p.initial (Item item))
      (subst (λ (o : Option (Facts × ℕ)). IsSome o) (read_of p.initial p.setting.stocks closed.begun.read item hot) (stocked_of p.setting.stocks closed.begun.stocked item hot))

  room_opened : (object : Object) (n : ℕ) → n ≤ 16 → is_hot (hot_of p.setting) object ≡ true → HasRoomFor object (value_on p.initial object) n
  room_opened (Item item) n few hot = (item_stored item hot, omega (arith, few, (home_opened (Item item)).within.bids item, (home_opened (Item item)).clock_is))
  room_opened (User user) n few hot = (
    omega (arith, few, (home_opened (User user)).within.comments user, (home_opened (User user)).clock_is),
    omega (arith, few, (home_opened (User user)).within.ratings user, (home_opened (User user)).clock_is),
  )
  room_opened (Category category) n few hot = tt

  pub merges_can_be_done : length p.receipts ≤ 16 → AllByRecursion (λ receipt. HaveAtMost MOST_COMMITS receipt.slices) p.receipts
      → (order : List (Object × Slice)) → IsPermutation (slices_left p.receipts) order → SawInTurn CanMerge after_merge p.given order
  merges_can_be_done workers few order moved =
      all_in_turn (hot_of p.setting) (slices_left p.receipts) order p.given (subst (λ n. 0 < n) (sym closed.boxes.0) closed.begun.some) moved
      (all_good p.setting.stocks rows_by p.receipts (all_sliced p closed) few)
      (λ object hot. subst (λ (v : Value). HasRoomFor object v (how_many object (slices_left p.receipts))) (sym (given_alone p closed object hot))
      (room_opened object (how_many object (slices_left p.receipts))
      (omega (arith, workers, all_once p.setting.stocks rows_by p.receipts (all_sliced p closed) closed.begun.distinct object)) hot))
