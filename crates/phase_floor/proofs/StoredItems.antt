-- The items that are stored, between two phases.
use Rattle.std.proofs.Common.{◌≡◌, ℕ, ◌-◌, ◌<◌, ◌≤◌, List, [], Option, None, length, refl, sym, ap, ◌∙◌, subst, arith}
use Rattle.std.proofs.{Math.Nat.{lt_of_not-le}, lemmas.{Bool.{false≢true}, Nat.{mod_below}}}
use Rattle.std.specs.Prelude.{IsSome, is_some, option_map}
use Rattle.auction_rows.{proofs.FreshIdLemmas.{ids_of_book}, specs.Book.{Book, facts_of, bought}}
use Rattle.auction_rows.specs.{History.{IsBook}, Requests.{number_of, shard_of}}
use Rattle.auction_rows.specs.declared.requests.Object.TheVariants.{Item}
use Rattle.auction_rows.specs.declared.{values.Opening.Opening, requests.ItemId.ItemId, requests.Facts.Facts}
use Rattle.item_shards.specs.Values.{value, stock}
use Rattle.shard_boxes.specs.States.{ShardState}
use Rattle.worker_slices.specs.declared.counters.Counters.{Counters}
use Rattle.closing_laws.specs.{Phases.{value_on}, Standing.{StandFor, counters_at}}
use Rattle.phase_floor.specs.States.{IsKept}

-- what is not stored has no stock
nothing_left : (book : Book) (id : ItemId) → facts_of book id ≡ None → IsSome (stock (value book (Item id))) → ⊥
nothing_left book id none some =
    false≢true (sym (ap (λ (o : Option Facts). is_some {T = Facts × ℕ} (option_map (λ (facts : Facts). (facts, facts.quantity - bought book id)) o)) none) ∙ some)

module _ (opening : Opening) (limit : ℕ) (states : List ShardState) (counters : List Counters) (kept : IsKept opening limit states counters) where
  -- of a book that is held, a stored item's serial is below its worker's count
  no_later : (id : ItemId) → IsSome (stock (value_on states (Item id))) → id.worker < length counters → (counters_at counters id.worker).items ≤ id.serial
      → (book : Book) → IsBook opening book → StandFor states counters book [] → ⊥
  no_later id some below from book is holds =
      let place = shard_of (Item id) (length states) in
      let seen : value_on states (Item id) ≡ value book (Item id) = holds.shards place (mod_below (number_of (Item id)) (length states) kept.some_shards) (Item id) refl refl in
      let fresh = (ids_of_book opening book is).0.items id.worker id.serial (omega (arith, from, (holds.counts id.worker below).items)) in
      nothing_left book id (ap (option_map (λ row. row.facts)) fresh) (subst (λ v. IsSome (stock v)) seen some)

  -- a stored item's serial is below its worker's count
  pub stored_before : (id : ItemId) → IsSome (stock (value_on states (Item id))) → id.worker < length counters → id.serial < (counters_at counters id.worker).items
  stored_before id some below = lt_of_not-le (λ from. kept.of_a_book (λ book is own holds. no_later id some below from book is holds))
