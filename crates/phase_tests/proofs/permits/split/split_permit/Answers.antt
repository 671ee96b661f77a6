use Rattle.std.proofs.Common.{◌≡◌, ℕ, List, [], ◌∷◌, Option, Some, None, length, refl, sym, ap, ◌∙◌, arith}
use Rattle.std.{proofs.lemmas.Result.{IfOk-at_ok}, specs.List.{IsDistinct}}
use Rattle.auction_rows.specs.Footprint.{is_hot}
use Rattle.auction_rows.specs.declared.requests.Object.TheVariants.{Item, User}
use Rattle.auction_rows.specs.declared.requests.{Facts.Facts, ItemId.ItemId, Object.Object}
use Rattle.worker_slices.proofs.Places.{stocks_of_rows}
use Rattle.worker_slices.specs.Slicing.{hot_objects, slices_of, stocks_of}
use Rattle.phase_floor.proofs.{BeginLemmas.{room_for_all}, HotItems.{objects_of_slices}}
use Rattle.phase_tests.proofs.permits.HotLemmas.{only_item}
use Rattle.phase_tests.proofs.permits.split.split_permit.Goals as goal
use Rattle.worker_journals.specs.Journals.{JournalView}

pub new-requires-clause-distinct : goal.new-requires-clause-distinct
unfolding IsDistinct
new-requires-clause-distinct g c = ((refl, tt), (tt, tt))

pub new-requires-2 : goal.new-requires-2
new-requires-2 g c =
    let journal = IfOk-at_ok _ c.expect-journal.ensures c.with_room.ensures in
    let empty = IfOk-at_ok _ c.expect-stash.ensures c.with_room-2.ensures.empty in
    let room = IfOk-at_ok _ c.expect-stash.ensures c.with_room-2.ensures.room in
    let slices = IfOk-at_ok _ c.expect-slices.ensures c.new.ensures in
    let first : ItemId = record { worker = 0; serial = 0 } in
    let hot : List (Object × Option (Facts × ℕ)) = (Item first, Some (c.vases.result, 1)) ∷ (User 3, None) ∷ [] in
    record {
      key = c.requires.unused;
      worker = ap (λ (j : JournalView). j.worker) journal ∙ sym c.requires.worker;
      empty = ap (λ (j : JournalView). j.entries) journal;
      identities = slices ∙ ap (λ stocks. slices_of stocks []) (sym (ap stocks_of slices ∙ stocks_of_rows hot []));
      room = omega (arith, ap length empty, ap (λ (j : JournalView). j.room) journal);
      stash_room = room_for_all _ _ _ (omega (arith, room));
      limit = omega (arith, ap length empty);
      counted = record { items = omega arith; bids = omega arith; comments = omega arith; buys = omega arith };
      stored = λ item is own.
          let of_first : item.serial ≡ 0 = only_item first item (ap (λ objects. is_hot objects (Item item)) (sym (ap hot_objects slices ∙ objects_of_slices hot [])) ∙ is) in
          omega (arith, of_first);
    }
