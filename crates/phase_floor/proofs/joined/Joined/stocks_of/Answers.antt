use Rattle.std.proofs.Common.{ℕ, Option, ◌++◌, ◌∷◌, [], ◌<◌, length, get_or, ap, sym, ◌∙◌, subst, arith}
use Rattle.std.{proofs.lemmas.List.{take_more}, specs.List.{AllByRecursion}}
use Rattle.auction_rows.specs.declared.requests.Object.TheVariants.{Item}
use Rattle.auction_rows.specs.declared.requests.{Facts.Facts, Object.Object}
use Rattle.phase_laws.proofs.OrderLemmas.{all_push}
use Rattle.worker_slices.specs.Slicing.{hot_objects, IsStocked}
use Rattle.closing_laws.specs.Phases.{IsReadFrom}
use Rattle.phase_floor.proofs.{Every.{at_place}, HotItems.{objects_push}}
use Rattle.phase_floor.specs.States.{DoesExist, states_of}
use Rattle.phase_floor.proofs.joined.Joined.stocks_of.Goals as goal

abbrev none : Object
none = Item (record { worker = 0; serial = 0 })

pub loop-object-preserved : goal.loop-object-preserved
loop-object-preserved c =
    let was = c.loop-object.invariant in let p = c.in_ok-push.ensures in let state = c.args.self.now in
    let objects = c.args.objects.now in let i = c.loop-object.object-index in let below : i < length objects = omega arith in
    let before = c.loop-object.stocks.items in let object = get_or objects i none in let pair : Object × Option (Facts × ℕ) = (object, c.stock_of.result) in
    let exists = at_place (DoesExist state.opening (states_of state)) objects c.requires.exist i none below in record {
      objects = ap hot_objects p.items ∙ objects_push before pair ∙ ap (λ done. done ++ object ∷ []) was.objects ∙ sym (take_more objects i none below);
      stocked = subst (AllByRecursion IsStocked) (sym p.items) (all_push IsStocked before pair was.stocked (c.stock_of.ensures.stocked exists));
      read = subst (AllByRecursion (IsReadFrom (states_of state))) (sym p.items) (all_push (IsReadFrom (states_of state)) before pair was.read c.stock_of.ensures.read);
    }
