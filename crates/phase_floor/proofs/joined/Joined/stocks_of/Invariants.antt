use Rattle.std.{proofs.Common.{◌≡◌, take}, specs.List.{AllByRecursion}}
use Rattle.worker_slices.specs.Slicing.{hot_objects, IsStocked}
use Rattle.closing_laws.specs.Phases.{IsReadFrom}
use Rattle.phase_floor.specs.States.{states_of}
use Rattle.phase_floor.proofs.joined.Joined.stocks_of.Given as goal

abbrev pub invariant-loop-object : goal.invariant-loop-object
invariant-loop-object l = record {
  objects : hot_objects l.stocks.items ≡ take l.object-index l.objects;
  stocked : AllByRecursion IsStocked l.stocks.items;
  read : AllByRecursion (IsReadFrom (states_of l.self)) l.stocks.items;
}
