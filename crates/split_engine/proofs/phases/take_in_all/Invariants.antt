use Rattle.std.proofs.Common.{◌≡◌, ◌++◌, ◌≤◌, List, length, IfOk}
use Rattle.std.specs.{List.{AllByRecursion, AllZip}, Vec.Iter.{into_iter_items}}
use Rattle.split_engine.specs.inner.Assignments.{Assignment, HasDone, HasClosed}
use Rattle.split_engine.proofs.phases.take_in_all.Given as goal

abbrev pub invariant-loop-answer : goal.invariant-loop-answer
invariant-loop-answer g l = let s = g.A.Application in record {
  closed : (given : List (Assignment g.row.A-Record.Denot g.row.A-Request.Denot)) → AllByRecursion (λ a. a.cursor.next ≤ length a.script) given → AllByRecursion (λ a. a.table ≡ l.fn.so_far.table.items) given →
      AllZip (λ a answer. IfOk answer (λ own. HasDone s.rules s.is_small a own.cursor own.journal.items own.slices)) given l.fn.answers.items →
      (before : List (Assignment g.row.A-Record.Denot g.row.A-Request.Denot)) × (left : List (Assignment g.row.A-Record.Denot g.row.A-Request.Denot))
      × (before ++ left ≡ given)
      × AllZip (λ a answer. IfOk answer (λ own. HasDone s.rules s.is_small a own.cursor own.journal.items own.slices)) left (into_iter_items l.answer-iterator)
      × HasClosed s.rules s.is_small s.fits before l.fn.so_far.table.items l.fn.so_far.history l.state.so_far.table.items l.state.so_far.history l.state.cursors.items;
}
