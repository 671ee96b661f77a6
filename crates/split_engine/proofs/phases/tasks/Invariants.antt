use Rattle.std.proofs.Common.{◌≡◌, ◌++◌, List, length, map, drop}
use Rattle.std.specs.Iterator.Adapters.{zip_first, zip_second, enumerate_source, enumerate_count}
use Rattle.std.specs.{List.{AllByRecursion}, Slice.Iter.{iter_rest}, Vec.Iter.{into_iter_items}}
use Rattle.split_engine.specs.{Serving.{lists}, inner.Assignments.{assignment, assignments, CanDo}}
use Rattle.split_engine.specs.inner.Phases.{HaveServed}
use Rattle.split_engine.proofs.phases.tasks.Given as goal

abbrev pub invariant-loop-worker : goal.invariant-loop-worker
invariant-loop-worker g l =
    let made = l.made.items in let place = length l.yielded in let scripts = lists l.scripts in
    let left = l.worker-iterator in let cursors = into_iter_items (zip_second left) in
    let all = into_iter_items (zip_second l.initial.worker-iterator) in record {
      worker : enumerate_count (zip_first left) ≡ place;
      scripts_left : iter_rest (enumerate_source (zip_first left)) ≡ drop place l.scripts;
      cursors_left : cursors ≡ drop place all;
      same : length all ≡ length l.scripts;
      made_len : length made ≡ place;
      can : AllByRecursion (λ task. CanDo g.A.Application.rules
          (assignment task.phase.table.now task.phase.plan.hot.now task.worker task.script.now task.phase.plan.quota task.start.cursor)
          task.start.journal.items task.start.slices) made;
      tasks : map (λ task. assignment task.phase.table.now task.phase.plan.hot.now task.worker task.script.now task.phase.plan.quota task.start.cursor) made
          ++ assignments l.phase.table.now l.phase.plan.hot.now l.phase.plan.quota place (drop place scripts) cursors
          ≡ assignments l.phase.table.now l.phase.plan.hot.now l.phase.plan.quota 0 scripts l.fn.cursors.items;
      served : (history : List _) → HaveServed g.A.Application.rules (length l.phase.table.now) 0 scripts l.fn.cursors.items history →
          HaveServed g.A.Application.rules (length l.phase.table.now) place (drop place scripts) cursors history;
    }
