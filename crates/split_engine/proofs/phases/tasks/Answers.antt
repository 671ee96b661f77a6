use Rattle.std.proofs.Common.{◌≡◌, ◌+◌, [], ◌∷◌, drop, length, length-append, refl, ap, sym, ◌∙◌, subst, arith}
use Rattle.std.proofs.lemmas.List.{length-map, drop_all}
use Rattle.std.specs.Iterator.Adapters.{zip_first, zip_second, enumerate_source, enumerate_count}
use Rattle.std.specs.{List.{AllByRecursion}, Slice.Iter.{iter_rest}, Vec.Iter.{into_iter_items}}
use Rattle.split_engine.proofs.{Counts.{length_more}, States.{listed, have_length, tasks_none, tasks_all, assigned_next, served_next}}
use Rattle.split_engine.proofs.{Works.{all_more, all_at}, Zips.{next_at, all_done}}
use Rattle.split_engine.specs.{Serving.{lists, IsScript}, inner.Assignments.{assignment, assignments, CanDo}}
use Rattle.split_engine.specs.inner.Phases.{HaveServed}
use Rattle.split_engine.proofs.phases.tasks.Goals as goal
use Rattle.job_threads.proofs.ThreadLemmas.{started_more}

pub loop-worker-init : goal.loop-worker-init
loop-worker-init g c =
    let s = g.A.Application in let given = c.requires.served in let size = length c.args.phase.table.now in let scripts = lists c.args.scripts.now in
    let it = c.into_iter-worker-iterator.result in let same = c.into_iter-worker-iterator.ensures.into_iter_gives in
    let first = ap (λ z. zip_first z) same ∙ c.zip-worker-items.ensures.first in
    let all : into_iter_items (zip_second it) ≡ c.args.cursors.items = ap (λ z. into_iter_items (zip_second z)) same ∙ c.zip-worker-items.ensures.second.0 in record {
      worker = ap enumerate_count first ∙ c.enumerate.ensures.count;
      scripts_left = ap (λ e. iter_rest (enumerate_source e)) first ∙ ap iter_rest c.enumerate.ensures.source ∙ c.iter.ensures.rest;
      cursors_left = refl;
      same = ap length all ∙ have_length s.rules size 0 scripts c.args.cursors.items given.0 given.1 ∙ length-map c.args.scripts.now (λ v. v.items);
      made_len = ap length c.in_ok-made.ensures.items;
      can = subst (AllByRecursion _) (sym c.in_ok-made.ensures.items) tt;
      tasks = tasks_none _ c.in_ok-made.made.items _ _ c.in_ok-made.ensures.items (ap (assignments c.args.phase.table.now c.args.phase.plan.hot.now c.args.phase.plan.quota 0 scripts) all);
      served = λ history h. subst (λ ds. HaveServed s.rules size 0 scripts ds history) (sym all) h;
    }

pub loop-worker-preserved : goal.loop-worker-preserved
loop-worker-preserved g c =
    let s = g.A.Application in let was = c.loop-worker.invariant in let k = length c.loop-worker.yielded in
    let table = c.args.phase.table.now in let hot = c.args.phase.plan.hot.now in let quota = c.args.phase.plan.quota in
    let size = length table in let scripts = lists c.args.scripts.now in
    let cursors = into_iter_items (zip_second c.loop-worker.worker-iterator) in let rest = into_iter_items (zip_second c.next.new.self) in
    let script = c.in-Some.script.now.items in
    let first = next_at _ _ k c.in-Some.script.now c.in-Some.script.now (sym was.scripts_left ∙ c.in-Some.ensures.steps.0.0) in
    let next = c.in-Some.ensures.steps.1.0 in
    let cursor = next_at _ _ k c.in-Some.cursor c.in-Some.cursor (sym was.cursors_left ∙ next) in
    let at = listed c.args.scripts.now k c.in-Some.script.now first.0 (sym first.1) in
    let worker : c.in-Some.worker ≡ k = c.in-Some.ensures.steps.0.1 ∙ was.worker in
    let given = c.requires.served in
    let own = served_next s.rules size k scripts cursors script c.in-Some.cursor rest given.0 at.0 at.1 next (was.served given.0 given.1) in
    let is_script = all_at (IsScript s.rules size) scripts k script at.0 c.requires.scripts in
    let here : IsScript s.rules size c.deref.result.now = subst (IsScript s.rules size) (sym at.1 ∙ sym c.deref.ensures.value) is_script in
    let can : CanDo s.rules (assignment table hot c.in-Some.worker c.deref.result.now quota c.in_ok-begin.field-0.cursor) c.in_ok-begin.field-0.journal.items c.in_ok-begin.field-0.slices = record {
      within = here.0;
      hot_len = c.requires.hot;
      short = here.1;
      few = c.requires.quota;
      next_in = omega (arith, own.0.next_in, ap length c.deref.ensures.value, ap (λ d. d.next) c.in_ok-begin.ensures.cursor);
      start = c.in_ok-begin.ensures.unused;
    } in
    let more : k + 1 ≡ length _ = sym (length-append c.loop-worker.yielded (((c.in-Some.worker, c.in-Some.script), c.in-Some.cursor) ∷ [])) in
    let one = assignment table hot k script quota c.in-Some.cursor in
    let all = into_iter_items (zip_second c.into_iter-worker-iterator.result) in record {
      worker = c.in-Some.ensures.steps.0.2 ∙ ap (λ n. n + 1) was.worker ∙ more;
      scripts_left = first.2 ∙ ap (λ n. drop n c.args.scripts.now) more;
      cursors_left = cursor.2 ∙ ap (λ n. drop n all) more;
      same = was.same;
      made_len = length_more _ _ _ c.in_ok-push.ensures.items ∙ ap (λ n. n + 1) was.made_len ∙ more;
      can = subst (AllByRecursion _) (sym c.in_ok-push.ensures.items) (all_more _ c.loop-worker.made.items _ was.can can);
      tasks = started_more _ c.loop-worker.made.items c.push.new.self.items _ _ _ _ one
          (assigned_next table hot quota k scripts cursors script c.in-Some.cursor rest at.0 at.1 next ∙ ap (λ n. one ∷ assignments table hot quota n (drop n scripts) rest) more)
          c.in_ok-push.ensures.items
          (λ i. assignment table hot (worker i) (c.deref.ensures.value i) quota (c.in_ok-begin.ensures.cursor i)) was.tasks;
      served = λ history h. subst (λ n. HaveServed s.rules size n (drop n scripts) rest history) more
          (served_next s.rules size k scripts cursors script c.in-Some.cursor rest history at.0 at.1 next (was.served history h)).1;
    }

-- the scripts are at their end, since there is a cursor of each
pub returns-clause-tasks : goal.returns-clause-tasks
returns-clause-tasks g c =
    let was = c.loop-worker.invariant in let k = length c.loop-worker.yielded in let scripts = lists c.args.scripts.now in
    let it = c.loop-worker.worker-iterator in let all = into_iter_items (zip_second c.into_iter-worker-iterator.result) in
    let end = all_done c.args.scripts.now all k was.same
    (λ x none. sym (ap length was.scripts_left) ∙ none.0.0) (λ x none. sym (it.b.rest.ok.0 ∙ ap length was.cursors_left) ∙ none.0) c.in-None.ensures.steps in
    let none : drop k scripts ≡ [] = drop_all k scripts (omega (arith, end, length-map c.args.scripts.now (λ v. v.items))) in
    tasks_all _ c.loop-worker.made.items _ _
    (ap (λ ss. assignments c.args.phase.table.now c.args.phase.plan.hot.now c.args.phase.plan.quota k ss (into_iter_items (zip_second it))) none) was.tasks
