use Rattle.std.proofs.Common.{◌≡◌, ℕ, suc, ◌+◌, ◌<◌, ◌≤◌, ◌++◌, map, length, drop, get_or, add-one, zero-add, lt_of_lt_of_le, sym, ap, subst, ◌∙◌, arith, vec_len}
use Rattle.std.specs.{List.{AllByRecursion}, Vec.Iter.{into_iter_items, into_iter_len}}
use Rattle.phase_workers.proofs.TaskLemmas.{next_script, next_task, next_within, one_made, own_more}
use Rattle.phase_workers.specs.Tasks.{Task, task, tasks, CanBeDone}
use Rattle.phase_workers.specs.Working.{IsPermitOf, ArePermitsOf}
use Rattle.phase_workers.proofs.round.own_tasks.Goals as goal
use Rattle.job_threads.proofs.ThreadLemmas.{none_left, all_done}

pub overflow_cast-worker : goal.overflow_cast-worker
overflow_cast-worker g c =
    let was = c.loop-permit.invariant in
    omega (arith, was.0, c.requires.few, c.len-worker.ensures, c.in-Some.ensures.cases)

pub loop-permit-preserved : goal.loop-permit-preserved
loop-permit-preserved g c =
    let was = c.loop-permit.invariant in let step = c.in-Some.ensures.cases in
    let push = c.push_reserved.ensures in let n : ℕ = vec_len c.loop-permit.made in
    let script = c.index-round-worker.result in
    let same : c.len-worker.result ≡ n = c.len-worker.ensures in
    let within : n < length c.args.round.scripts.now = next_within _ _ _ _ step.1 was.0 in
    let here : script ≡ get_or c.args.round.scripts.now n script = c.index-round-worker.is ∙ ap (λ m. get_or c.args.round.scripts.now m script) same in
    let of_left : ArePermitsOf c.args.round.phase n (into_iter_items c.loop-permit.permits) = was.5 in
    let of_all = subst (λ ps. ArePermitsOf c.args.round.phase n ps) step.0 of_left in
    let own_post = subst (λ m. IsPermitOf c.args.round.phase m c.in-Some.permit) (sym same) of_all.0 in
    let t : Task = task c.in-Some.permit script c.args.round.first in
    let made = ap (λ s. task c.in-Some.permit s c.args.round.first) (sym c.index-round-worker.is) in
    let more = own_more (CanBeDone g.N.PhaseName.initial c.args.boxes.now)
    (λ own. CanBeDone g.N.PhaseName.initial own.post.boxes.now (task own.permit own.script.now own.first)
    × IsPermitOf own.post.phase own.post.worker own.permit)
    (λ own. task own.permit own.script.now own.first)
    c.loop-permit.made.items c.push_reserved.new.self.items
    _
    (tasks (into_iter_items c.loop-permit.permits) (drop n c.args.round.scripts.now) c.args.round.first)
    (tasks (into_iter_items c.next.new.self) (drop (vec_len c.push_reserved.new.self) c.args.round.scripts.now) c.args.round.first)
    (tasks c.args.permits.items c.args.round.scripts.now c.args.round.first) t push.items
    made
    (next_task c.args.round.first (into_iter_items c.loop-permit.permits) (into_iter_items c.next.new.self) c.in-Some.permit (drop n c.args.round.scripts.now)
    (drop (vec_len c.push_reserved.new.self) c.args.round.scripts.now) script step.0
    (next_script c.args.round.scripts.now n (vec_len c.push_reserved.new.self) script within here push.len))
    (λ can. (subst (CanBeDone g.N.PhaseName.initial c.args.boxes.now) (sym made) can, own_post)) was.2 was.3 was.4 in (
      one_made _ _ _ _ _ push.len step.1 was.0,
      subst (λ n. length c.args.round.scripts.now ≤ n) (sym push.capacity) was.1,
      more.0,
      more.1,
      more.2,
      (let next : suc n ≡ vec_len c.push_reserved.new.self = sym (push.len ∙ add-one n) in
          subst (λ m. ArePermitsOf c.args.round.phase m (into_iter_items c.next.new.self)) next of_all.1),
    )

pub push_reserved-requires : goal.push_reserved-requires
push_reserved-requires g c =
    let was = c.loop-permit.invariant in
    lt_of_lt_of_le (next_within _ _ _ _ c.in-Some.ensures.cases.1 was.0) was.1

pub bounds-round-worker : goal.bounds-round-worker
bounds-round-worker g c =
    subst (λ n. n < length c.args.round.scripts.now) (sym c.len-worker.ensures) (next_within _ _ _ _ c.in-Some.ensures.cases.1 c.loop-permit.invariant.0)

pub loop-permit-init : goal.loop-permit-init
loop-permit-init g c =
    let permits = c.into_iter-permits in let given = permits.ensures.rest in
    let made = c.in-Ok.ensures in let scripts = c.args.round.scripts.now in
    let first : ℕ = c.args.round.first in
    let same : tasks c.args.permits.items scripts first ≡ tasks (into_iter_items permits.result) (drop (vec_len c.in-Ok.made) scripts) first =
    λ i. tasks (sym given i) (drop (sym made.len i) scripts) first in (
      ap (λ n. n + into_iter_len permits.result) made.len ∙ zero-add _ ∙ permits.ensures.len ∙ c.requires.workers,
      made.capacity,
      subst (AllByRecursion (CanBeDone g.N.PhaseName.initial c.args.boxes.now)) same c.requires.can,
      subst (AllByRecursion (λ own. CanBeDone g.N.PhaseName.initial own.post.boxes.now (task own.permit own.script.now own.first)
          × IsPermitOf own.post.phase own.post.worker own.permit)) (sym made.items) tt,
      (λ i. map (λ own. task own.permit own.script.now own.first) (made.items i) ++ tasks (into_iter_items permits.result) (drop (vec_len c.in-Ok.made) scripts) first) ∙ sym same,
      subst (λ n. ArePermitsOf c.args.round.phase n (into_iter_items permits.result)) (sym made.len)
          (subst (λ ps. ArePermitsOf c.args.round.phase 0 ps) (sym given) c.requires.of),
    )

pub returns : goal.returns
returns g c =
    let was = c.loop-permit.invariant in let made = c.loop-permit.made in
    let left = c.loop-permit.permits.rest in let scripts = c.args.round.scripts.now in
    let first : ℕ = c.args.round.first in
    let none = none_left left.items _ left.ok.0 c.in_default-next.ensures.cases.0 in record {
      can = was.3;
      tasks = all_done (map (λ own. task own.permit own.script.now own.first) made.items)
          (tasks left.items (drop (vec_len made) scripts) first) (tasks c.args.permits.items scripts first)
          (ap (λ ps. tasks ps (drop (vec_len made) scripts) first) none) was.4;
    }
