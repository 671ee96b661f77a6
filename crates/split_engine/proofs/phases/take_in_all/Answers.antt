use Rattle.std.proofs.Common.{◌≡◌, ◌++◌, ◌∷◌, [], ◌+◌, length, ap, refl, sym, ◌∙◌, subst, arith, append_assoc, append-nil}
use Rattle.std.specs.{List.{AllByRecursion, AllZip}, Vec.Iter.{into_iter_items}}
use Rattle.phase_laws.proofs.ListLemmas.{all-right}
use Rattle.split_engine.proofs.{Counts.{done_few, left-append}, KeptSlices.{length-merges}}
use Rattle.split_engine.proofs.States.{closed_none, closed_more, zip_first, zip_none, if_ok}
use Rattle.split_engine.specs.inner.Assignments.{HasClosed, left_of, all_left}
use Rattle.split_engine.proofs.phases.take_in_all.Goals as goal
use Rattle.job_threads.proofs.ThreadLemmas.{none_left}

pub loop-answer-init : goal.loop-answer-init
loop-answer-init g c = let s = g.A.Application in record {
  closed = λ given within same zip. (
    [],
    given,
    refl,
    subst (AllZip _ given) (sym c.into_iter-answer-iterator.ensures.into_iter_gives.0) zip,
    closed_none s.rules s.is_small s.fits c.args.so_far.table.items c.args.so_far.history c.in_ok-cursors.cursors.items c.in_ok-cursors.ensures.items,
  );
}

pub take_in-requires : goal.take_in-requires
take_in-requires g c =
    let s = g.A.Application in let given = c.requires.done in let fits = c.requires.fits in
    let was = c.loop-answer.invariant.closed given.0 given.2 given.3 given.4 in
    let first = zip_first _ was.1 c.in-Some.answer (into_iter_items c.next.new.self) (subst (AllZip _ was.1) c.in-Some.ensures.steps.0 was.3) in
    let tables = all-right _ was.0 was.1 (subst (AllByRecursion _) (sym was.2) given.3) in
    let same = (subst (AllByRecursion _) first.2 tables).0 in
    let next_in = (subst (AllByRecursion _) first.2 (all-right _ was.0 was.1 (subst (AllByRecursion _) (sym was.2) given.2))).0 in
    let has = if_ok _ c.in-Some.answer c.in_ok-answer.field-0 c.in_ok-answer.was first.3 in
    let done = c.in_ok-answer.field-0 in
    let few = done_few s.rules s.is_small first.0 done.cursor done.journal.items done.slices next_in has in
    let whole : all_left given.0 ≡ all_left was.0 + (left_of first.0 + all_left first.1) =
    ap all_left (sym was.2) ∙ left-append was.0 was.1 ∙ ap (λ more. all_left was.0 + all_left more) first.2 in
    record {
      done = (first.0, ap length same ∙ sym was.4.size_is, has);
      room = omega (arith, given.1, was.4.few, few, whole);
      fits = (fits.0, fits.1, was.4.fits fits.0 fits.2);
    }

pub loop-answer-preserved : goal.loop-answer-preserved
loop-answer-preserved g c = let s = g.A.Application in record {
  closed = λ given within same zip.
      let was = c.loop-answer.invariant.closed given within same zip in
      let first = zip_first _ was.1 c.in-Some.answer (into_iter_items c.next.new.self) (subst (AllZip _ was.1) c.in-Some.ensures.steps.0 was.3) in
      let tables = all-right _ was.0 was.1 (subst (AllByRecursion _) (sym was.2) same) in
      let own = (subst (AllByRecursion _) first.2 tables).0 in
      let next_in = (subst (AllByRecursion _) first.2 (all-right _ was.0 was.1 (subst (AllByRecursion _) (sym was.2) within))).0 in
      let has = if_ok _ c.in-Some.answer c.in_ok-answer.field-0 c.in_ok-answer.was first.3 in
      let done = c.in_ok-answer.field-0 in let mid = c.loop-answer.state in let new = c.in_ok-state.state in
      let e = c.in_ok-state.ensures in (
        was.0 ++ first.0 ∷ [],
        first.1,
        append_assoc was.0 (first.0 ∷ []) first.1 ∙ ap (λ xs. was.0 ++ xs) (sym first.2) ∙ was.2,
        first.4,
        closed_more s.rules s.is_small s.fits was.0 c.args.so_far.table.items mid.so_far.table.items new.so_far.table.items c.args.so_far.history mid.so_far.history new.so_far.history
            mid.cursors.items new.cursors.items first.0 done.cursor done.journal.items done.slices was.4 own has
            (done_few s.rules s.is_small first.0 done.cursor done.journal.items done.slices next_in has)
            e.table (ap length e.table ∙ length-merges s.rules mid.so_far.table.items done.slices)
            e.history e.cursors e.fits,
      );
}

pub returns : goal.returns
returns g c given within same zip =
    let s = g.A.Application in let was = c.loop-answer.invariant.closed given within same zip in
    let left = c.loop-answer.answer-iterator.rest in
    let none = zip_none _ was.1 left.items (none_left left.items _ left.ok.0 c.in-None.ensures.steps.0) was.3 in
    subst (λ all. HasClosed s.rules s.is_small s.fits all c.args.so_far.table.items c.args.so_far.history c.loop-answer.state.so_far.table.items c.loop-answer.state.so_far.history c.loop-answer.state.cursors.items)
    (sym (append-nil was.0) ∙ ap (λ xs. was.0 ++ xs) (sym none) ∙ was.2) was.4
