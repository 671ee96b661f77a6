use Rattle.std.proofs.Common.{◌≡◌, ◌+◌, ◌*◌, length, ap, sym, ◌∙◌, subst, arith}
use Rattle.std.{proofs.lemmas.List.{length-append}, specs.List.{AllByRecursion}}
use Rattle.split_engine.proofs.Splits.{slices_fit, length-slices, merged_fit}
use Rattle.split_engine.specs.{Splitting.{merged_all}, declared.few.TheConstants.{MOST_KEYS}}
use Rattle.split_engine.proofs.phases.take_in.Goals as goal

pub merge_into-guesses-requires-clause-len : goal.merge_into-guesses-requires-clause-len
merge_into-guesses-requires-clause-len g c =
    let s = g.A.Application in let d = c.requires.done in
    ap length d.2.done.slices_are
    ∙ length-slices s.rules s.fits s.slice_fits s.is_small g.met.A.Application.laws d.0.table c.args.own.journal.items ∙ d.1

pub merge_into-guesses-requires-clause-fits : goal.merge_into-guesses-requires-clause-fits
merge_into-guesses-requires-clause-fits g c =
    let s = g.A.Application in let d = c.requires.done in let fits = c.requires.fits in
    let m = length c.args.own.journal.items in (
      fits.0 + MOST_KEYS * length c.args.state.so_far.history,
      MOST_KEYS * m,
      omega (arith, fits.1, c.requires.room),
      fits.2,
      subst (λ ss. AllByRecursion (s.slice_fits (MOST_KEYS * m)) ss) (sym d.2.done.slices_are)
          (slices_fit s.rules s.fits s.slice_fits s.is_small g.met.A.Application.laws d.0.table c.args.own.journal.items d.2.done.split),
    )

pub returns-clause-fits : goal.returns-clause-fits
returns-clause-fits g c n h =
    let s = g.A.Application in let d = c.requires.done in
    let m = length c.args.own.journal.items in let n2 = n + MOST_KEYS * length c.args.state.so_far.history in
    let slices = subst (λ ss. AllByRecursion (s.slice_fits (MOST_KEYS * m)) ss) (sym d.2.done.slices_are)
    (slices_fit s.rules s.fits s.slice_fits s.is_small g.met.A.Application.laws d.0.table c.args.own.journal.items d.2.done.split) in
    let long : length c.add.new.self ≡ length c.args.state.so_far.history + m =
    ap length c.in_ok-add.ensures ∙ length-append c.args.state.so_far.history c.args.own.journal.items in
    let same : n2 + MOST_KEYS * m ≡ n + MOST_KEYS * length c.add.new.self = omega (arith, long) in
    subst (λ t. AllByRecursion (s.fits (n + MOST_KEYS * length c.add.new.self)) t) (sym c.merge_into-guesses.ensures)
    (subst (λ k. AllByRecursion (s.fits k) (merged_all s.rules c.args.state.so_far.table.items c.args.own.slices)) same
    (merged_fit s.rules s.fits s.slice_fits s.is_small g.met.A.Application.laws n2 (MOST_KEYS * m) c.args.state.so_far.table.items c.args.own.slices h slices))
