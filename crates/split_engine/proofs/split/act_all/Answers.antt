use Rattle.std.proofs.Common.{◌≡◌, ◌+◌, suc, drop, sym, ap, ◌∙◌, subst, arith}
use Rattle.std.proofs.Math.{Nat.{min-le_left, min-le_right}, Numerals.{add-one}}
use Rattle.std.specs.List.{zip, AllByRecursion}
use Rattle.split_engine.{proofs.Splits.{zip_next, zip_end}, specs.Splitting.{after_slice_acts}}
use Rattle.split_engine.proofs.split.act_all.Goals as goal

pub act-requires-clause-fits : goal.act-requires-clause-fits
act-requires-clause-fits g c =
    let fits = c.requires.fits in (
      fits.0 + c.loop-place.place,
      omega (arith, fits.1, c.loop-place-test.true, c.min-place-end.ensures, min-le_right c.len.result c.len-2.result, c.len-2.ensures.value, c.len-2.ensures.few),
      c.loop-place.invariant.fits fits.0 fits.2,
    )

pub loop-place-preserved : goal.loop-place-preserved
loop-place-preserved g c =
    let s = g.A.Application in let was = c.loop-place.invariant in let slices = c.loop-place.slices in let e = c.in_ok-act.ensures in
    let keys = c.args.keys.now in let acts = c.args.acts.now in let place = c.loop-place.place in
    let next = zip_next keys acts place c.at.result c.at-in-loop-place.result
    (omega (arith, c.loop-place-test.true, c.min-place-end.ensures, min-le_left c.len.result c.len-2.result, c.len.ensures.value))
    (omega (arith, c.loop-place-test.true, c.min-place-end.ensures, min-le_right c.len.result c.len-2.result, c.len-2.ensures.value))
    c.at.ensures c.at-in-loop-place.ensures in record {
      rest = (λ i. after_slice_acts s.rules (e.slices i) (drop (add-one place i) (zip keys acts))) ∙ ap (after_slice_acts s.rules slices) (sym next) ∙ was.rest;
      len = e.len ∙ was.len;
      fits = λ n h.
          let more : suc (n + place) ≡ n + (place + 1) = omega arith in
          subst (λ m. AllByRecursion (s.slice_fits m) c.act.new.self) more (e.fits (n + place) (was.fits n h));
    }

pub returns-clause-slices : goal.returns-clause-slices
returns-clause-slices g c =
    let end = zip_end c.args.keys.now c.args.acts.now c.loop-place.place c.len.result c.len-2.result c.len.ensures.value c.len-2.ensures.value
    (omega (arith, c.loop-place-test.false, c.min-place-end.ensures)) in
    ap (after_slice_acts g.A.Application.rules c.loop-place.slices) (sym end) ∙ c.loop-place.invariant.rest
