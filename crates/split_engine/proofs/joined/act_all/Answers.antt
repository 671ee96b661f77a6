use Rattle.std.proofs.Common.{◌≡◌, ◌+◌, suc, length, drop, sym, ap, ◌∙◌, subst, arith}
use Rattle.std.proofs.Math.{Nat.{min-le_left, min-le_right}, Numerals.{add-one}}
use Rattle.std.{proofs.lemmas.List.{length-set}, specs.List.{zip, AllByRecursion}}
use Rattle.split_engine.{proofs.Splits.{zip_next, zip_end, fit_most}, specs.Serial.{after_acts}}
use Rattle.split_engine.specs.declared.few.TheConstants.{MOST_KEYS}
use Rattle.split_engine.proofs.joined.act_all.Goals as goal

pub act_on-requires-clause-fits : goal.act_on-requires-clause-fits
act_on-requires-clause-fits g c =
    let fits = c.requires.fits in (
      fits.0 + c.loop-place.place,
      omega (arith, fits.1, c.loop-place-test.true, c.min-place-end.ensures, min-le_right c.len.result c.len-2.result, c.len-2.ensures.value, c.len-2.ensures.few),
      c.loop-place.invariant.fits fits.0 fits.2,
    )

pub loop-place-preserved : goal.loop-place-preserved
loop-place-preserved g c =
    let s = g.A.Application in let was = c.loop-place.invariant in let table = c.loop-place.table.items in
    let keys = c.args.keys.now in let acts = c.args.acts.now in let place = c.loop-place.place in
    let next = zip_next keys acts place c.at.result c.at-in-loop-place.result
    (omega (arith, c.loop-place-test.true, c.min-place-end.ensures, min-le_left c.len.result c.len-2.result, c.len.ensures.value))
    (omega (arith, c.loop-place-test.true, c.min-place-end.ensures, min-le_right c.len.result c.len-2.result, c.len-2.ensures.value))
    c.at.ensures c.at-in-loop-place.ensures in record {
      rest = (λ i. after_acts s.rules (c.act_on.ensures.table i) (drop (add-one place i) (zip keys acts))) ∙ ap (after_acts s.rules table) (sym next) ∙ was.rest;
      len = ap length c.act_on.ensures.table ∙ length-set table c.at.result _ ∙ was.len;
      fits = λ n h.
          let more : suc (n + place) ≡ n + (place + 1) = omega arith in
          subst (λ m. AllByRecursion (s.fits m) c.act_on.new.table.items) more (c.act_on.ensures.fits (n + place) (was.fits n h));
    }

pub returns-clause-table : goal.returns-clause-table
returns-clause-table g c =
    let end = zip_end c.args.keys.now c.args.acts.now c.loop-place.place c.len.result c.len-2.result c.len.ensures.value c.len-2.ensures.value
    (omega (arith, c.loop-place-test.false, c.min-place-end.ensures)) in
    ap (after_acts g.A.Application.rules c.loop-place.table.items) (sym end) ∙ c.loop-place.invariant.rest

pub returns-clause-fits : goal.returns-clause-fits
returns-clause-fits g c n h =
    let s = g.A.Application in let place = c.loop-place.place in
    fit_most s.rules s.fits s.slice_fits s.is_small g.met.A.Application.laws (n + place) (n + MOST_KEYS) c.loop-place.table.items
    (omega (arith, c.loop-place.auto.place-end, c.min-place-end.ensures, min-le_right c.len.result c.len-2.result, c.len-2.ensures.value, c.len-2.ensures.few))
    (c.loop-place.invariant.fits n h)
