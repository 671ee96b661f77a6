use Rattle.std.proofs.Common.{length, set, suc, ap, sym, ◌∙◌, subst, arith}
use Rattle.std.{proofs.lemmas.List.{get_or_default}, specs.List.{AllByRecursion}}
use Rattle.split_engine.proofs.KeptSlices.{kept_set, length-spread, of_kept, spread_act}
use Rattle.split_engine.{proofs.Splits.{slice_act_fits}, specs.Splitting.{after_slice_act}}
use Rattle.split_engine.specs.inner.Kept.{spread}
use Rattle.split_engine.proofs.slices.Slices.act.Goals as goal

pub place_of-requires-clause-within : goal.place_of-requires-clause-within
place_of-requires-clause-within g c =
    let rules = g.A.Application.rules in let own = c.self.inside in
    omega (arith, c.requires.within, ap length c.self.view_is, length-spread rules own.guesses.items own.keys.items own.slices.items)

pub place_of-requires-clause-kept : goal.place_of-requires-clause-kept
place_of-requires-clause-kept g c = c.self.invariant

-- the slice at the place is one of the spread ones
pub apply_to_slice-requires-clause-fits : goal.apply_to_slice-requires-clause-fits
apply_to_slice-requires-clause-fits g c =
    let s = g.A.Application in let fits = c.requires.fits in let found = c.in_ok-place.ensures in
    let guesses = c.place_of.new.guesses.items in let keys = c.place_of.new.keys.items in let slices = c.place_of.new.slices.items in
    let place = c.in_ok-place.place in
    let read = c.index_mut.ensures.value ∙ get_or_default slices place c.index_mut.result.now s.rules.empty (omega (arith, found.at.0, found.kept.long)) in (
      fits.0,
      fits.1,
      subst (s.slice_fits fits.0) (sym read)
          (of_kept s.rules (s.slice_fits fits.0) guesses keys slices place found.kept found.at.0
          (subst (AllByRecursion (s.slice_fits fits.0)) (sym (found.same ∙ c.self.view_is)) fits.2)),
    )

pub invariant_of-self-2 : goal.invariant_of-self-2
invariant_of-self-2 g c =
    kept_set c.place_of.new.guesses.items c.place_of.new.keys.items c.place_of.new.slices.items c.in_ok-place.place c.apply_to_slice.new.slice c.in_ok-place.ensures.kept

pub returns-clause-slices : goal.returns-clause-slices
returns-clause-slices g c =
    let s = g.A.Application in let found = c.in_ok-place.ensures in
    let guesses = c.place_of.new.guesses.items in let keys = c.place_of.new.keys.items in let slices = c.place_of.new.slices.items in
    let place = c.in_ok-place.place in let key = c.args.key in let x = c.args.act in
    let read = c.index_mut.ensures.value ∙ get_or_default slices place c.index_mut.result.now s.rules.empty (omega (arith, found.at.0, found.kept.long)) in
    ap (λ slice. spread s.rules guesses keys (set slices place slice)) (c.apply_to_slice.ensures ∙ ap (λ slice. s.rules.sliced slice x) read)
    ∙ spread_act s.rules guesses keys slices place key x found.kept found.at.0 found.at.1
    ∙ ap (λ all. after_slice_act s.rules all key x) (found.same ∙ c.self.view_is)

pub returns-clause-fits : goal.returns-clause-fits
returns-clause-fits g c n h =
    let s = g.A.Application in let found = c.in_ok-place.ensures in
    let guesses = c.place_of.new.guesses.items in let keys = c.place_of.new.keys.items in let slices = c.place_of.new.slices.items in
    let place = c.in_ok-place.place in let key = c.args.key in let x = c.args.act in
    let read = c.index_mut.ensures.value ∙ get_or_default slices place c.index_mut.result.now s.rules.empty (omega (arith, found.at.0, found.kept.long)) in
    let made = ap (λ slice. spread s.rules guesses keys (set slices place slice)) (c.apply_to_slice.ensures ∙ ap (λ slice. s.rules.sliced slice x) read)
    ∙ spread_act s.rules guesses keys slices place key x found.kept found.at.0 found.at.1
    ∙ ap (λ all. after_slice_act s.rules all key x) (found.same ∙ c.self.view_is) in
    subst (AllByRecursion (s.slice_fits (suc n))) (sym made)
    (slice_act_fits s.rules s.fits s.slice_fits s.is_small g.met.A.Application.laws n c.args.self.now key x c.requires.small h)

pub returns-clause-len : goal.returns-clause-len
returns-clause-len g c =
    let rules = g.A.Application.rules in let new = c.place_of.new in let found = c.in_ok-place.ensures in
    length-spread rules new.guesses.items new.keys.items (set new.slices.items c.in_ok-place.place c.apply_to_slice.new.slice)
    ∙ sym (length-spread rules new.guesses.items new.keys.items new.slices.items)
    ∙ ap length (found.same ∙ c.self.view_is)
