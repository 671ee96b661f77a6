use Rattle.std.proofs.Common.{◌≡◌, ◌+◌, [], ◌∷◌, length, take, drop, refl, sym, ap, ◌∙◌, subst, arith, length-append}
use Rattle.std.{proofs.lemmas.List.{length-set, take_all}, specs.List.{AllByRecursion}}
use Rattle.std.specs.{Iterator.Adapters.{zip_first, zip_second}, Vec.Iter.{into_iter_items}}
use Rattle.split_engine.proofs.{KeptSlices.{length-spread, of_kept, merged_first, record_fits, merged_one}, Zips.{next_at, all_done}}
use Rattle.split_engine.specs.{Splitting.{merged_all}, inner.Kept.{AreKept, spread}}
use Rattle.split_engine.proofs.slices.Slices.merge_into.Goals as goal

pub loop-key-init : goal.loop-key-init
loop-key-init g c =
    let s = g.A.Application in let fits = c.requires.fits in let guesses = c.self.inside.guesses.items in
    let it = c.into_iter-key-iterator.result in let same = c.into_iter-key-iterator.ensures.into_iter_gives in
    let keys : into_iter_items (zip_first it) ≡ c.self.inside.keys.items =
    ap (λ z. into_iter_items (zip_first z)) same ∙ ap into_iter_items c.zip-key-items.ensures.first ∙ c.into_iter.ensures.rest in
    let slices : into_iter_items (zip_second it) ≡ c.self.inside.slices.items = ap (λ z. into_iter_items (zip_second z)) same ∙ c.zip-key-items.ensures.second.0 in
    let kept : AreKept guesses (into_iter_items (zip_first it)) (into_iter_items (zip_second it)) =
    subst (λ ks. AreKept guesses ks (into_iter_items (zip_second it))) (sym keys) (subst (AreKept guesses c.self.inside.keys.items) (sym slices) c.self.invariant) in
    let all : spread s.rules guesses (into_iter_items (zip_first it)) (into_iter_items (zip_second it)) ≡ c.args.self =
    (λ i. spread s.rules guesses (keys i) (slices i)) ∙ c.self.view_is in record {
      kept = kept;
      all = all;
      keys_left = refl;
      slices_left = refl;
      size = refl;
      merged = merged_first s.rules s.fits s.slice_fits s.is_small g.met.A.Application.laws fits.0 c.args.table.now.items fits.3 guesses _ _ kept
          (sym (length-spread s.rules guesses _ _) ∙ ap length all ∙ c.requires.len) s.rules.blank;
    }

pub index_mut-requires : goal.index_mut-requires
index_mut-requires g c =
    let s = g.A.Application in let was = c.loop-key.invariant in let guesses = c.self.inside.guesses.items in
    let key = next_at _ _ (length c.loop-key.yielded) c.in-Some.key 0 (sym was.keys_left ∙ c.in-Some.ensures.steps.0.0) in
    omega (arith, was.kept.within (length c.loop-key.yielded) key.0, key.1, sym (length-spread s.rules guesses _ _) ∙ ap length was.all ∙ c.requires.len, was.size, c.loop-key.table.ok.0)

pub merge-requires : goal.merge-requires
merge-requires g c =
    let s = g.A.Application in let fits = c.requires.fits in let was = c.loop-key.invariant in let guesses = c.self.inside.guesses.items in
    let place = length c.loop-key.yielded in
    let key = next_at _ _ place c.in-Some.key 0 (sym was.keys_left ∙ c.in-Some.ensures.steps.0.0) in
    let slice = next_at _ _ place c.in-Some.slice s.rules.empty (sym was.slices_left ∙ c.in-Some.ensures.steps.1.0) in
    let same = sym (length-spread s.rules guesses _ _) ∙ ap length was.all ∙ c.requires.len in record {
      fits = (
        fits.0,
        fits.1,
        fits.2,
        subst (s.fits fits.0) (sym c.index_mut.ensures.value)
            (record_fits s.rules s.fits s.slice_fits s.is_small g.met.A.Application.laws fits.0 c.args.table.now.items fits.3 guesses _ _ was.kept same
            c.index_mut.result.now c.loop-key.table.items place c.in-Some.key key.0 was.merged (sym key.1)),
        subst (s.slice_fits fits.1) slice.1 (of_kept s.rules (s.slice_fits fits.1) guesses _ _ place was.kept key.0 (subst (AllByRecursion (s.slice_fits fits.1)) (sym was.all) fits.4)),
      );
    }

pub loop-key-preserved : goal.loop-key-preserved
loop-key-preserved g c =
    let s = g.A.Application in let fits = c.requires.fits in let was = c.loop-key.invariant in let guesses = c.self.inside.guesses.items in
    let place = length c.loop-key.yielded in
    let keys = into_iter_items (zip_first c.into_iter-key-iterator.result) in
    let slices = into_iter_items (zip_second c.into_iter-key-iterator.result) in
    let key = next_at _ _ place c.in-Some.key 0 (sym was.keys_left ∙ c.in-Some.ensures.steps.0.0) in
    let slice = next_at _ _ place c.in-Some.slice s.rules.empty (sym was.slices_left ∙ c.in-Some.ensures.steps.1.0) in
    let same = sym (length-spread s.rules guesses _ _) ∙ ap length was.all ∙ c.requires.len in
    let more : place + 1 ≡ length _ = sym (length-append c.loop-key.yielded ((c.in-Some.key, c.in-Some.slice) ∷ [])) in record {
      kept = was.kept;
      all = was.all;
      keys_left = key.2 ∙ ap (λ n. drop n keys) more;
      slices_left = slice.2 ∙ ap (λ n. drop n slices) more;
      size = length-set c.loop-key.table.items c.in-Some.key c.merge.new.held ∙ was.size;
      merged = merged_one s.rules s.fits s.slice_fits s.is_small g.met.A.Application.laws fits.0 c.args.table.now.items fits.3 guesses _ _ was.kept same
          c.index_mut.result.now c.loop-key.table.items place c.in-Some.key key.0 was.merged (sym key.1) c.in-Some.slice c.merge.new.held slice.1
          (c.merge.ensures ∙ ap (λ held. s.rules.merged held c.in-Some.slice) c.index_mut.ensures.value)
          ∙ ap (λ n. merged_all s.rules c.args.table.now.items (spread s.rules guesses (take n keys) (take n slices))) more;
    }

pub returns : goal.returns
returns g c =
    let s = g.A.Application in let was = c.loop-key.invariant in let guesses = c.self.inside.guesses.items in let place = length c.loop-key.yielded in
    let it = c.loop-key.key-iterator in
    let keys = into_iter_items (zip_first c.into_iter-key-iterator.result) in
    let slices = into_iter_items (zip_second c.into_iter-key-iterator.result) in
    let end = all_done keys slices place was.kept.long
    (λ x none. sym (it.a.rest.ok.0 ∙ ap length was.keys_left) ∙ none.0) (λ x none. sym (it.b.rest.ok.0 ∙ ap length was.slices_left) ∙ none.0) c.in-None.ensures.steps in
    was.merged
    ∙ (λ i. merged_all s.rules c.args.table.now.items (spread s.rules guesses (take_all place keys end i) (take_all place slices (omega (arith, end, was.kept.long)) i)))
    ∙ ap (merged_all s.rules c.args.table.now.items) was.all
