use Rattle.std.proofs.Common.{◌≡◌, ◌∙◌, false, length, refl, sym, ap, subst, arith}
use Rattle.std.{proofs.lemmas.List.{length-replicate}, specs.List.{each_same}}
use Rattle.std.specs.Prelude.{replicate}
use Rattle.history_check.{proofs.ScriptLemmas.{unmarked_new, wide_new}, specs.Marks.{is_marked}}
use Rattle.history_check.specs.inner.MarkRows.{AreWide}
use Rattle.history_check.proofs.replay.Marks.new.Goals as goal

pub invariant_of-result : goal.invariant_of-result
invariant_of-result c =
    let rows : c.in_ok-vec.field-0.items ≡ replicate c.longest-places.result (replicate 16 false) = c.in_ok-vec.ensures.items_if_clones_equal (λ row clone. each_same _ row clone.whole) in
    record { wide = subst AreWide (sym rows) (wide_new c.longest-places.result (replicate 16 false) refl) }

pub returns : goal.returns
returns c =
    let rows : c.in_ok-vec.field-0.items ≡ replicate c.longest-places.result (replicate 16 false) = c.in_ok-vec.ensures.items_if_clones_equal (λ row clone. each_same _ row clone.whole) in
    let long : length c.in_ok-vec.field-0.items ≡ c.longest-places.result = ap length rows ∙ length-replicate c.longest-places.result (replicate 16 false) in
    record {
      places = λ worker. omega (arith, c.longest-places.ensures worker, long);
      none = λ worker index below. subst (λ rows. is_marked rows worker index ≡ false) (sym rows) (unmarked_new c.longest-places.result 16 worker index);
    }
