use Rattle.std.proofs.Common.{◌≡◌, ◌++◌, ◌∷◌, length, [], refl, take, slice_get, Some, None, add-one, sym, ap, subst, ◌∙◌, rules}
use Rattle.std.proofs.lemmas.{List.{take_all}, Option.{slice_get_read, slice_get-map}}
use Rattle.std.specs.{List.{AllByRecursion}, Map.{lookup}, Prelude.{option_map}}
use Rattle.indexmap.proofs.CallerLemmas.{insert_entry-new}
use Rattle.auction_rows.specs.contracts.requests.ObjectPartialEq.TheImpl.{eq-value as object_eq}
use Rattle.worker_slices.proofs.GuessLemmas.{one_more_guessed}
use Rattle.worker_slices.proofs.Places.{absent_before, one_more, stocks_of_rows}
use Rattle.worker_slices.specs.Guessing.{AreGuessed}
use Rattle.worker_slices.specs.Slicing.{hot_objects, stocks_of, slices_of, IsStocked}
use Rattle.worker_slices.proofs.slices.filled.Goals as goal

pub loop-object-preserved : goal.loop-object-preserved
loop-object-preserved c =
    let hot = c.args.hot.now in let k = c.loop-object.object-index in
    let entry = c.loop-object-item.result in let slices = slices_of (take k hot) [] in
    let at : slice_get hot k ≡ Some entry = slice_get_read hot (length hot) k entry refl c.loop-object-test.true c.loop-object-item.is in
    let object_at : slice_get (hot_objects hot) k ≡ Some entry.0 = slice_get-map (λ stock. stock.0) hot k ∙ ap (option_map (λ stock. stock.0)) at in
    let absent : lookup (object_eq.it entry.0) c.loop-object.slices.entries ≡ None =
    ap (lookup (object_eq.it entry.0)) c.loop-object.invariant.slices ∙ absent_before hot k entry.0 c.requires.distinct object_at in
    let added = c.in-Ok.ensures.entries ∙ insert_entry-new object_eq.it c.loop-object.slices entry.0 c.new.result absent in
    record {
      slices = added
          ∙ ap (λ es. es ++ (entry.0, c.new.result) ∷ []) c.loop-object.invariant.slices
          ∙ ap (λ h. slices ++ (entry.0, h) ∷ []) c.new.ensures
          ∙ sym (one_more hot k entry.0 entry.1 at)
          ∙ ap (λ n. slices_of (take n hot) []) (sym (add-one k));
      guessed = subst (λ hots. AreGuessed c.note.new.self.places (hot_objects hots)) (sym added)
          (one_more_guessed c.loop-object.guesses.places c.note.new.self.places c.loop-object.slices.entries entry.0 c.new.result c.loop-object.invariant.guessed c.note.ensures.kept c.note.ensures.noted);
    }

pub invariant_of-result : goal.invariant_of-result
invariant_of-result c =
    let hot = c.args.hot.now in
    let all : take c.loop-object.object-index hot ≡ hot = take_all c.loop-object.object-index hot (search rules) in (
      subst (AllByRecursion IsStocked)
          (sym (stocks_of_rows hot []) ∙ ap (λ hots. stocks_of (slices_of hots [])) (sym all) ∙ sym (ap stocks_of c.loop-object.invariant.slices))
          c.requires.stocked,
      c.loop-object.invariant.guessed,
    )
