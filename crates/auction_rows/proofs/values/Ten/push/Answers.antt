use Rattle.std.proofs.Common.{arith, ◌<◌, ◌≡◌, ◌∷◌, [], ◌++◌, length, sym, ap, subst, ◌∙◌, length-append}
use Rattle.auction_rows.{proofs.TenPlaces.{filled-set, set-packed}, specs.Ten.{filled, ten_places}}
use Rattle.auction_rows.proofs.values.Ten.push.Goals as goal

pub invariant_of-self : goal.invariant_of-self
invariant_of-self g c =
    let here = c.self.inside in let held = c.self.invariant in let place = c.len-place.result in
    let len : length (filled here.places) ≡ place = ap length c.self.view_is ∙ sym c.len-place.ensures.length in
    let room : place < 10 = subst (λ n. n < 10) (sym c.len-place.ensures.length) c.requires.room in
    let front = filled-set here.places place c.args.value held.0 len room in (
      ap ten_places front ∙ sym (set-packed here.places place c.args.value held.0 len room),
      omega (arith, ap length front, length-append (filled here.places) (c.args.value ∷ []), held.1),
      omega (arith, len, held.1, room),
    )

pub returns : goal.returns
returns g c =
    let here = c.self.inside in let place = c.len-place.result in
    let len : length (filled here.places) ≡ place = ap length c.self.view_is ∙ sym c.len-place.ensures.length in
    let room : place < 10 = subst (λ n. n < 10) (sym c.len-place.ensures.length) c.requires.room in
    record { added = filled-set here.places place c.args.value c.self.invariant.0 len room ∙ ap (λ xs. xs ++ c.args.value ∷ []) c.self.view_is }

pub bounds-self-inside-place : goal.bounds-self-inside-place
bounds-self-inside-place g c = subst (λ n. n < 10) (sym c.len-place.ensures.length) c.requires.room

pub overflow_add-self : goal.overflow_add-self
overflow_add-self g c = omega (arith, c.self.invariant.2)
