use Rattle.std.{proofs.Common.{◌≡◌, ◌++◌, ◌∷◌, [], ◌-◌, refl, ap, ◌∙◌, arith}, specs.Vec.{vec_len}}
use Rattle.split_engine.proofs.Pieces.{flat-longer}
use Rattle.split_engine.proofs.history.History.push.Goals as goal

pub returns-in-Some : goal.returns-in-Some
returns-in-Some g c =
    let pieces = c.self.inside.pieces in let more = c.args.entry ∷ [] in
    flat-longer (λ piece. piece.items) pieces.items (vec_len pieces - 1) c.push.new.self c.in-Some.last.now more
    (let some = c.in-Some.ensures.variant.0 refl in omega (arith, pieces.ok.0, some))
    (c.in_ok-push.ensures.items ∙ ap (λ piece. piece.items ++ more) c.in-Some.ensures.value)
    ∙ ap (λ history. history ++ more) c.self.view_is
