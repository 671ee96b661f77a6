use Rattle.std.proofs.{Common.{◌<◌, ◌+◌, ◌∷◌, ◌∙◌, length, drop, ap, sym, arith}, lemmas.List.{drop_more}}
use Rattle.split_engine.proofs.few.FewIterIterator.next.Goals as goal

-- the next thing is the first of those that are left
pub returns-clause-steps : goal.returns-clause-steps
returns-clause-steps g c =
    let e = c.self.inside in
    let within : e.place < length e.few.now = omega (arith, c.self.invariant) in
    sym c.self.view_is ∙ drop_more e.few.now e.place c.at-thing.result within ∙ ap (λ thing. thing ∷ drop (e.place + 1) e.few.now) (sym c.at-thing.ensures)
