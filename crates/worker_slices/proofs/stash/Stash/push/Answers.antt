use Rattle.std.proofs.Common.{◌<◌, ◌-◌, ◌++◌, ◌∷◌, [], drop, ap, subst, sym, ◌∙◌, arith}
use Rattle.std.proofs.lemmas.List.{drop-append-le}
use Rattle.worker_slices.specs.Stashes.{StashState}
use Rattle.worker_slices.proofs.stash.Stash.push.Goals as goal

pub push_reserved-requires : goal.push_reserved-requires
push_reserved-requires c =
    let some : 0 < c.self.inside.room = subst (λ (stash : StashState). 0 < stash.room) (sym c.self.view_is) c.requires.room in
    omega (arith, some, c.self.invariant.1)

pub invariant_of-self : goal.invariant_of-self
invariant_of-self c =
    let some : 0 < c.self.inside.room = subst (λ (stash : StashState). 0 < stash.room) (sym c.self.view_is) c.requires.room in
    let pushed = c.push_reserved.ensures in (
      omega (arith, c.self.invariant.0, pushed.len),
      omega (arith, some, c.self.invariant.1, pushed.len, pushed.capacity),
    )

pub returns-clause-added : goal.returns-clause-added
returns-clause-added c =
    let stored = c.self.inside.stored in let performed = c.self.inside.performed in
    ap (drop performed) c.push_reserved.ensures.items
    ∙ drop-append-le performed stored.items ((c.args.index, c.args.request) ∷ []) (omega (arith, c.self.invariant.0, stored.ok.0))
    ∙ ap (λ (stash : StashState). stash.requests ++ (c.args.index, c.args.request) ∷ []) c.self.view_is

pub returns-clause-room : goal.returns-clause-room
returns-clause-room c = ap (λ (stash : StashState). stash.room - 1) c.self.view_is
