use Rattle.std.proofs.Common.{◌<◌, length, sym, subst, ◌∙◌}
use Rattle.worker_slices.{proofs.StashLemmas.{one_back}, specs.Stashes.{StashState}}
use Rattle.worker_slices.proofs.stash.Stash.recall.Goals as goal

pub returns-clause-first : goal.returns-clause-first
returns-clause-first c =
    let stash = c.self.inside in
    sym c.self.view_is
    ∙ one_back stash.stored.items stash.performed stash.room (subst (λ (stash : StashState). 0 < length stash.done) (sym c.self.view_is) c.requires)
