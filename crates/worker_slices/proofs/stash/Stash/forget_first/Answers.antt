use Rattle.std.proofs.Common.{ap, ◌∙◌}
use Rattle.worker_slices.{proofs.StashLemmas.{one_taken}, specs.Stashes.{without_first}}
use Rattle.worker_slices.proofs.stash.Stash.forget_first.Goals as goal

pub returns : goal.returns
returns c =
    let stash = c.self.inside in
    one_taken stash.stored.items stash.performed stash.room ∙ ap without_first c.self.view_is
