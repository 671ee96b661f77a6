use Rattle.std.proofs.Common.{◌≡◌, ◌<◌, ◌++◌, ◌∷◌, [], length, get_or, map, take, ap, sym, ◌∙◌, arith}
use Rattle.std.proofs.lemmas.List.{take_more, map_push}
use Rattle.worker_slices.specs.Stashes.{StashState}
use Rattle.phase_floor.specs.Begins.{empty_stash}
use Rattle.phase_floor.proofs.start.new_stashes.Goals as goal

pub loop-quota-preserved : goal.loop-quota-preserved
loop-quota-preserved c =
    let was = c.loop-quota.invariant in let p = c.in_ok-push.ensures in let e = c.in_ok-new_stash.ensures in
    let quotas = c.args.quotas.now in let i = c.loop-quota.quota-index in let below : i < length quotas = omega arith in let before = c.loop-quota.stashes.items in
    let made : c.in_ok-new_stash.field-0 ≡ empty_stash (get_or quotas i 0) = λ j. record { requests = e.empty j; done = e.fresh j; room = e.room j } in
    p.items ∙ ap (λ (s : StashState). before ++ s ∷ []) made ∙ ap (λ done. done ++ empty_stash (get_or quotas i 0) ∷ []) was
    ∙ sym (map_push empty_stash (take i quotas) (get_or quotas i 0)) ∙ ap (map empty_stash) (sym (take_more quotas i 0 below))
