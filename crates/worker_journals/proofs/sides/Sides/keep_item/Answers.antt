use Rattle.std.proofs.Common.{◌<◌, arith, ap, refl}
use Rattle.worker_journals.proofs.KeptLemmas.{item_kept}
use Rattle.worker_journals.{proofs.SaidLemmas.{says_item}, specs.inner.Sides.{SideLists}}
use Rattle.worker_journals.proofs.sides.Sides.keep_item.Goals as goal

pub keep_shown-requires : goal.keep_shown-requires
keep_shown-requires c =
    let some : 0 < c.self.inside.left = omega (arith, c.requires, ap (λ (s : SideLists). s.left) c.self.view_is) in
    omega (arith, some, c.self.invariant.0)

pub returns-clause-kept : goal.returns-clause-kept
returns-clause-kept c = item_kept _ _ _ _ _ _ _ c.self.view_is refl c.args.seen.now _ c.keep_shown.ensures.kept

pub returns-clause-reply : goal.returns-clause-reply
returns-clause-reply c = says_item _ _ _ _ _ _ c.args.seen.now c.keep_shown.ensures.there refl
