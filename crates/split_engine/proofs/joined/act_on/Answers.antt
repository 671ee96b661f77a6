use Rattle.std.proofs.{Common.{suc, set, ap, sym, ◌∙◌, subst}, lemmas.List.{get_or_default}}
use Rattle.std.specs.List.{AllByRecursion}
use Rattle.split_engine.proofs.Splits.{act_fits}
use Rattle.split_engine.proofs.joined.act_on.Goals as goal

pub returns-clause-fits : goal.returns-clause-fits
returns-clause-fits g c n h =
    let items = c.args.table.now.items in
    let read = c.index_mut.ensures.value ∙ get_or_default items c.args.key c.index_mut.result.now g.A.Application.rules.blank c.requires.within in
    let made = c.apply.ensures ∙ ap (λ r. g.A.Application.rules.applied r c.args.act) read in
    subst (λ r. AllByRecursion (g.A.Application.fits (suc n)) (set items c.args.key r)) (sym made)
    (act_fits g.A.Application.rules g.A.Application.fits g.A.Application.slice_fits g.A.Application.is_small g.met.A.Application.laws n items c.args.key c.args.act c.requires.small h)
