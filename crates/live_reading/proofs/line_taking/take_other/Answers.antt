use Rattle.std.proofs.Common.{◌+◌, None, refl, subst, sym}
use Rattle.live_reading.{proofs.LiveLineLemmas.{whole_is_short}, specs.inner.Taking.{TakesSaid}}
use Rattle.live_reading.proofs.line_taking.take_other.Goals as goal

pub returns-in_ok-add-in-Some-clause-takes : goal.returns-in_ok-add-in-Some-clause-takes
returns-in_ok-add-in-Some-clause-takes c =
    let old = c.args.taken.now in
    subst (λ o. TakesSaid old o c.add.new.self None) (sym (c.in-Some.ensures.says (old.count + 1))) (c.in-Some.ensures.worker, (c.in_ok-add-in-Some.ensures.adds, refl))

pub take_read-requires-clause-short : goal.take_read-requires-clause-short
take_read-requires-clause-short c = whole_is_short c.args.line.now c.requires.whole c.requires.long
