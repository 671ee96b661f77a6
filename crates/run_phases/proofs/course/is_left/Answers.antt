use Rattle.std.proofs.Common.{◌∙◌, List, ap, length, subst, sym}
use Rattle.auction_rows.specs.declared.requests.Request.{Request}
use Rattle.run_phases.specs.inner.Plans.{IsNoneLeft, IsSomeLeft}
use Rattle.run_phases.proofs.course.is_left.Goals as goal

pub is_left_of-requires : goal.is_left_of-requires
is_left_of-requires c = c.requires ∙ sym (ap length c.as_slice.ensures)

pub returns-clause-some : goal.returns-clause-some
returns-clause-some c = λ yes.
    subst (λ (scripts : List (List Request)). IsSomeLeft scripts c.args.stashes.now c.args.first)
    c.as_slice.ensures (c.is_left_of.ensures.some yes)

pub returns-clause-none : goal.returns-clause-none
returns-clause-none c = λ no.
    subst (λ (scripts : List (List Request)). IsNoneLeft scripts c.args.stashes.now c.args.first)
    c.as_slice.ensures (c.is_left_of.ensures.none no)
