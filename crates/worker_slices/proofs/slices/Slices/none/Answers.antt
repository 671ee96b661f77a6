use Rattle.std.{proofs.Common.{ap, subst, sym}, specs.List.{AllByRecursion}}
use Rattle.worker_slices.specs.{Guessing.{AreGuessed}, Slicing.{IsStocked, hot_objects, stocks_of}}
use Rattle.worker_slices.proofs.slices.Slices.none.Goals as goal

pub invariant_of-result : goal.invariant_of-result
invariant_of-result c = (
  subst (AllByRecursion IsStocked) (sym (ap stocks_of c.new.ensures.empty)) tt,
  subst (λ hots. AreGuessed c.none.result.places (hot_objects hots)) (sym c.new.ensures.empty) tt,
)

pub returns : goal.returns
returns c = c.new.ensures.empty
