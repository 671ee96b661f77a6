use Rattle.std.proofs.{Common.{ap, subst, ◌∙◌}, lemmas.List.{map-append}}
use Rattle.std.specs.{List.{AllByRecursion}, Prelude.{option_to_list}}
use Rattle.auction_rows.specs.declared.requests.Object.{Object}
use Rattle.worker_slices.{proofs.Places.{stocks-append}, specs.Guessing.{AreGuessed, MayStand}}
use Rattle.worker_slices.specs.Slicing.{hot_objects, stocks_of, IsStocked}
use Rattle.worker_slices.specs.declared.slices.Hot.{Hot}
use Rattle.worker_slices.proofs.slices.Slices.pop.Goals as goal
use Rattle.phase_laws.proofs.ListLemmas.{all-left}

pub invariant_of-self-2 : goal.invariant_of-self-2
invariant_of-self-2 c =
    let rest = c.pop.new.self.entries in let last = option_to_list c.pop.result in
    let guesses = c.self.inside.guesses.places in (
      all-left IsStocked (stocks_of rest) (stocks_of last)
          (subst (AllByRecursion IsStocked) (ap stocks_of c.pop.ensures.entries ∙ stocks-append rest last) c.self.invariant.0),
      all-left (MayStand guesses) (hot_objects rest) (hot_objects last)
          (subst (AreGuessed guesses) (ap hot_objects c.pop.ensures.entries ∙ map-append (λ (hot : Object × Hot). hot.0) rest last) c.self.invariant.1),
    )
