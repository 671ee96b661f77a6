use Rattle.std.proofs.{Common.{List, map, take, ap, subst, sym, ◌∙◌}, lemmas.Result.{IfOk-weaker}}
use Rattle.std.specs.List.{IsDistinct}
use Rattle.auction_rows.specs.Requests.{same_object}
use Rattle.hot_choice.proofs.ChosenLemmas.{distinct, chosen}
use Rattle.hot_choice.specs.{declared.choice.Candidate.{Candidate}, inner.Runs.{objects_of}}
use Rattle.hot_choice.proofs.choice.hottest.Goals as goal

pub first_of-requires : goal.first_of-requires
first_of-requires c =
    subst (λ (cs : List Candidate). IsDistinct same_object (map (λ c. c.object) cs)) (sym c.deref.ensures.value)
    (distinct c.in_ok-heats.heats.entries c.args.threshold c.in_ok-candidates.candidates.items c.in_ok-heats.ensures.once c.in_ok-candidates.ensures)

pub returns : goal.returns
returns c =
    IfOk-weaker c.first_of.result _ _
    (λ hot are entries written. are ∙ ap (λ (cs : List Candidate). map (λ (c : Candidate). c.object) (take c.args.hot_max cs)) c.deref.ensures.value
    ∙ chosen entries (objects_of c.args.runs.now) c.in_ok-heats.heats.entries c.args.threshold c.in_ok-candidates.candidates.items written c.in_ok-heats.ensures c.in_ok-candidates.ensures c.args.hot_max)
    c.first_of.ensures
