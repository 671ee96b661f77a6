use Rattle.std.proofs.{Common.{ap, ◌∙◌}, lemmas.Result.{IfOk-weaker}}
use Rattle.hot_choice.specs.inner.Runs.{how_often, objects_of}
use Rattle.hot_choice.proofs.choice.choose_hot.Goals as goal

pub returns : goal.returns
returns c =
    IfOk-weaker c.hottest.result _ _
    (λ hot are. are c.args.entries.now (λ object. ap (λ objects. how_often objects object) (ap objects_of c.deref.ensures.value ∙ c.in_ok-runs.ensures))) c.hottest.ensures
