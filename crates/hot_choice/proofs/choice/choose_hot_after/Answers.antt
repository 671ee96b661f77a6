use Rattle.std.proofs.{Common.{sym, ap, subst, ◌∙◌}, lemmas.Result.{IfOk-weaker}}
use Rattle.worker_journals.specs.Merged.{merged}
use Rattle.auction_rows.specs.Choosing.{choose}
use Rattle.hot_choice.{proofs.ChosenLemmas.{none_chosen}, specs.inner.Runs.{AreWritten, objects_of}}
use Rattle.hot_choice.proofs.choice.choose_hot_after.Goals as goal

pub returns-then-hot_max-eq0 : goal.returns-then-hot_max-eq0
returns-then-hot_max-eq0 c =
    c.new.ensures.empty ∙ sym (ap (choose (merged c.args.history.now.last) c.args.threshold) c.if-hot_max-eq0.true ∙ none_chosen (merged c.args.history.now.last) c.args.threshold)

pub returns : goal.returns
returns c =
    let entries = merged c.args.history.now.last in
    IfOk-weaker c.hottest.result _ _ (λ hot are. are entries (subst (λ runs. AreWritten entries (objects_of runs)) (sym c.deref.ensures.value) c.in_ok-runs.ensures)) c.hottest.ensures
