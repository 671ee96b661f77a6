use Rattle.std.proofs.{Common.{◌∙◌}, lemmas.Result.{IfOk-weaker}}
use Rattle.auction_run.proofs.scripts.share.Goals as goal

pub returns : goal.returns
returns g c = IfOk-weaker c.new.result _ _ (λ shared is. is ∙ c.in_ok-into_compact.ensures) c.new.ensures
