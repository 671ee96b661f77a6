use Rattle.std.proofs.{Common.{ap, sym, ◌∙◌, subst}, lemmas.List.Sums.{fold-append}}
use Rattle.split_engine.proofs.Works.{replays_both}
use Rattle.split_engine.specs.Serial.{after_entry, ReplaysFrom, table_after}
use Rattle.split_engine.proofs.laws.runs_replay_as_one.Goals as goal

pub returns : goal.returns
returns g c table between first second one is two = let rules = g.A.Application.rules in (
  replays_both rules table first second one (subst (λ t. ReplaysFrom rules t second) is two),
  ap (λ t. table_after rules t second) is ∙ sym (fold-append (after_entry rules) table first second),
)
