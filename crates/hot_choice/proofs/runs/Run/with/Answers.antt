use Rattle.std.proofs.Common.{◌+◌, refl, sym, ◌∙◌}
use Rattle.auction_rows.proofs.RequestLemmas.{eq_is_same, same_object-true}
use Rattle.hot_choice.proofs.RunLemmas.{run_grown}
use Rattle.hot_choice.proofs.runs.Run.with.Goals as goal

pub returns-then-self-lt4294967295 : goal.returns-then-self-lt4294967295
returns-then-self-lt4294967295 c =
    let run = c.args.self in
    run_grown run (run.more + 1) c.args.object refl (same_object-true run.object c.args.object (sym (eq_is_same run.object c.args.object) ∙ sym c.eq.ensures ∙ c.if-eq.true))
