use Rattle.std.proofs.Common.{◌++◌, ◌∷◌, [], take, sym, ap, ◌∙◌}
use Rattle.std.{proofs.lemmas.List.{take_all, take_more}, specs.Prelude.{option_to_list}}
use Rattle.auction_rows.specs.Choosing.{objects_written}
use Rattle.hot_choice.{proofs.RunLemmas.{written_more}, specs.inner.Runs.{objects_of}}
use Rattle.hot_choice.proofs.runs.objects_written.Goals as goal

pub loop-entry-init : goal.loop-entry-init
loop-entry-init c = ap (λ rs. objects_of rs ++ []) c.in_ok-runs.ensures.items

pub loop-entry-preserved : goal.loop-entry-preserved
loop-entry-preserved c =
    let entries = c.args.entries.now in let i = c.loop-entry.entry-index in
    let e = c.entry-item.result in
    c.in_ok-run.ensures
    ∙ (λ k. c.loop-entry.invariant k ++ option_to_list (c.object_written.ensures k))
    ∙ sym (written_more (take i entries) e)
    ∙ ap objects_written (sym (take_more entries i e c.loop-entry-test.true ∙ ap (λ x. take i entries ++ x ∷ []) (sym c.entry-item.is)))

pub returns : goal.returns
returns c = c.in_ok-end_run.ensures ∙ c.loop-entry.invariant ∙ ap objects_written (take_all c.loop-entry.entry-index c.args.entries.now c.loop-entry-test.false)
