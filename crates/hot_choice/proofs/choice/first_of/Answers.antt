use Rattle.std.proofs.Common.{subst, ◌∙◌, ◌≤◌, length, take}
use Rattle.hot_choice.proofs.ChoiceLemmas.{one_more_kept, all_kept}
use Rattle.hot_choice.proofs.choice.first_of.Goals as goal

pub loop-candidate-preserved : goal.loop-candidate-preserved
loop-candidate-preserved c =
    c.in_ok-insert.ensures.keys
    ∙ one_more_kept c.args.candidates.now c.min-count.result c.loop-candidate.candidate-index _ c.loop-candidate.hot.keys c.requires c.loop-candidate-test.true c.loop-candidate.invariant

pub returns : goal.returns
returns c =
    c.loop-candidate.invariant
    ∙ all_kept c.args.candidates.now c.args.hot_max c.loop-candidate.candidate-index
    (subst (λ n. c.loop-candidate.candidate-index ≤ length (take n c.args.candidates.now)) c.min-count.ensures c.loop-candidate.auto.candidate-index-end)
    (subst (λ n. length (take n c.args.candidates.now) ≤ c.loop-candidate.candidate-index) c.min-count.ensures c.loop-candidate-test.false)
