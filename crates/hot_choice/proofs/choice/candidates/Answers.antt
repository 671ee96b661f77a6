use Rattle.std.proofs.{Common.{◌≡◌, ◌++◌, ap, sym, subst, ◌∙◌}, lemmas.List.{append-nil}}
use Rattle.std.specs.Prelude.{IsPermutation}
use Rattle.hot_choice.proofs.{ChoiceLemmas.{row_skipped}, RankLemmas.{sorted_is}}
use Rattle.hot_choice.specs.inner.Ranking.{hot_ones}
use Rattle.hot_choice.proofs.choice.candidates.Goals as goal

pub loop-object-init : goal.loop-object-init
loop-object-init c = ap (λ cs. cs ++ hot_ones c.args.threshold c.into_iter-object-iterator.result) c.new-candidates.ensures.items ∙ ap (hot_ones c.args.threshold) c.into_iter-object-iterator.ensures.into_iter_gives.0

pub loop-object-preserved : goal.loop-object-preserved
loop-object-preserved c =
    row_skipped c.args.threshold c.loop-object.candidates.items (c.in-Some.object.now, c.in-Some.heat.now) c.next.new.self c.loop-object.object-iterator c.in-Some.ensures.steps c.if-heat-threshold.false
    ∙ c.loop-object.invariant

pub returns : goal.returns
returns c =
    let all : c.loop-object.candidates.items ≡ hot_ones c.args.threshold c.args.heats.now.entries =
    sym (append-nil c.loop-object.candidates.items) ∙ ap (λ rows. c.loop-object.candidates.items ++ hot_ones c.args.threshold rows) (sym c.in-None.ensures.steps.0) ∙ c.loop-object.invariant in
    record {
      all = subst (λ cs. IsPermutation cs c.sort_unstable.new.self.items) all c.sort_unstable.ensures.permutation;
      ranked = sorted_is c.sort_unstable.new.self.items c.sort_unstable.ensures.sorted;
    }
